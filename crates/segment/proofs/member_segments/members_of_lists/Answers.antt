use Rattle.std.proofs.Common.{[], ap, arith, length, map, sym, ◌++◌, ◌<◌, ◌∙◌, ◌∷◌}
use Rattle.std.proofs.lemmas.List.{map_push}
use Rattle.segment.proofs.Counts.{zipped_more}
use Rattle.segment.specs.Members.{member_of}
use Rattle.segment.proofs.member_segments.members_of_lists.Goals as goal

pub loop-index-preserved : goal.loop-index-preserved
loop-index-preserved c =
    let l = c.loop-index in
    let segments = c.args.segments.now in
    let sets = c.args.sets.now in
    let inside = c.loop-index-test.true in
    let each = c.requires in
    let within : l.index < length sets = omega (arith, inside, each) in
    let segment = c.index-segments-index.result in
    let flags = c.index-sets-index.result in
    ap (map member_of) c.in_ok-push.ensures.items
    ∙ map_push member_of l.members.items _
    ∙ ap (λ ms. ms ++ (segment, flags) ∷ []) l.invariant
    ∙ sym (zipped_more l.index segments sets segment flags c.index-segments-index.is c.index-sets-index.is inside within)
