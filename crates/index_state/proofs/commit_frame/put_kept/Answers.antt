use Rattle.std.proofs.Common.{ap, append_assoc, flat_map, sym, ◌++◌, ◌+◌, ◌-◌, ◌∙◌}
use Rattle.index_state.proofs.BodyMade.{kept_first}
use Rattle.index_state.specs.Bodies.{kept_from}
use Rattle.segment_definitions.specs.ListBodies.{kept, part_bytes}
use Rattle.index_state.proofs.commit_frame.put_kept.Goals as goal

pub loop-index-preserved : goal.loop-index-preserved
loop-index-preserved c =
    let l = c.loop-index in
    let rest = flat_map part_bytes (kept_from (l.index + 1) (c.args.to - (l.index + 1))) in
    ap (λ bs. bs ++ rest) c.in_ok-put_kept.ensures
    ∙ append_assoc l.body (part_bytes (kept l.index)) rest
    ∙ ap (λ ps. l.body ++ flat_map part_bytes ps) (sym (kept_first l.index c.args.to c.loop-index-test.true))
    ∙ l.invariant
