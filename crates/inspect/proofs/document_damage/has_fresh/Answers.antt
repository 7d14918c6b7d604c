use Rattle.std.proofs.Common.{arith, get_or, map, ◌≡◌}
use Rattle.std.proofs.lemmas.List.{length-map}
use Rattle.index_file.specs.Parts.{part_of}
use Rattle.index_file.specs.declared.part.Part.TheVariants.{Kept}
use Rattle.inspect.proofs.Members.{all_done, all_step, contains_at, none_contained}
use Rattle.inspect.proofs.Parts.{part_at}
use Rattle.segment_definitions.specs.ListBodies.{Part, fresh}
use Rattle.inspect.proofs.document_damage.has_fresh.Goals as goal

pub loop-part-preserved : goal.loop-part-preserved
loop-part-preserved c =
    let parts = c.args.parts.now in
    let i = c.loop-part.part-index in
    all_step (λ (p : Part). ¬ (p ≡ fresh c.args.segment.now)) (map part_of parts) i (part_of (get_or parts i (Kept 0))) (part_at parts i (Kept 0) c.loop-part-test.true) c.loop-part.invariant (c.is_fresh.ensures.no c.if-is_fresh.false)

pub returns-then-is_fresh-clause-yes : goal.returns-then-is_fresh-clause-yes
returns-then-is_fresh-clause-yes c =
    let parts = c.args.parts.now in
    let i = c.loop-part.part-index in
    λ told. contains_at (map part_of parts) i (part_of (get_or parts i (Kept 0))) (fresh c.args.segment.now) (part_at parts i (Kept 0) c.loop-part-test.true) (c.is_fresh.ensures.yes c.if-is_fresh.true)

pub returns-clause-no : goal.returns-clause-no
returns-clause-no c = λ told.
    let all = map part_of c.args.parts.now in
    none_contained (fresh c.args.segment.now) all (all_done (λ (p : Part). ¬ (p ≡ fresh c.args.segment.now)) all c.loop-part.part-index (omega (arith, length-map c.args.parts.now part_of, c.loop-part-test.false)) c.loop-part.invariant)
