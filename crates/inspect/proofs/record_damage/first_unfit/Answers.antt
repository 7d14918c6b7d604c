use Rattle.std.proofs.Common.{Some, ap, arith, get_or, map, ◌∙◌}
use Rattle.std.proofs.lemmas.List.{length-map}
use Rattle.index_file.specs.Parts.{part_of}
use Rattle.index_file.specs.declared.part.Part.TheVariants.{Kept}
use Rattle.inspect.proofs.Members.{all_done, all_step}
use Rattle.inspect.proofs.Parts.{part_at}
use Rattle.inspect.specs.Reasons.{IsNewSegment}
use Rattle.inspect.proofs.record_damage.first_unfit.Goals as goal

pub loop-number-preserved : goal.loop-number-preserved
loop-number-preserved c =
    let parts = c.args.parts.now in
    let i = c.loop-number.number in
    all_step (IsNewSegment c.args.schema.now) (map part_of parts) i (part_of (get_or parts i (Kept 0))) (part_at parts i (Kept 0) c.loop-number-test.true) c.loop-number.invariant (c.in_ok-fits.ensures.yes c.if-not-fits.false)

pub returns-then-not-fits-clause-some : goal.returns-then-not-fits-clause-some
returns-then-not-fits-clause-some c =
    let parts = c.args.parts.now in
    let i = c.loop-number.number in
    let (segment, is, none) = c.in_ok-fits.ensures.no c.if-not-fits.true in
    (segment, part_at parts i (Kept 0) c.loop-number-test.true ∙ ap Some is, none)

pub returns-clause-none : goal.returns-clause-none
returns-clause-none c =
    let all = map part_of c.args.parts.now in
    all_done (IsNewSegment c.args.schema.now) all c.loop-number.number (omega (arith, length-map c.args.parts.now part_of, c.loop-number-test.false)) c.loop-number.invariant
