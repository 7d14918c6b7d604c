-- A part that is refused ends the reading, and one that is read stands behind those before it.
use Rattle.std.proofs.Common.{ap, map, ◌∙◌, ◌∷◌, []}
use Rattle.std.proofs.lemmas.List.{map-append}
use Rattle.std.proofs.lemmas.Result.{err_from_is_err_and}
use Rattle.common.proofs.Taking.{runs_pushed, runs_refused}
use Rattle.index_file.specs.Parts.{part_of, take_part}
use Rattle.index_file.proofs.parts_reader.take_parts.Goals as goal

pub returns-in_err-part-clause-err : goal.returns-in_err-part-clause-err
returns-in_err-part-clause-err c =
    let p = err_from_is_err_and c.from_residual.result c.from_residual.ensures.1 in
    rw (p.1, p.2) (λ other. runs_refused take_part c.args.num_parts c.loop-i._i c.args.bytes.now c.loop-i.rest.now (map part_of c.loop-i.parts.items) c.loop-i-test.true c.loop-i.invariant c.in_err-part.ensures.err.1)

pub loop-i-preserved : goal.loop-i-preserved
loop-i-preserved c =
    let so_far = c.loop-i.parts.items in
    let part = c.in_ok-part.part in
    runs_pushed take_part c.args.num_parts c.loop-i._i c.args.bytes.now c.loop-i.rest.now c.in_ok-part.after.now (map part_of so_far) (map part_of c.push.new.self.items) (part_of part) c.loop-i-test.true c.loop-i.invariant c.in_ok-part.ensures.ok (ap (map part_of) c.in_ok-push.ensures.items ∙ map-append part_of so_far (part ∷ []))
