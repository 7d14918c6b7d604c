-- A set that is read stands behind those before it, and one that is refused ends the reading.
use Rattle.std.proofs.Common.{◌++◌, ◌∷◌, ◌≡◌, ◌∙◌, [], ap, arith, flat_map, length, length-append, subst, sym}
use Rattle.std.proofs.lemmas.Result.{err_from_is_err_and}
use Rattle.std.specs.List.{AllByRecursion}
use Rattle.layouts.specs.AliveSets.{alive_bytes}
use Rattle.index_file.specs.Bodies.{IsShort}
use Rattle.index_file.proofs.SetsBack.{bytes_more, no_more_sets, short_more}
use Rattle.index_file.proofs.alive_sets_reader.take_sets.Goals as goal

pub returns-in_err-set-clause-err : goal.returns-in_err-set-clause-err
returns-in_err-set-clause-err c =
    let p = err_from_is_err_and c.from_residual.result c.from_residual.ensures.1 in
    let so_far = c.loop-i.invariant in
    rw (p.1, p.2) (λ other sets rest long are same.
    no_more_sets c.loop-i.sets.items sets c.loop-i.rest.now rest (omega (arith, so_far.each, long, c.loop-i-test.true)) so_far.short are (c.in_err-set.ensures.err other) (sym so_far.whole ∙ same))

pub loop-i-preserved : goal.loop-i-preserved
loop-i-preserved c =
    let so_far = c.loop-i.invariant in
    let set = c.in_ok-set.set in
    let pushed : c.push.new.self.items ≡ c.loop-i.sets.items ++ set ∷ [] = c.in_ok-push.ensures.items in
    record {
      each = ap length pushed ∙ length-append c.loop-i.sets.items (set ∷ []) ∙ omega (arith, so_far.each);
      short = subst (AllByRecursion IsShort) (sym pushed) (short_more c.loop-i.sets.items set so_far.short c.in_ok-set.ensures.short);
      whole = so_far.whole ∙ bytes_more c.loop-i.sets.items set c.loop-i.rest.now c.in_ok-set.after.now c.in_ok-set.ensures.whole ∙ ap (λ xs. flat_map alive_bytes xs ++ c.in_ok-set.after.now) (sym pushed);
    }
