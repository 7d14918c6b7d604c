use Rattle.std.proofs.Common.{List, ap, arith, drop, length, refl, rules, subst, sum, sym, take, true, ◌<◌, ◌≡◌, ◌∙◌, ◌^◌, ℕ}
use Rattle.std.proofs.Math.Logic.{∥∥₁_map}
use Rattle.std.proofs.lemmas.Result.{err_from_is_err_and}
use Rattle.common.proofs.DigitNumbers.{AreDigits}
use Rattle.segment_postings.proofs.FewNumbers.{total_known, whole_bounded}
use Rattle.segment_postings.specs.Placed.{LastPositionsFit}
use Rattle.segment_postings.specs.Reading.{HasPostings}
use Rattle.segment_postings.proofs.positions_check.check_many.Goals.{After-open}
use Rattle.segment_postings.proofs.positions_check.check_many.Goals as goal

-- the sum of the counts
total_is : (c : After-open) (docs counts : List ℕ) → HasPostings true true c.args.doc_freq c.args.postings.now docs counts → c.args.total ≡ sum counts
total_is c docs counts known =
    let short : length c.args.postings.now < 2 ^ 64 = omega arith in
    let digits : AreDigits 256 c.args.postings.now = λ i. omega (arith, c.type_inv.postings i) in
    total_known c.args.postings.now c.args.doc_freq c.args.total docs counts short digits c.requires known

pub returns-in_err-reader-clause-err : goal.returns-in_err-reader-clause-err
returns-in_err-reader-clause-err c =
    let p = err_from_is_err_and c.from_residual.result c.from_residual.ensures.1 in
    let refused = c.in_err-reader.ensures.err in
    rw (p.1, p.2) (refused.0, λ docs counts known h. refused.1 h.numbers h.stand)

pub returns-then-num_positions-total-clause-err : goal.returns-then-num_positions-total-clause-err
returns-then-num_positions-total-clause-err c =
    let here = (goal.at.returns-then-num_positions-total-clause-err c).After-open in
    let other = c.if-num_positions-total.true in
    let many = c.num_positions.ensures in (
      refl,
      λ docs counts known h.
          (let same = ap length (c.in_ok-reader.ensures.one h.numbers h.stand) in
          let numbers = h.many in
          let total = total_is here docs counts known in
          let is : c.num_positions.result ≡ c.args.total = omega (arith, many, same, numbers, total) in
          other is),
    )

pub is_bounded-requires-clause-within : goal.is_bounded-requires-clause-within
is_bounded-requires-clause-within c =
    let many = c.num_positions.ensures in
    let told = c.if-num_positions-total.false in
    omega (arith, many, told)

pub returns-then-is_bounded-clause-ok : goal.returns-then-is_bounded-clause-ok
returns-then-is_bounded-clause-ok c = λ docs counts known.
    (let here = (goal.at.returns-then-is_bounded-clause-ok c).After-open in
    let few : sum (take c.args.total (drop 0 c.in_ok-reader.reader)) < 2 ^ 31 = search rules in
    let total = total_is here docs counts known in
    let many = c.num_positions.ensures in
    let told = c.if-num_positions-total.false in
    record {
      numbers = c.in_ok-reader.reader;
      stand = c.in_ok-reader.ensures.ok;
      many = omega (arith, many, told, total);
      bounded = whole_bounded counts c.in_ok-reader.reader c.args.total total few;
    })

pub check_each-requires-clause-known : goal.check_each-requires-clause-known
check_each-requires-clause-known c =
    let same = ap length c.is_bounded.ensures.same in
    let many = c.num_positions.ensures in
    let told = c.if-num_positions-total.false in
    ∥∥₁_map c.requires (λ k. (k.0, k.1, k.2, (let total = k.3 in omega (arith, same, many, told, total))))

pub check_each-requires-clause-few : goal.check_each-requires-clause-few
check_each-requires-clause-few c =
    let same = ap length c.is_bounded.ensures.same in
    let many = c.num_positions.ensures in
    let told = c.if-num_positions-total.false in
    omega (arith, same, many, told)

pub returns-in_err-check_each-clause-err : goal.returns-in_err-check_each-clause-err
returns-in_err-check_each-clause-err c =
    let p = err_from_is_err_and c.from_residual-in_err-check_each.result c.from_residual-in_err-check_each.ensures.1 in
    let refused = c.in_err-check_each.ensures.err in
    rw (p.1, p.2) (refused.0, λ docs counts known h. refused.1 docs counts known (subst (λ xs. LastPositionsFit counts xs) (c.in_ok-reader.ensures.one h.numbers h.stand ∙ sym c.is_bounded.ensures.same) h.bounded))

pub returns-clause-ok : goal.returns-clause-ok
returns-clause-ok c = λ docs counts known.
    (let here = (goal.at.returns-clause-ok c).After-open in
    let total = total_is here docs counts known in
    let many = c.num_positions.ensures in
    let told = c.if-num_positions-total.false in
    record {
      numbers = c.in_ok-reader.reader;
      stand = c.in_ok-reader.ensures.ok;
      many = omega (arith, many, told, total);
      bounded = subst (λ xs. LastPositionsFit counts xs) c.is_bounded.ensures.same (c.in_ok-check_each.ensures.ok docs counts known);
    })
