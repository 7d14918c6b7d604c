use Rattle.std.proofs.Common.{[], arith, rules, subst, sym, ◌<◌, ◌≡◌, ◌∷◌, ◌^◌}
use Rattle.common.proofs.WordBytes.{back_bytes as last_bytes}
use Rattle.definitions.specs.NumberCodes.{AreBytes}
use Rattle.segment_postings.proofs.FewNumbers.{few_stand}
use Rattle.segment_postings.specs.Placed.{HasFew}
use Rattle.segment_postings.proofs.positions_check.are_few.Goals as goal

pub returns : goal.returns
returns c = λ yes.
    (let first : c.args.positions.now ≡ 128 ∷ c.in-Some.rest.now = search rules in
    let small : c.in-Ok.sum < 2 ^ 31 = search rules in
    let digits = last_bytes (128 ∷ []) c.in-Some.rest.now (subst AreBytes first (λ i. omega (arith, c.type_inv.positions i))) in
    subst (λ xs. HasFew c.args.total xs) (sym first) (few_stand c.args.total c.in-Ok.sum c.in-Some.rest.now digits (omega arith) small c.in-Ok.ensures.ok.0))
