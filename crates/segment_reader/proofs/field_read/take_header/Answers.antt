use Rattle.std.proofs.Common.{Some, ap, arith, refl, sym, ◌++◌, ◌<◌, ◌≡◌, ◌∙◌, ◌^◌, drop}
use Rattle.std.proofs.lemmas.List.{take_rest}
use Rattle.std.proofs.lemmas.Result.{err_from_is_err_and}
use Rattle.definitions.specs.NumberCodes.{take_u32}
use Rattle.segment_reader.proofs.HeadersTaken.{header_read, many_terms, no_terms, rest_long, spelled_as}
use Rattle.segment_reader.proofs.HeadersTaken.{bytes_drop}
use Rattle.segment_reader.specs.TermPlaces.{header_bytes}
use Rattle.segment_reader.proofs.field_read.take_header.Goals.{After-rest-3-1}
use Rattle.segment_reader.proofs.field_read.take_header.Goals as goal

pub returns-in_err-num_terms-clause-err : goal.returns-in_err-num_terms-clause-err
returns-in_err-num_terms-clause-err c =
    let section = c.args.section.now in
    let p = err_from_is_err_and c.from_residual-in_err-num_terms.result c.from_residual-in_err-num_terms.ensures.1 in
    let refused = c.in_err-num_terms.ensures.err in
    let small : c.args.field < 2 ^ 32 = omega (arith, c.ranges.field.fits) in
    let taken : take_u32 (drop c.args.offset section) ≡ Some (c.in_ok-number.number, c.in_ok-number.rest.now) = ap take_u32 (sym (take_rest section c.args.offset)) ∙ c.in_ok-number.ensures.ok in
    rw (p.1, p.2) (refused.0, λ tokens terms rest few_tokens few_terms is. no_terms (drop c.args.offset section) c.args.field c.in_ok-number.number c.in_ok-num_tokens.num_tokens c.in_ok-number.rest.now c.in_ok-num_tokens.rest.now small taken c.in_ok-num_tokens.ensures.ok refused.1 tokens terms rest few_tokens (omega (arith, few_terms)) is)

pub returns-then-num_terms-from-clause-err : goal.returns-then-num_terms-from-clause-err
returns-then-num_terms-from-clause-err c =
    let section = c.args.section.now in
    let test = c.if-num_terms-from.true in
    let small : c.args.field < 2 ^ 32 = omega (arith, c.ranges.field.fits) in
    let taken : take_u32 (drop c.args.offset section) ≡ Some (c.in_ok-number.number, c.in_ok-number.rest.now) = ap take_u32 (sym (take_rest section c.args.offset)) ∙ c.in_ok-number.ensures.ok in
    (refl, λ tokens terms rest few_tokens few_terms is. many_terms (drop c.args.offset section) c.args.field c.in_ok-number.number c.in_ok-num_tokens.num_tokens c.in_ok-num_terms.num_terms c.in_ok-number.rest.now c.in_ok-num_tokens.rest.now c.in_ok-num_terms.rest.now small taken c.in_ok-num_tokens.ensures.ok c.in_ok-num_terms.ensures.ok (omega (arith, test)) tokens terms rest few_tokens few_terms is)

spelled : (c : After-rest-3-1) → (c.in_ok-num_tokens.num_tokens < 2 ^ 64) × (c.in_ok-num_terms.num_terms < 2 ^ 64) × (drop c.args.offset c.args.section.now ≡ header_bytes c.args.field c.in_ok-num_tokens.num_tokens c.in_ok-num_terms.num_terms ++ c.in_ok-num_terms.rest.now)
spelled c =
    let section = c.args.section.now in
    let same : c.in_ok-number.number ≡ c.args.field = omega arith in
    let taken : take_u32 (drop c.args.offset section) ≡ Some (c.args.field, c.in_ok-number.rest.now) = ap take_u32 (sym (take_rest section c.args.offset)) ∙ c.in_ok-number.ensures.ok ∙ ap (λ n. Some (n, c.in_ok-number.rest.now)) same in
    spelled_as (drop c.args.offset section) c.args.field c.in_ok-num_tokens.num_tokens c.in_ok-num_terms.num_terms c.in_ok-number.rest.now c.in_ok-num_tokens.rest.now c.in_ok-num_terms.rest.now (bytes_drop c.args.offset section (λ i. omega (arith, c.type_inv.section i))) taken c.in_ok-num_tokens.ensures.ok c.in_ok-num_terms.ensures.ok

pub overflow_sub-result : goal.overflow_sub-result
overflow_sub-result c =
    let long = rest_long c.args.section.now c.args.offset c.args.field c.in_ok-num_tokens.num_tokens c.in_ok-num_terms.num_terms c.in_ok-num_terms.rest.now c.requires (spelled (goal.at.overflow_sub-result c).After-rest-3-1).2 in
    omega (arith, long)

pub returns-clause-ok : goal.returns-clause-ok
returns-clause-ok c =
    let all = spelled (goal.at.returns-clause-ok c).After-rest-3-1 in
    header_read c.args.section.now c.args.offset c.args.field c.in_ok-num_tokens.num_tokens c.in_ok-num_terms.num_terms c.in_ok-num_terms.rest.now c.requires all.0 (let few = c.if-num_terms-from.false in omega (arith, few)) all.2
