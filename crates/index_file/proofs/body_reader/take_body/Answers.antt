-- What the steps of the reading find is the body, and where one of them finds nothing it is none.
use Rattle.std.proofs.Common.{◌∷◌, ◌≡◌, ◌≢◌, ◌∙◌, [], arith, length, map, rules, subst, sym}
use Rattle.std.proofs.lemmas.Bool.Decides.{nat_tests}
use Rattle.std.proofs.lemmas.List.{length-map}
use Rattle.std.proofs.lemmas.Result.{err_from_is_err_and}
use Rattle.common.proofs.WordBytes.{back_bytes as bytes_after}
use Rattle.definitions.specs.NumberCodes.{AreBytes}
use Rattle.index_file.proofs.BodiesBack.{body_is, is_body, no_end, no_number, no_parts, no_sets}
use Rattle.definitions.proofs.Lists.{no_numbers as nothing_left}
use Rattle.index_file.specs.Bodies.{IsBody}
use Rattle.index_file.specs.Parts.{part_of}
use Rattle.index_file.proofs.body_reader.take_body.Goals as goal

pub returns-in_err-rest-clause-err : goal.returns-in_err-rest-clause-err
returns-in_err-rest-clause-err c =
    let p = err_from_is_err_and c.from_residual.result c.from_residual.ensures.1 in
    rw (p.1, p.2) (λ other parts sets is. c.in_err-rest.ensures.err _ (is.body_is ∙ body_is parts sets))

pub returns-in_err-num_parts-clause-err : goal.returns-in_err-num_parts-clause-err
returns-in_err-num_parts-clause-err c =
    let p = err_from_is_err_and c.from_residual-in_err-num_parts.result c.from_residual-in_err-num_parts.ensures.1 in
    rw (p.1, p.2) (λ other parts sets is. no_number parts sets 2 c.in_ok-rest.rest.now c.in_err-num_parts.ensures.err.1 (subst (IsBody parts sets) c.in_ok-rest.ensures.ok is))

pub returns-in_err-parts-clause-err : goal.returns-in_err-parts-clause-err
returns-in_err-parts-clause-err c =
    let p = err_from_is_err_and c.from_residual-in_err-parts.result c.from_residual-in_err-parts.ensures.1 in
    rw (p.1, p.2) (λ other parts sets is.
    no_parts parts sets 2 c.in_ok-num_parts.num_parts c.in_ok-rest.rest.now c.in_ok-num_parts.rest.now c.in_ok-num_parts.ensures.ok (c.in_err-parts.ensures.err other) (subst (IsBody parts sets) c.in_ok-rest.ensures.ok is))

pub returns-in_err-alive-clause-err : goal.returns-in_err-alive-clause-err
returns-in_err-alive-clause-err c =
    let p = err_from_is_err_and c.from_residual-in_err-alive.result c.from_residual-in_err-alive.ensures.1 in
    let many : c.len.result ≡ length (map part_of c.in_ok-parts.parts.items) = omega (arith, c.len.ensures, length-map c.in_ok-parts.parts.items part_of) in
    rw (p.1, p.2) (λ other parts sets is.
    no_sets parts (map part_of c.in_ok-parts.parts.items) sets 2 c.in_ok-num_parts.num_parts c.len.result c.in_ok-rest.rest.now c.in_ok-num_parts.rest.now c.in_ok-parts.rest.now
    c.in_ok-num_parts.ensures.ok c.in_ok-parts.ensures.ok many (c.in_err-alive.ensures.err other) (subst (IsBody parts sets) c.in_ok-rest.ensures.ok is))

pub returns-then-not-is_empty-clause-err : goal.returns-then-not-is_empty-clause-err
returns-then-not-is_empty-clause-err c = λ other parts sets is.
    let many : c.len.result ≡ length (map part_of c.in_ok-parts.parts.items) = omega (arith, c.len.ensures, length-map c.in_ok-parts.parts.items part_of) in
    let some : c.in_ok-alive.rest.now ≢ [] = search rules in
    no_end parts (map part_of c.in_ok-parts.parts.items) sets c.in_ok-alive.alive.items 2 c.in_ok-num_parts.num_parts c.len.result c.in_ok-rest.rest.now c.in_ok-num_parts.rest.now c.in_ok-parts.rest.now c.in_ok-alive.rest.now
    c.in_ok-num_parts.ensures.ok c.in_ok-parts.ensures.ok many c.in_ok-alive.ensures.each c.in_ok-alive.ensures.short c.in_ok-alive.ensures.whole some (subst (IsBody parts sets) c.in_ok-rest.ensures.ok is)

pub returns-clause-ok : goal.returns-clause-ok
returns-clause-ok c =
    let parts = map part_of c.in_ok-parts.parts.items in
    let many : c.len.result ≡ length parts = omega (arith, c.len.ensures, length-map c.in_ok-parts.parts.items part_of) in
    let short : length c.in_ok-alive.rest.now ≡ 0 = grind (arith, nat_tests) in
    let none : c.in_ok-alive.rest.now ≡ [] = nothing_left c.in_ok-alive.rest.now short in
    let all : AreBytes c.args.body.now = λ i. (let f = (c.type_inv.body i).fits in omega (arith, f)) in
    let are : AreBytes c.in_ok-rest.rest.now = bytes_after (2 ∷ []) c.in_ok-rest.rest.now (subst AreBytes c.in_ok-rest.ensures.ok all) in
    subst (IsBody parts c.in_ok-alive.alive.items) (sym c.in_ok-rest.ensures.ok)
    (is_body parts c.in_ok-alive.alive.items c.in_ok-num_parts.num_parts c.len.result c.in_ok-rest.rest.now c.in_ok-num_parts.rest.now c.in_ok-parts.rest.now c.in_ok-alive.rest.now are
    c.in_ok-num_parts.ensures.ok c.in_ok-parts.ensures.ok many c.in_ok-alive.ensures.each c.in_ok-alive.ensures.short c.in_ok-alive.ensures.whole none)
