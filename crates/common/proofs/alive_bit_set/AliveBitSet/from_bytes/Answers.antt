use Rattle.std.proofs.Common.{Some, ap, arith, inr, length, refl, rules, sym, ◌*◌, ◌+◌, ◌/◌, ◌≡◌, ◌∙◌}
use Rattle.common.proofs.AliveSetBytes.{length-words_bytes, other_length, other_words, set_of}
use Rattle.definitions.specs.NumberCodes.{take_u32}
use Rattle.common.proofs.alive_bit_set.AliveBitSet.from_bytes.Goals as goal

pub returns-then-rest-num_words-clause-err : goal.returns-then-rest-num_words-clause-err
returns-then-rest-num_words-clause-err c =
    let taken : take_u32 c.args.bytes.now ≡ Some (c.in_ok-max_doc.max_doc, c.in_ok-max_doc.rest.now) = search rules in
    inr (refl, λ flags. other_length flags c.args.bytes.now c.in_ok-max_doc.max_doc c.in_ok-max_doc.rest.now taken (λ same. c.if-rest-num_words.true (same ∙ ap (λ m. 8 * m) (sym c.num_words.ensures))))

pub from_words-requires : goal.from_words-requires
from_words-requires c =
    let long = length-words_bytes c.in_ok-words.words.items in
    let same = ap length c.in_ok-words.ensures in
    omega (arith, c.if-rest-num_words.false, c.num_words.ensures)

pub returns-in-Some-clause-ok : goal.returns-in-Some-clause-ok
returns-in-Some-clause-ok c =
    let taken : take_u32 c.args.bytes.now ≡ Some (c.in_ok-max_doc.max_doc, c.in_ok-max_doc.rest.now) = search rules in
    set_of c.in-Some.alive c.args.bytes.now c.in_ok-max_doc.max_doc c.in_ok-max_doc.rest.now c.in_ok-words.words.items (λ i. omega (arith, c.type_inv.bytes i)) taken c.in_ok-words.ensures c.in-Some.ensures.some.0 c.in-Some.ensures.some.1

pub returns-in-None-clause-err : goal.returns-in-None-clause-err
returns-in-None-clause-err c =
    let taken : take_u32 c.args.bytes.now ≡ Some (c.in_ok-max_doc.max_doc, c.in_ok-max_doc.rest.now) = search rules in
    let long = length-words_bytes c.in_ok-words.words.items in
    let same = ap length c.in_ok-words.ensures in
    let count : length c.in_ok-words.words.items ≡ (c.in_ok-max_doc.max_doc + 63) / 64 = omega (arith, c.if-rest-num_words.false, c.num_words.ensures) in
    inr (refl, λ flags. other_words flags c.args.bytes.now c.in_ok-max_doc.max_doc c.in_ok-max_doc.rest.now c.in_ok-words.words.items taken c.in_ok-words.ensures count c.in-None.ensures.small (c.in-None.ensures.none flags))
