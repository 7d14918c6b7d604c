use Rattle.std.proofs.Common.{arith, get_or, refl, ◌%◌, ◌*◌, ◌+◌, ◌/◌, ◌<◌, ◌≤◌, ◌^◌, ℕ}
use Rattle.std.specs.Int.{trailing_zeros, w64}
use Rattle.common.proofs.FirstBits.{first_here, first_later, fits_here, none_after, none_here, none_more, none_past}
use Rattle.common.proofs.bit_words.first_bit.Goals as goal

pub returns-then-at-words : goal.returns-then-at-words
returns-then-at-words c = none_past c.args.words.now c.args.from c.if-at-words.true

-- a place in a word of the first 2^26 fits
sum_fits : (from bit : ℕ) → from < 2 ^ 32 → from % 64 + bit < 64 → from + bit < 2 ^ 32
sum_fits from bit few fits = omega arith

pub overflow_add-result : goal.overflow_add-result
overflow_add-result c =
    let words = c.args.words.now in
    let rest = get_or words (c.args.from / 64) 0 / 2 ^ (c.args.from % 64) in
    let fits : c.args.from % 64 + trailing_zeros w64 rest < 64 = fits_here words c.args.from rest (trailing_zeros w64 rest) (λ i. omega (arith, c.type_inv.words i)) refl c.if-rest-ne0.true refl in
    let few : c.args.from < 2 ^ 32 = c.ranges.from.fits in
    let sum : c.args.from + trailing_zeros w64 rest < 2 ^ 32 = sum_fits c.args.from (trailing_zeros w64 rest) few fits in
    omega arith

pub returns-then-rest-ne0 : goal.returns-then-rest-ne0
returns-then-rest-ne0 c =
    let words = c.args.words.now in
    let rest = get_or words (c.args.from / 64) 0 / 2 ^ (c.args.from % 64) in
    first_here words c.args.from rest (trailing_zeros w64 rest) (λ i. omega (arith, c.type_inv.words i)) refl c.if-rest-ne0.true refl

pub loop-i-init : goal.loop-i-init
loop-i-init c = none_here c.args.words.now c.args.from (get_or c.args.words.now (c.args.from / 64) 0 / 2 ^ (c.args.from % 64)) refl c.if-rest-ne0.false

pub returns-then-word-ne0 : goal.returns-then-word-ne0
returns-then-word-ne0 c =
    let words = c.args.words.now in
    let word = get_or words c.loop-i.i 0 in
    let later : c.args.from ≤ 64 * c.loop-i.i = (let after = c.loop-i.auto.i in omega arith) in
    first_later words c.args.from c.loop-i.i word (trailing_zeros w64 word) c.loop-i.invariant later refl (omega (arith, c.type_inv.words c.loop-i.i)) c.if-word-ne0.true refl

pub loop-i-preserved : goal.loop-i-preserved
loop-i-preserved c = none_more c.args.words.now c.args.from c.loop-i.i c.loop-i.invariant c.if-word-ne0.false

pub returns : goal.returns
returns c = none_after c.args.words.now c.args.from c.loop-i.i c.loop-i.invariant c.loop-i-test.false
