-- The bytes are a text exactly where they are UTF-8.
use Rattle.std.proofs.Common.{Bool, IsUtf8, List, Some, ap, false, refl, rules, sym, true, ◌≡◌, ◌∙◌, ℕ}
use Rattle.std.specs.Str.{is_utf8}
use Rattle.std.proofs.lemmas.Str.{IsUtf8-from_is_utf8, is_utf8-from_IsUtf8}
use Rattle.definitions.specs.Json.{only_if, ◌>>=◌}
use Rattle.definitions.specs.NumberCodes.{take_bytes, take_text}
use Rattle.common.proofs.number_codes.take_text.Goals as goal

-- what is taken where the bytes are known, by whether they are a text
text_of : (bytes text rest : List ℕ) (b : Bool) → take_bytes bytes ≡ Some (text, rest) → is_utf8 text ≡ b → take_text bytes ≡ only_if b (Some (text, rest))
text_of bytes text rest b taken is = ap (λ o. o >>= (λ p. only_if (is_utf8 p.0) (Some p))) taken ∙ ap (λ t. only_if t (Some (text, rest))) is

no_text : (text : List ℕ) → (IsUtf8 text → ⊥) → is_utf8 text ≡ false
no_text text other = go (is_utf8 text) refl
  where
    go : (b : Bool) → is_utf8 text ≡ b → b ≡ false
    go false e = refl
    go true e = absurd (other (IsUtf8-from_is_utf8 text e))

pub returns-in-Ok-clause-ok : goal.returns-in-Ok-clause-ok
returns-in-Ok-clause-ok c =
    let taken : take_bytes c.args.bytes.now ≡ Some (c.in_ok-text.text.now, c.in_ok-text.rest.now) = search rules in
    let same : c.in-Ok.text.now ≡ c.in_ok-text.text.now = search rules in
    let utf8 : IsUtf8 c.in_ok-text.text.now = search rules in
    text_of c.args.bytes.now c.in_ok-text.text.now c.in_ok-text.rest.now true taken (is_utf8-from_IsUtf8 c.in_ok-text.text.now utf8)
    ∙ ap (λ t. Some (t, c.in_ok-text.rest.now)) (sym same)

pub returns-in-Err-clause-err : goal.returns-in-Err-clause-err
returns-in-Err-clause-err c =
    let taken : take_bytes c.args.bytes.now ≡ Some (c.in_ok-text.text.now, c.in_ok-text.rest.now) = search rules in
    let other : IsUtf8 c.in_ok-text.text.now → ⊥ = search rules in
    (refl, text_of c.args.bytes.now c.in_ok-text.text.now c.in_ok-text.rest.now false taken (no_text c.in_ok-text.text.now other))
