-- Tokens as a document holds them: what was put is taken back, and what is taken was put.
use Rattle.std.proofs.Common.{[], ◌++◌, ◌-◌, ◌<◌, ◌≤◌, ◌^◌, ◌∷◌, ◌≡◌, ◌∙◌, IsUtf8, List, None, Option, Some, ap, ap₂, append_assoc, arith, flat_map, length, nat_le, option_map, refl, subst, suc, sym, true, zero, ℕ}
use Rattle.std.proofs.lemmas.Bool.Decides.{nat_tests}
use Rattle.definitions.proofs.Lists.{le_of, bind_some}
use Rattle.common.proofs.TakenBack.{text_back, text_put, vint_back, vint_put}
use Rattle.definitions.specs.Json.{only_if, ◌>>=◌}
use Rattle.definitions.specs.NumberCodes.{AreBytes, sized_bytes, take_text, take_vint, vint_bytes}
use Rattle.definitions.specs.Values.{AreTokens, AreTokensFrom, Token}
use Rattle.document_values.specs.Held.{AreSizedTokens, token_bytes, tokens_bytes}
use Rattle.layouts.specs.DocumentReading.{take_token, take_tokens, take_tokens_from, taken_map}
use Rattle.common.proofs.Many.{map_some, only_some, parts_are}
use Rattle.common.proofs.WordBytes.{back_bytes as bytes_after}

-- ---- one token

pub record IsToken (least : ℕ) (t : Token) : Type 0 where
  pub after : least ≤ t.position
  pub position : t.position < 2 ^ 64
  pub span : t.position_length < 2 ^ 64
  pub text : IsUtf8 t.text
  pub short : length t.text < 2 ^ 64

abbrev Put : ℕ → List ℕ → List ℕ → Token → Type 0
Put least bs rest t = IsToken least t × (bs ≡ token_bytes t ++ rest)

-- the token of these parts
abbrev made : ℕ → ℕ → List ℕ → Token
made position span text = record { position = position; position_length = span; text = text }

-- the token, where it doesn't stand before that position
abbrev checked : ℕ → ℕ → ℕ → List ℕ × List ℕ → Option (Token × List ℕ)
checked least position span s = only_if (nat_le least position) (Some (made position span s.0, s.1))

abbrev with_span : ℕ → ℕ → ℕ × List ℕ → Option (Token × List ℕ)
with_span least position l = take_text l.1 >>= checked least position l.0

abbrev with_position : ℕ → ℕ × List ℕ → Option (Token × List ℕ)
with_position least p = take_vint p.1 >>= with_span least p.0

spelled : (position span : ℕ) (text bs b1 b2 b3 : List ℕ) → bs ≡ vint_bytes position ++ b1 → b1 ≡ vint_bytes span ++ b2 → b2 ≡ sized_bytes text ++ b3 → bs ≡ token_bytes (made position span text) ++ b3
spelled position span text bs b1 b2 b3 e1 e2 e3 =
    e1 ∙ ap (λ ys. vint_bytes position ++ ys) (e2 ∙ ap (λ ys. vint_bytes span ++ ys) e3 ∙ sym (append_assoc (vint_bytes span) (sized_bytes text) b3))
    ∙ sym (append_assoc (vint_bytes position) (vint_bytes span ++ sized_bytes text) b3)

after_text : (least position span : ℕ) (bs b1 b2 rest : List ℕ) (t : Token) → AreBytes b2 → position < 2 ^ 64 → span < 2 ^ 64 → bs ≡ vint_bytes position ++ b1 → b1 ≡ vint_bytes span ++ b2 → (s : List ℕ × List ℕ) → take_text b2 ≡ Some s → checked least position span s ≡ Some (t, rest) → Put least bs rest t
after_text least position span bs b1 b2 rest t bytes small small2 e1 e2 s taken e =
    let o = only_some (nat_le least position) (Some (made position span s.0, s.1)) (t, rest) e in
    let are = parts_are (made position span s.0, s.1) t rest o.1 in
    let text = text_put b2 s.0 s.1 bytes taken in
    subst (λ t. Put least bs rest t) are.0 (record { after = le_of least position o.0; position = small; span = small2; text = text.0; short = text.1 }, subst (λ r. bs ≡ token_bytes (made position span s.0) ++ r) are.1 (spelled position span s.0 bs b1 b2 s.1 e1 e2 text.2))

after_span : (least position : ℕ) (bs b1 rest : List ℕ) (t : Token) → AreBytes b1 → position < 2 ^ 64 → bs ≡ vint_bytes position ++ b1 → (l : ℕ × List ℕ) → take_vint b1 ≡ Some l → with_span least position l ≡ Some (t, rest) → Put least bs rest t
after_span least position bs b1 rest t bytes small e1 l taken e =
    let span = vint_put b1 l.0 l.1 bytes taken in
    let s = bind_some (take_text l.1) (checked least position l.0) (t, rest) e in
    after_text least position l.0 bs b1 l.1 rest t (bytes_after (vint_bytes l.0) l.1 (subst AreBytes span.1 bytes)) small span.0 e1 span.1 s.0 s.1 s.2

token_put : (least : ℕ) (bs rest : List ℕ) (t : Token) → AreBytes bs → take_token least bs ≡ Some (t, rest) → Put least bs rest t
token_put least bs rest t bytes e =
    let p = bind_some (take_vint bs) (with_position least) (t, rest) e in
    let position = vint_put bs p.0.0 p.0.1 bytes p.1 in
    let l = bind_some (take_vint p.0.1) (with_span least p.0.0) (t, rest) p.2 in
    after_span least p.0.0 bs p.0.1 rest t (bytes_after (vint_bytes p.0.0) p.0.1 (subst AreBytes position.1 bytes)) position.0 position.1 l.0 l.1 l.2

token_back : (least : ℕ) (t : Token) (rest : List ℕ) → IsToken least t → take_token least (token_bytes t ++ rest) ≡ Some (t, rest)
token_back least t rest is =
    let after : nat_le least t.position ≡ true = (let a = is.after in grind (arith, nat_tests)) in
    ap (take_token least) (append_assoc (vint_bytes t.position) (vint_bytes t.position_length ++ sized_bytes t.text) rest ∙ ap (λ ys. vint_bytes t.position ++ ys) (append_assoc (vint_bytes t.position_length) (sized_bytes t.text) rest))
    ∙ ap (λ o. o >>= with_position least) (vint_back t.position (vint_bytes t.position_length ++ (sized_bytes t.text ++ rest)) is.position)
    ∙ ap (λ o. o >>= with_span least t.position) (vint_back t.position_length (sized_bytes t.text ++ rest) is.span)
    ∙ ap (λ o. o >>= checked least t.position t.position_length) (text_back t.text rest is.text is.short)
    ∙ ap (λ b. only_if b (Some (t, rest))) after

-- ---- many

from_put : (least n : ℕ) (bs rest : List ℕ) (ts : List Token) → AreBytes bs → take_tokens_from least n bs ≡ Some (ts, rest) → AreTokensFrom least ts × AreSizedTokens ts × (length ts ≡ n) × (bs ≡ flat_map token_bytes ts ++ rest)
from_put least zero bs rest ts bytes e = (let are = parts_are ([], bs) ts rest e in subst (λ ts. AreTokensFrom least ts × AreSizedTokens ts × (length ts ≡ zero) × (bs ≡ flat_map token_bytes ts ++ rest)) are.0 (tt, tt, refl, are.1))
from_put least (suc n) bs rest ts bytes e =
    let one = bind_some (take_token least bs) (λ p. taken_map (λ ys. p.0 ∷ ys) (take_tokens_from p.0.position n p.1)) (ts, rest) e in
    let more = map_some (λ ys. one.0.0 ∷ ys) (take_tokens_from one.0.0.position n one.0.1) ts rest one.2 in
    let first = token_put least bs one.0.1 one.0.0 bytes one.1 in
    let others = from_put one.0.0.position n one.0.1 rest more.0 (bytes_after (token_bytes one.0.0) one.0.1 (subst AreBytes first.1 bytes)) more.1 in
    subst (λ ts. AreTokensFrom least ts × AreSizedTokens ts × (length ts ≡ suc n) × (bs ≡ flat_map token_bytes ts ++ rest)) more.2 (
      (first.0.after, first.0.text, others.0),
      ((first.0.position, first.0.span, first.0.short), others.1),
      ap suc others.2,
      first.1 ∙ ap (λ ys. token_bytes one.0.0 ++ ys) others.3 ∙ sym (append_assoc (token_bytes one.0.0) (flat_map token_bytes more.0) rest),
    )

from_back : (least : ℕ) (ts : List Token) (rest : List ℕ) → AreTokensFrom least ts → AreSizedTokens ts → take_tokens_from least (length ts) (flat_map token_bytes ts ++ rest) ≡ Some (ts, rest)
from_back least [] rest are sized = refl
from_back least (t ∷ ts) rest are sized =
    ap (take_tokens_from least (suc (length ts))) (append_assoc (token_bytes t) (flat_map token_bytes ts) rest)
    ∙ ap (λ o. o >>= (λ p. taken_map (λ ys. p.0 ∷ ys) (take_tokens_from p.0.position (length ts) p.1))) (token_back least t (flat_map token_bytes ts ++ rest) (record { after = are.0; position = sized.0.0; span = sized.0.1; text = are.1; short = sized.0.2 }))
    ∙ ap (taken_map (λ ys. t ∷ ys)) (from_back t.position ts rest are.2 sized.1)

pub tokens_put : (bs rest : List ℕ) (ts : List Token) → AreBytes bs → take_tokens bs ≡ Some (ts, rest) → AreTokens ts × AreSizedTokens ts × (length ts < 2 ^ 64) × (bs ≡ tokens_bytes ts ++ rest)
tokens_put bs rest ts bytes e =
    let n = bind_some (take_vint bs) (λ p. take_tokens_from 0 p.0 p.1) (ts, rest) e in
    let number = vint_put bs n.0.0 n.0.1 bytes n.1 in
    let are = from_put 0 n.0.0 n.0.1 rest ts (bytes_after (vint_bytes n.0.0) n.0.1 (subst AreBytes number.1 bytes)) n.2 in
    (are.0, are.1, subst (λ m. m < 2 ^ 64) (sym are.2) number.0, number.1 ∙ ap₂ (λ m ys. vint_bytes m ++ ys) (sym are.2) are.3 ∙ sym (append_assoc (vint_bytes (length ts)) (flat_map token_bytes ts) rest))

pub tokens_back : (ts : List Token) (rest : List ℕ) → AreTokens ts → AreSizedTokens ts → length ts < 2 ^ 64 → take_tokens (tokens_bytes ts ++ rest) ≡ Some (ts, rest)
tokens_back ts rest are sized few =
    ap take_tokens (append_assoc (vint_bytes (length ts)) (flat_map token_bytes ts) rest)
    ∙ ap (λ o. o >>= (λ p. take_tokens_from 0 p.0 p.1)) (vint_back (length ts) (flat_map token_bytes ts ++ rest) few)
    ∙ from_back 0 ts rest are sized

-- ---- tokens copied one by one

-- the tokens behind others
abbrev pub behind_tokens : List Token → Option (List Token × List ℕ) → Option (List Token)
behind_tokens done o = option_map (λ p. done ++ p.0) o

pub one_token : (done more : List Token) (least left : ℕ) (rest after : List ℕ) (t : Token) → 0 < left → take_token least rest ≡ Some (t, after) → more ≡ done ++ (t ∷ []) → behind_tokens more (take_tokens_from t.position (left - 1) after) ≡ behind_tokens done (take_tokens_from least left rest)
one_token done more least zero rest after t some e is = absurd (omega arith)
one_token done more least (suc n) rest after t some e is =
    let one : suc n - 1 ≡ n = omega arith in
    ap₂ (λ d k. behind_tokens d (take_tokens_from t.position k after)) is one
    ∙ go (take_tokens_from t.position n after)
    ∙ ap (λ o. behind_tokens done (o >>= (λ p. taken_map (λ ts. p.0 ∷ ts) (take_tokens_from p.0.position n p.1)))) (sym e)
  where
    go : (o : Option (List Token × List ℕ)) → behind_tokens (done ++ (t ∷ [])) o ≡ behind_tokens done (taken_map (λ ts. t ∷ ts) o)
    go None = refl
    go (Some p) = ap Some (append_assoc done (t ∷ []) p.0)
