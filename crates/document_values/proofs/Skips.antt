-- What is skipped is what is taken.
use Rattle.std.proofs.Common.{[], ◌-◌, ◌<◌, ◌∷◌, ◌≡◌, ◌∙◌, Bool, List, None, Option, Some, ap, arith, option_map, refl, suc, sym, zero, ℕ}
use Rattle.definitions.specs.Json.{◌>>=◌}
use Rattle.definitions.specs.NumberCodes.{take_text, take_u32, take_vint}
use Rattle.definitions.specs.Values.{Token, Value, array, object, pre_tok_str}
use Rattle.layouts.specs.DocumentReading.{Head, array_head, items_at, leaf, object_head, skip_many, skip_tokens, skip_tokens_from, take_head, take_held, take_inside, take_many, take_member, take_pair, take_pre_tokenized_leaf, take_token, take_tokens, take_tokens_from, taken_map, to_members, to_values, tokens_at}

-- what follows what was taken
abbrev pub behind : {A : Type 0} → Option (A × List ℕ) → Option (List ℕ)
behind o = option_map (λ p. p.1) o

behind_map : {A B : Type 0} (f : A → B) (o : Option (A × List ℕ)) → behind (taken_map f o) ≡ behind o
behind_map f None = refl
behind_map f (Some p) = refl

-- ---- tokens

from_behind : (least n : ℕ) (bs : List ℕ) → skip_tokens_from least n bs ≡ behind (take_tokens_from least n bs)
from_behind least zero bs = refl
from_behind least (suc n) bs = go (take_token least bs) (λ p. from_behind p.0.position n p.1)
  where
    go : (o : Option (Token × List ℕ)) → ((p : Token × List ℕ) → skip_tokens_from p.0.position n p.1 ≡ behind (take_tokens_from p.0.position n p.1)) → (o >>= (λ p. skip_tokens_from p.0.position n p.1)) ≡ behind (o >>= (λ p. taken_map (λ ts. p.0 ∷ ts) (take_tokens_from p.0.position n p.1)))
    go None more = refl
    go (Some p) more = more p ∙ sym (behind_map (λ ts. p.0 ∷ ts) (take_tokens_from p.0.position n p.1))

skip_behind : (bs : List ℕ) → skip_tokens bs ≡ behind (take_tokens bs)
skip_behind bs = go (take_vint bs)
  where
    go : (o : Option (ℕ × List ℕ)) → (o >>= (λ p. skip_tokens_from 0 p.0 p.1)) ≡ behind (o >>= (λ p. take_tokens_from 0 p.0 p.1))
    go None = refl
    go (Some p) = from_behind 0 p.0 p.1

pub tokens_of_skip : (bs rest : List ℕ) → skip_tokens bs ≡ Some rest → take_tokens bs ≡ Some (tokens_at bs, rest)
tokens_of_skip bs rest e = go (take_tokens bs) refl (sym (skip_behind bs) ∙ e)
  where
    go : (o : Option (List Token × List ℕ)) → take_tokens bs ≡ o → behind o ≡ Some rest → take_tokens bs ≡ Some (tokens_at bs, rest)
    go None is e = cc
    go (Some p) is e =
        let same : p.1 ≡ rest = cc in
        let seen : tokens_at bs ≡ p.0 = ap (λ o. elim o [ None ↦ [] | Some p ↦ p.0 ]) is in
        is ∙ ap (λ r. Some (p.0, r)) same ∙ ap (λ ts. Some (ts, rest)) (sym seen)

no_tokens : (bs : List ℕ) → skip_tokens bs ≡ None → take_tokens bs ≡ None
no_tokens bs e = go (take_tokens bs) refl (sym (skip_behind bs) ∙ e)
  where
    go : (o : Option (List Token × List ℕ)) → take_tokens bs ≡ o → behind o ≡ None → take_tokens bs ≡ None
    go None is e = is
    go (Some p) is e = cc

-- a step over one token
pub token_step : (least left : ℕ) (bs : List ℕ) (position : ℕ) (after : List ℕ) → 0 < left → taken_map (λ t. t.position) (take_token least bs) ≡ Some (position, after) → skip_tokens_from least left bs ≡ skip_tokens_from position (left - 1) after
token_step least zero bs position after some e = absurd (omega arith)
token_step least (suc n) bs position after some e = (let one : n ≡ suc n - 1 = omega arith in go (take_token least bs) e ∙ ap (λ k. skip_tokens_from position k after) one)
  where
    go : (o : Option (Token × List ℕ)) → taken_map (λ t. t.position) o ≡ Some (position, after) → (o >>= (λ p. skip_tokens_from p.0.position n p.1)) ≡ skip_tokens_from position n after
    go None e = cc
    go (Some p) e = ap (λ o. elim o [ None ↦ None | Some q ↦ skip_tokens_from q.0 n q.1 ]) e

pub no_step : (least left : ℕ) (bs : List ℕ) → 0 < left → take_token least bs ≡ None → skip_tokens_from least left bs ≡ None
no_step least zero bs some e = absurd (omega arith)
no_step least (suc n) bs some e = ap (λ o. o >>= (λ p. skip_tokens_from p.0.position n p.1)) e

-- ---- the leaf of a text with tokens

abbrev with_tokens : List ℕ × List ℕ → Option (Head × List ℕ)
with_tokens s = taken_map (λ ts. leaf (pre_tok_str s.0 ts)) (take_tokens s.1)

pub leaf_taken : (bs text more rest : List ℕ) → take_text bs ≡ Some (text, more) → skip_tokens more ≡ Some rest → take_pre_tokenized_leaf bs ≡ Some (leaf (pre_tok_str text (tokens_at more)), rest)
leaf_taken bs text more rest e skipped = ap (λ o. o >>= with_tokens) e ∙ ap (taken_map (λ ts. leaf (pre_tok_str text ts))) (tokens_of_skip more rest skipped)

pub no_leaf : (bs text more : List ℕ) → take_text bs ≡ Some (text, more) → skip_tokens more ≡ None → take_pre_tokenized_leaf bs ≡ None
no_leaf bs text more e skipped = ap (λ o. o >>= with_tokens) e ∙ ap (taken_map (λ ts. leaf (pre_tok_str text ts))) (no_tokens more skipped)

-- ---- many

pub many_step : {A : Type 0} (item : List ℕ → Option (A × List ℕ)) (left : ℕ) (bs : List ℕ) (x : A) (after : List ℕ) → 0 < left → item bs ≡ Some (x, after) → skip_many item left bs ≡ skip_many item (left - 1) after
many_step item zero bs x after some e = absurd (omega arith)
many_step item (suc n) bs x after some e = (let one : n ≡ suc n - 1 = omega arith in ap (λ o. o >>= (λ p. skip_many item n p.1)) e ∙ ap (λ k. skip_many item k after) one)

pub no_more : {A : Type 0} (item : List ℕ → Option (A × List ℕ)) (left : ℕ) (bs : List ℕ) → 0 < left → item bs ≡ None → skip_many item left bs ≡ None
no_more item zero bs some e = absurd (omega arith)
no_more item (suc n) bs some e = ap (λ o. o >>= (λ p. skip_many item n p.1)) e

-- where `n` items can be skipped, `n` are taken
pub many_of_skip : {A : Type 0} (item : List ℕ → Option (A × List ℕ)) (n : ℕ) (bs rest : List ℕ) → skip_many item n bs ≡ Some rest → take_many item n bs ≡ Some (items_at item n bs, rest)
many_of_skip item zero bs rest e = (let same : bs ≡ rest = cc in ap (λ r. Some ([], r)) same)
many_of_skip {A} item (suc n) bs rest e = go (item bs) refl e (λ p. many_of_skip item n p.1 rest)
  where
    go : (o : Option (A × List ℕ)) → item bs ≡ o → (o >>= (λ p. skip_many item n p.1)) ≡ Some rest → ((p : A × List ℕ) → skip_many item n p.1 ≡ Some rest → take_many item n p.1 ≡ Some (items_at item n p.1, rest)) → take_many item (suc n) bs ≡ Some (items_at item (suc n) bs, rest)
    go None is e more = cc
    go (Some p) is e more =
        ap (λ o. o >>= (λ p. taken_map (λ xs. p.0 ∷ xs) (take_many item n p.1))) is
        ∙ ap (taken_map (λ xs. p.0 ∷ xs)) (more p e)
        ∙ ap (λ o. Some (elim o [ None ↦ [] | Some p ↦ p.0 ∷ items_at item n p.1 ], rest)) (sym is)

pub none_of_skip : {A : Type 0} (item : List ℕ → Option (A × List ℕ)) (n : ℕ) (bs : List ℕ) → skip_many item n bs ≡ None → take_many item n bs ≡ None
none_of_skip item zero bs e = cc
none_of_skip {A} item (suc n) bs e = go (item bs) refl e (λ p. none_of_skip item n p.1)
  where
    go : (o : Option (A × List ℕ)) → item bs ≡ o → (o >>= (λ p. skip_many item n p.1)) ≡ None → ((p : A × List ℕ) → skip_many item n p.1 ≡ None → take_many item n p.1 ≡ None) → take_many item (suc n) bs ≡ None
    go None is e more = ap (λ o. o >>= (λ p. taken_map (λ xs. p.0 ∷ xs) (take_many item n p.1))) is
    go (Some p) is e more =
        ap (λ o. o >>= (λ p. taken_map (λ xs. p.0 ∷ xs) (take_many item n p.1))) is
        ∙ ap (taken_map (λ xs. p.0 ∷ xs)) (more p e)

-- ---- arrays and objects by their heads

pub array_none : (t : Bool) (depth d n : ℕ) (bs rest : List ℕ) → take_head t bs ≡ Some (array_head n, rest) → depth ≡ suc d → skip_many (take_held t d) n rest ≡ None → take_held t depth bs ≡ None
array_none t depth d n bs rest head is none =
    ap (λ k. take_held t k bs) is ∙ ap (λ o. o >>= take_inside (take_held t d)) head
    ∙ ap (taken_map (λ vs. array (to_values vs))) (none_of_skip (take_held t d) n rest none)

pub array_some : (t : Bool) (depth d n : ℕ) (bs rest after : List ℕ) → take_head t bs ≡ Some (array_head n, rest) → depth ≡ suc d → skip_many (take_held t d) n rest ≡ Some after → take_held t depth bs ≡ Some (array (to_values (items_at (take_held t d) n rest)), after)
array_some t depth d n bs rest after head is some =
    ap (λ k. take_held t k bs) is ∙ ap (λ o. o >>= take_inside (take_held t d)) head
    ∙ ap (taken_map (λ vs. array (to_values vs))) (many_of_skip (take_held t d) n rest after some)

pub object_none : (t : Bool) (depth d n : ℕ) (bs rest : List ℕ) → take_head t bs ≡ Some (object_head n, rest) → depth ≡ suc d → skip_many (take_member (take_held t d)) n rest ≡ None → take_held t depth bs ≡ None
object_none t depth d n bs rest head is none =
    ap (λ k. take_held t k bs) is ∙ ap (λ o. o >>= take_inside (take_held t d)) head
    ∙ ap (taken_map (λ ms. object (to_members ms))) (none_of_skip (take_member (take_held t d)) n rest none)

pub object_some : (t : Bool) (depth d n : ℕ) (bs rest after : List ℕ) → take_head t bs ≡ Some (object_head n, rest) → depth ≡ suc d → skip_many (take_member (take_held t d)) n rest ≡ Some after → take_held t depth bs ≡ Some (object (to_members (items_at (take_member (take_held t d)) n rest)), after)
object_some t depth d n bs rest after head is some =
    ap (λ k. take_held t k bs) is ∙ ap (λ o. o >>= take_inside (take_held t d)) head
    ∙ ap (taken_map (λ ms. object (to_members ms))) (many_of_skip (take_member (take_held t d)) n rest after some)

pub member_taken : (item : List ℕ → Option (Value × List ℕ)) (bs key behind after : List ℕ) (v : Value) → take_text bs ≡ Some (key, behind) → item behind ≡ Some (v, after) → take_member item bs ≡ Some ((key, v), after)
member_taken item bs key behind after v text value = ap (λ o. o >>= with_value) text ∙ ap (taken_map (λ v. (key, v))) value
  where
    with_value : List ℕ × List ℕ → Option ((List ℕ × Value) × List ℕ)
    with_value k = taken_map (λ v. (k.0, v)) (item k.1)

pub pair_taken : (item : List ℕ → Option (Value × List ℕ)) (bs : List ℕ) (field : ℕ) (behind after : List ℕ) (v : Value) → take_u32 bs ≡ Some (field, behind) → item behind ≡ Some (v, after) → take_pair item bs ≡ Some ((field, v), after)
pair_taken item bs field behind after v number value = ap (λ o. o >>= with_value) number ∙ ap (taken_map (λ v. (field, v))) value
  where
    with_value : ℕ × List ℕ → Option ((ℕ × Value) × List ℕ)
    with_value f = taken_map (λ v. (f.0, v)) (item f.1)
