-- Heads of values: what was put is taken back, and what is taken was put.
use Rattle.std.proofs.Common.{FitsSigned, [], ◌%◌, ◌*◌, ◌++◌, ◌+◌, ◌/◌, ◌<◌, ◌≤◌, ◌^◌, ◌∷◌, ◌≡◌, ◌∙◌, Bool, List, None, Option, Some, ap, ap₂, append_assoc, arith, if◌then◌else◌, eqb, eqb-true, false, length, nat_lt, refl, subst, suc, sym, true, zero, ℕ, ℤ}
use Rattle.std.specs.List.{AllByRecursion}
use Rattle.std.proofs.lemmas.Bool.Decides.{nat_tests}
use Rattle.std.proofs.lemmas.Int.{of_z-to_z, to_z-of_z}
use Rattle.std.proofs.Math.Facts.{Fits-of_z, sfits_to_z}
use Rattle.std.specs.Int.{cast_signed, cast_unsigned, from_bool, w64}
use Rattle.common.proofs.AliveSetBytes.{u64_back as u64_taken}
use Rattle.common.proofs.TakenBack.{bytes_back, bytes_put, text_back, text_put, u64_put, vint_back, vint_put}
use Rattle.definitions.specs.Facets.{encoded}
use Rattle.definitions.specs.Json.{only_if, ◌>>=◌}
use Rattle.definitions.specs.NumberCodes.{AreBytes, sized_bytes, take_bytes, take_text, take_u64, take_vint, u64_bytes, vint_bytes}
use Rattle.definitions.specs.Values.{IsValue, Token, Value, array, bool, bytes, date, facet, i64, ip_addr, null, object, pre_tok_str, str, u64}
use Rattle.document_values.specs.Docs.{IsGood}
use Rattle.document_values.specs.Held.{IsSized, held_bytes, tokens_bytes}
use Rattle.layouts.specs.DocumentReading.{Head, array_head, leaf, object_head, steps_in, take_address_leaf, take_bool_leaf, take_bytes_leaf, take_coded, take_head, take_pre_tokenized_leaf, take_text_leaf, take_tokens, take_u64_leaf, taken_map}
use Rattle.common.proofs.Many.{IsBack, IsPut, map_some, only_some, parts_are}
use Rattle.common.proofs.WordBytes.{back_bytes as bytes_after}
use Rattle.definitions.proofs.Lists.{bind_some}
use Rattle.document_values.proofs.Steps.{encoded_text, steps_are_facet, steps_back, steps_spelled}
use Rattle.document_values.proofs.Tokens.{tokens_back, tokens_put}

abbrev pub IsHead : Bool → Head → Type 0
IsHead tokens (leaf v) = IsGood tokens 0 v
IsHead tokens (array_head n) = n < 2 ^ 64
IsHead tokens (object_head n) = n < 2 ^ 64

abbrev pub head_bytes : Head → List ℕ
head_bytes (leaf v) = held_bytes v
head_bytes (array_head n) = 12 ∷ vint_bytes n
head_bytes (object_head n) = 13 ∷ vint_bytes n

-- the head that is taken behind a code
abbrev Behind : Bool → ℕ → List ℕ → List ℕ → Head → Type 0
Behind tokens c bs rest h = IsHead tokens h × (c ∷ bs ≡ head_bytes h ++ rest)

-- ---- what is taken was put

str_put : (t : Bool) (bs rest : List ℕ) (h : Head) → AreBytes bs → take_text_leaf str bs ≡ Some (h, rest) → Behind t 0 bs rest h
str_put t bs rest h are e =
    let m = map_some (λ s. leaf (str s)) (take_text bs) h rest e in
    let p = text_put bs m.0 rest are m.1 in
    subst (Behind t 0 bs rest) m.2 (record { value = p.0; sized = p.1; shallow = omega arith; kept = λ x. refl }, ap (λ ys. 0 ∷ ys) p.2)

facet_put : (t : Bool) (bs rest : List ℕ) (h : Head) → AreBytes bs → take_text_leaf (λ s. facet (steps_in s)) bs ≡ Some (h, rest) → Behind t 3 bs rest h
facet_put t bs rest h are e =
    let m = map_some (λ s. leaf (facet (steps_in s))) (take_text bs) h rest e in
    let p = text_put bs m.0 rest are m.1 in
    let same = steps_spelled m.0 in
    subst (Behind t 3 bs rest) m.2 (record { value = steps_are_facet m.0 p.0; sized = subst (λ s. length s < 2 ^ 64) (sym same) p.1; shallow = omega arith; kept = λ x. refl }, ap (λ ys. 3 ∷ ys) (p.2 ∙ ap (λ s. sized_bytes s ++ rest) (sym same)))

u64_leaf_put : (t : Bool) (bs rest : List ℕ) (h : Head) → AreBytes bs → take_u64_leaf u64 bs ≡ Some (h, rest) → Behind t 1 bs rest h
u64_leaf_put t bs rest h are e =
    let m = map_some (λ n. leaf (u64 n)) (take_u64 bs) h rest e in
    let p = u64_put bs m.0 rest are m.1 in
    subst (Behind t 1 bs rest) m.2 (record { value = p.0; sized = tt; shallow = omega arith; kept = λ x. refl }, ap (λ ys. 1 ∷ ys) p.1)

fits : (n : ℕ) → n < 2 ^ 64 → FitsSigned w64 (cast_signed w64 n)
fits n h = sfits_to_z {w = w64} {n = n} record { fits = h }

i64_put : (t : Bool) (bs rest : List ℕ) (h : Head) → AreBytes bs → take_u64_leaf (λ n. i64 (cast_signed w64 n)) bs ≡ Some (h, rest) → Behind t 2 bs rest h
i64_put t bs rest h are e =
    let m = map_some (λ n. leaf (i64 (cast_signed w64 n))) (take_u64 bs) h rest e in
    let p = u64_put bs m.0 rest are m.1 in
    subst (Behind t 2 bs rest) m.2 (record { value = fits m.0 p.0; sized = tt; shallow = omega arith; kept = λ x. refl }, ap (λ ys. 2 ∷ ys) (p.1 ∙ ap (λ n. u64_bytes n ++ rest) (sym (of_z-to_z w64 m.0 p.0))))

date_put : (t : Bool) (bs rest : List ℕ) (h : Head) → AreBytes bs → take_u64_leaf (λ n. date (cast_signed w64 n)) bs ≡ Some (h, rest) → Behind t 5 bs rest h
date_put t bs rest h are e =
    let m = map_some (λ n. leaf (date (cast_signed w64 n))) (take_u64 bs) h rest e in
    let p = u64_put bs m.0 rest are m.1 in
    subst (Behind t 5 bs rest) m.2 (record { value = fits m.0 p.0; sized = tt; shallow = omega arith; kept = λ x. refl }, ap (λ ys. 5 ∷ ys) (p.1 ∙ ap (λ n. u64_bytes n ++ rest) (sym (of_z-to_z w64 m.0 p.0))))

are_bytes : (xs ys : List ℕ) → AreBytes (xs ++ ys) → AllByRecursion (λ b. b < 2 ^ 8) xs
are_bytes [] ys h = tt
are_bytes (x ∷ xs) ys h = (h 0, are_bytes xs ys (λ i. h (suc i)))

bytes_leaf_put : (t : Bool) (bs rest : List ℕ) (h : Head) → AreBytes bs → take_bytes_leaf bs ≡ Some (h, rest) → Behind t 4 bs rest h
bytes_leaf_put t bs rest h are e =
    let m = map_some (λ b. leaf (bytes b)) (take_bytes bs) h rest e in
    let p = bytes_put bs m.0 rest are m.1 in
    subst (Behind t 4 bs rest) m.2 (record { value = are_bytes m.0 rest (bytes_after (vint_bytes (length m.0)) (m.0 ++ rest) (subst AreBytes (p.1 ∙ append_assoc (vint_bytes (length m.0)) m.0 rest) are)); sized = p.0; shallow = omega arith; kept = λ x. refl }, ap (λ ys. 4 ∷ ys) p.1)

below : (a b : ℕ) → nat_lt a b ≡ true → a < b
below a b e = grind (arith, nat_tests)

bool_put : (t : Bool) (bs rest : List ℕ) (h : Head) → AreBytes bs → take_bool_leaf bs ≡ Some (h, rest) → Behind t 9 bs rest h
bool_put t [] rest h are e = cc
bool_put t (b ∷ bs) rest h are e =
    let o = only_some (nat_lt b 2) (Some (leaf (bool (eqb b 1)), bs)) (h, rest) e in
    let are2 = parts_are (leaf (bool (eqb b 1)), bs) h rest o.1 in
    subst (Behind t 9 (b ∷ bs) rest) are2.0 (record { value = tt; sized = tt; shallow = omega arith; kept = λ x. refl }, ap₂ (λ c cs. 9 ∷ c ∷ cs) (same b (below b 2 o.0)) are2.1)
  where
    same : (b : ℕ) → b < 2 → b ≡ from_bool (eqb b 1)
    same zero h = refl
    same (suc zero) h = refl
    same (suc (suc b)) h = omega arith

address_put : (t : Bool) (bs rest : List ℕ) (h : Head) → AreBytes bs → take_address_leaf bs ≡ Some (h, rest) → Behind t 10 bs rest h
address_put t bs rest h are e =
    let l = bind_some (take_u64 bs) (λ l. taken_map (λ u. leaf (ip_addr (l.0 + 2 ^ 64 * u))) (take_u64 l.1)) (h, rest) e in
    let u = map_some (λ u. leaf (ip_addr (l.0.0 + 2 ^ 64 * u))) (take_u64 l.0.1) h rest l.2 in
    let low = u64_put bs l.0.0 l.0.1 are l.1 in
    let high = u64_put l.0.1 u.0 rest (bytes_after (u64_bytes l.0.0) l.0.1 (subst AreBytes low.1 are)) u.1 in
    let lower : l.0.0 ≡ (l.0.0 + 2 ^ 64 * u.0) % 2 ^ 64 = (let a = low.0 in omega arith) in
    let upper : u.0 ≡ (l.0.0 + 2 ^ 64 * u.0) / 2 ^ 64 = (let a = low.0 in omega arith) in
    let whole : l.0.0 + 2 ^ 64 * u.0 < 2 ^ 128 = (let a = low.0 in let b = high.0 in omega arith) in
    subst (Behind t 10 bs rest) u.2 (record { value = whole; sized = tt; shallow = omega arith; kept = λ x. refl }, ap (λ ys. 10 ∷ ys) (low.1 ∙ ap (λ ys. u64_bytes l.0.0 ++ ys) high.1 ∙ sym (append_assoc (u64_bytes l.0.0) (u64_bytes u.0) rest) ∙ ap₂ (λ a b. (u64_bytes a ++ u64_bytes b) ++ rest) lower upper))

pre_tokenized_put : (bs rest : List ℕ) (h : Head) → AreBytes bs → take_pre_tokenized_leaf bs ≡ Some (h, rest) → Behind true 8 bs rest h
pre_tokenized_put bs rest h are e =
    let s = bind_some (take_text bs) (λ s. taken_map (λ ts. leaf (pre_tok_str s.0 ts)) (take_tokens s.1)) (h, rest) e in
    let m = map_some (λ ts. leaf (pre_tok_str s.0.0 ts)) (take_tokens s.0.1) h rest s.2 in
    let text = text_put bs s.0.0 s.0.1 are s.1 in
    let ts = tokens_put s.0.1 rest m.0 (bytes_after (sized_bytes s.0.0) s.0.1 (subst AreBytes text.2 are)) m.1 in
    subst (Behind true 8 bs rest) m.2 (record { value = (text.0, ts.0); sized = (text.1, ts.2, ts.1); shallow = omega arith; kept = λ x. cc }, ap (λ ys. 8 ∷ ys) (text.2 ∙ ap (λ ys. sized_bytes s.0.0 ++ ys) ts.3 ∙ sym (append_assoc (sized_bytes s.0.0) (tokens_bytes m.0) rest)))

array_head_put : (t : Bool) (bs rest : List ℕ) (h : Head) → AreBytes bs → taken_map array_head (take_vint bs) ≡ Some (h, rest) → Behind t 12 bs rest h
array_head_put t bs rest h are e =
    let m = map_some array_head (take_vint bs) h rest e in
    let p = vint_put bs m.0 rest are m.1 in
    subst (Behind t 12 bs rest) m.2 (p.0, ap (λ ys. 12 ∷ ys) p.1)

object_head_put : (t : Bool) (bs rest : List ℕ) (h : Head) → AreBytes bs → taken_map object_head (take_vint bs) ≡ Some (h, rest) → Behind t 13 bs rest h
object_head_put t bs rest h are e =
    let m = map_some object_head (take_vint bs) h rest e in
    let p = vint_put bs m.0 rest are m.1 in
    subst (Behind t 13 bs rest) m.2 (p.0, ap (λ ys. 13 ∷ ys) p.1)

-- a leaf, and what follows it
abbrev taken : Value → List ℕ → Option (Head × List ℕ)
taken v bs = Some (leaf v, bs)

null_put : (t : Bool) (bs rest : List ℕ) (h : Head) → AreBytes bs → taken null bs ≡ Some (h, rest) → Behind t 11 bs rest h
null_put t bs rest h are e =
    let same = parts_are (leaf null, bs) h rest e in
    subst (Behind t 11 bs rest) same.0 (record { value = tt; sized = tt; shallow = omega arith; kept = λ x. refl }, ap (λ ys. 11 ∷ ys) same.1)

tokens_leaf_put : (t : Bool) (bs rest : List ℕ) (h : Head) → AreBytes bs → only_if t (take_pre_tokenized_leaf bs) ≡ Some (h, rest) → Behind t 8 bs rest h
tokens_leaf_put true bs rest h are e = pre_tokenized_put bs rest h are e
tokens_leaf_put false bs rest h are e = cc

-- a test of a code: where it is passed the one holds, else the other
past_test : {A : Type 0} (P : ℕ → Type 0) (c k : ℕ) (x y : Option A) (z : A) → (if eqb c k then x else y) ≡ Some z → (x ≡ Some z → P k) → (y ≡ Some z → P c) → P c
past_test P c k x y z e passed failed = go (eqb c k) refl e
  where
    go : (b : Bool) → eqb c k ≡ b → (if b then x else y) ≡ Some z → P c
    go true is e = subst P (sym (eqb-true c k is)) (passed e)
    go false is e = failed e

pub coded_put : (t : Bool) (c : ℕ) (bs rest : List ℕ) (h : Head) → AreBytes bs → take_coded t c bs ≡ Some (h, rest) → Behind t c bs rest h
coded_put t c bs rest h are e =
    let P : ℕ → Type 0 = λ k. Behind t k bs rest h in
    past_test P c 0 _ _ (h, rest) e (str_put t bs rest h are) (λ e1.
    past_test P c 1 _ _ (h, rest) e1 (u64_leaf_put t bs rest h are) (λ e2.
    past_test P c 2 _ _ (h, rest) e2 (i64_put t bs rest h are) (λ e3.
    past_test P c 3 _ _ (h, rest) e3 (facet_put t bs rest h are) (λ e4.
    past_test P c 4 _ _ (h, rest) e4 (bytes_leaf_put t bs rest h are) (λ e5.
    past_test P c 5 _ _ (h, rest) e5 (date_put t bs rest h are) (λ e6.
    past_test P c 8 _ _ (h, rest) e6 (tokens_leaf_put t bs rest h are) (λ e8.
    past_test P c 9 _ _ (h, rest) e8 (bool_put t bs rest h are) (λ e9.
    past_test P c 10 _ _ (h, rest) e9 (address_put t bs rest h are) (λ e10.
    past_test P c 11 _ _ (h, rest) e10 (null_put t bs rest h are) (λ e11.
    past_test P c 12 _ _ (h, rest) e11 (array_head_put t bs rest h are) (λ e12.
    past_test P c 13 _ _ (h, rest) e12 (object_head_put t bs rest h are) (λ e13. none e13))))))))))))
  where
    nothing : Option (Head × List ℕ)
    nothing = None

    none : nothing ≡ Some (h, rest) → Behind t c bs rest h
    none e = cc

pub head_put : (t : Bool) → IsPut (take_head t) (IsHead t) head_bytes
head_put t [] rest h are e = cc
head_put t (c ∷ bs) rest h are e = coded_put t c bs rest h (λ i. are (suc i)) e

-- ---- what was put is taken back

signed_taken : (f : ℤ → Value) (z : ℤ) (rest : List ℕ) → FitsSigned w64 z → take_u64_leaf (λ n. f (cast_signed w64 n)) (u64_bytes (cast_unsigned w64 z) ++ rest) ≡ taken (f z) rest
signed_taken f z rest small = ap (taken_map (λ n. leaf (f (cast_signed w64 n)))) (u64_taken (cast_unsigned w64 z) rest (Fits-of_z {w = w64} {z = z} small).fits) ∙ ap (λ x. taken (f x) rest) (to_z-of_z w64 z small)

address_taken : (n : ℕ) (rest : List ℕ) → n < 2 ^ 128 → take_address_leaf ((u64_bytes (n % 2 ^ 64) ++ u64_bytes (n / 2 ^ 64)) ++ rest) ≡ Some (leaf (ip_addr n), rest)
address_taken n rest small =
    let low : n % 2 ^ 64 < 2 ^ 64 = omega arith in
    let high : n / 2 ^ 64 < 2 ^ 64 = omega arith in
    let whole : n % 2 ^ 64 + 2 ^ 64 * (n / 2 ^ 64) ≡ n = omega arith in
    ap take_address_leaf (append_assoc (u64_bytes (n % 2 ^ 64)) (u64_bytes (n / 2 ^ 64)) rest)
    ∙ ap (λ o. o >>= upper) (u64_taken (n % 2 ^ 64) (u64_bytes (n / 2 ^ 64) ++ rest) low)
    ∙ ap (taken_map (λ u. leaf (ip_addr (n % 2 ^ 64 + 2 ^ 64 * u)))) (u64_taken (n / 2 ^ 64) rest high)
    ∙ ap (λ m. Some (leaf (ip_addr m), rest)) whole
  where
    upper : ℕ × List ℕ → Option (Head × List ℕ)
    upper l = taken_map (λ u. leaf (ip_addr (l.0 + 2 ^ 64 * u))) (take_u64 l.1)

pre_tokenized_taken : (s : List ℕ) (ts : List Token) (rest : List ℕ) → IsValue (pre_tok_str s ts) → IsSized (pre_tok_str s ts) → take_pre_tokenized_leaf ((sized_bytes s ++ tokens_bytes ts) ++ rest) ≡ Some (leaf (pre_tok_str s ts), rest)
pre_tokenized_taken s ts rest are sized =
    ap take_pre_tokenized_leaf (append_assoc (sized_bytes s) (tokens_bytes ts) rest)
    ∙ ap (λ o. o >>= tokens) (text_back s (tokens_bytes ts ++ rest) are.0 sized.0)
    ∙ ap (taken_map (λ ts. leaf (pre_tok_str s ts))) (tokens_back ts rest are.1 sized.2 sized.1)
  where
    tokens : List ℕ × List ℕ → Option (Head × List ℕ)
    tokens p = taken_map (λ ts. leaf (pre_tok_str p.0 ts)) (take_tokens p.1)

bool_taken : (b : Bool) (rest : List ℕ) → take_bool_leaf (from_bool b ∷ rest) ≡ Some (leaf (bool b), rest)
bool_taken true rest = refl
bool_taken false rest = refl

pub flat : (n : ℕ) → suc n ≤ 0 → ⊥
flat n h = omega arith

pub head_back : (t : Bool) → IsBack (take_head t) (IsHead t) head_bytes
head_back t (array_head n) rest good = ap (taken_map array_head) (vint_back n rest good)
head_back t (object_head n) rest good = ap (taken_map object_head) (vint_back n rest good)
head_back t (leaf null) rest good = refl
head_back t (leaf (str s)) rest good = ap (taken_map (λ s. leaf (str s))) (text_back s rest good.value good.sized)
head_back true (leaf (pre_tok_str s ts)) rest good = pre_tokenized_taken s ts rest good.value good.sized
head_back false (leaf (pre_tok_str s ts)) rest good = absurd (other (good.kept refl))
  where
    other : str s ≡ pre_tok_str s ts → ⊥
    other e = cc
head_back t (leaf (u64 n)) rest good = ap (taken_map (λ n. leaf (u64 n))) (u64_taken n rest good.value)
head_back t (leaf (i64 z)) rest good = signed_taken i64 z rest good.value
head_back t (leaf (bool b)) rest good = bool_taken b rest
head_back t (leaf (date z)) rest good = signed_taken date z rest good.value
head_back t (leaf (facet steps)) rest good = ap (taken_map (λ s. leaf (facet (steps_in s)))) (text_back (encoded steps) rest (encoded_text steps good.value) good.sized) ∙ ap (λ steps. Some (leaf (facet steps), rest)) (steps_back steps good.value)
head_back t (leaf (bytes bs)) rest good = ap (taken_map (λ b. leaf (bytes b))) (bytes_back bs rest good.sized)
head_back t (leaf (ip_addr n)) rest good = address_taken n rest good.value
head_back t (leaf (array vs)) rest good = absurd (flat _ good.shallow)
head_back t (leaf (object ms)) rest good = absurd (flat _ good.shallow)
