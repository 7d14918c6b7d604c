-- The path of a facet, byte by byte.
use Rattle.std.proofs.Common.{[], ◌++◌, ◌<◌, ◌==◌, ◌||◌, ◌∙◌, ◌∷◌, ◌≡◌, ◌≢◌, ◌≤◌, Bool, IsUtf8, List, append-nil, ap, ap₂, append_assoc, arith, cond, false, flat_map, if◌then◌else◌, inl, inr, lit<, refl, subst, sym, true, ℕ}
use Rattle.std.specs.List.{AllByRecursion, onto_first}
use Rattle.std.proofs.lemmas.Bool.{and_parts, cases_lt, ne_eqb}
use Rattle.std.proofs.lemmas.Grind.{flat_map-append}
use Rattle.std.proofs.lemmas.Str.{IsUtf8-append, IsUtf8-encode, IsUtf8-nil, encode_ascii}
use Rattle.definitions.proofs.TokenTexts.{high_bytes as high_places}
use lib.Utf8.{encode, encodes, scalar, scalars}
use Rattle.definitions.specs.Facets.{backslash, escaped, path_of, slash}
use Rattle.terms.proofs.FacetSteps.{some_step}
use Rattle.terms.proofs.FacetTexts.{one_byte}
use Rattle.terms.specs.Steps.{in_path, steps_of}

-- a byte of the first step in the path
path-onto : (b : ℕ) (steps : List (List ℕ)) (rest : List ℕ) → steps ≢ [] → path_of steps ≡ 47 ∷ rest → path_of (onto_first b steps) ≡ 47 ∷ (escaped (b ∷ []) ++ rest)
path-onto b [] rest some is = absurd (some refl)
path-onto b (step ∷ steps) rest some is =
    let tail : escaped step ++ path_of steps ≡ rest = cc in
    ap (λ bytes. 47 ∷ bytes) (ap (λ bytes. bytes ++ path_of steps) (escaped-cons b step) ∙ append_assoc (escaped (b ∷ [])) (escaped step) (path_of steps) ∙ ap (λ bytes. escaped (b ∷ []) ++ bytes) tail)
  where
    escaped-cons : (b : ℕ) (step : List ℕ) → escaped (b ∷ step) ≡ escaped (b ∷ []) ++ escaped step
    escaped-cons b step = ap (λ bytes. bytes ++ escaped step) (sym (append-nil (if (b == slash) || (b == backslash) then backslash ∷ b ∷ [] else b ∷ [])))

path-past : (parts : Bool) (b : ℕ) (bs : List ℕ) → (b == 0) ≡ parts → path_of (steps_of bs) ≡ 47 ∷ flat_map in_path bs → path_of (cond parts ([] ∷ steps_of bs) (onto_first b (steps_of bs))) ≡ 47 ∷ (in_path b ++ flat_map in_path bs)
path-past true b bs here is = rw here (ap (λ bytes. 47 ∷ bytes) is)
path-past false b bs here is = rw here (path-onto b (steps_of bs) (flat_map in_path bs) (some_step bs) is)

-- the path is a slash and what each byte is there
pub path-bytes : (bs : List ℕ) → path_of (steps_of bs) ≡ 47 ∷ flat_map in_path bs
path-bytes [] = refl
path-bytes (b ∷ bs) = path-past (b == 0) b bs refl (path-bytes bs)

-- ---- the path is UTF-8

high-same : (bs : List ℕ) → AllByRecursion (λ b. 128 ≤ b) bs → flat_map in_path bs ≡ bs
high-same [] high = refl
high-same (b ∷ bs) high =
    let large : 128 ≤ b = high.0 in
    ap₂ (λ (xs ys : List ℕ). xs ++ ys) (same (b == 0) (b == slash) (b == backslash) (ne_eqb b 0 (λ e. omega arith)) (ne_eqb b slash (λ e. omega arith)) (ne_eqb b backslash (λ e. omega arith))) (high-same bs high.1)
  where
    same : (x y z : Bool) → x ≡ false → y ≡ false → z ≡ false → (if x then slash ∷ [] else (if y || z then backslash ∷ b ∷ [] else b ∷ []) ++ []) ≡ b ∷ []
    same x y z p q r = rw (p, q, r) refl

ascii_utf8 : (c : ℕ) → c < 128 → IsUtf8 (in_path c)
ascii_utf8 c small = go (c == 0) ((c == slash) || (c == backslash))
  where
    go : (x y : Bool) → IsUtf8 (if x then slash ∷ [] else (if y then backslash ∷ c ∷ [] else c ∷ []) ++ [])
    go true y = one_byte slash (lit< tt)
    go false true = IsUtf8-append (backslash ∷ []) (c ∷ []) (one_byte backslash (lit< tt)) (one_byte c small)
    go false false = one_byte c small

char_utf8 : (c : ℕ) → scalar c ≡ true → IsUtf8 (flat_map in_path (encode c))
char_utf8 c ok = elim (cases_lt c 128) [
  | inl small ↦ rw (encode_ascii c small, append-nil (in_path c)) (ascii_utf8 c small)
  | inr high ↦ rw (high-same (encode c) (high_places c high)) (IsUtf8-encode c ok)
]

chars_utf8 : (cs : List ℕ) → scalars cs ≡ true → IsUtf8 (flat_map in_path (encodes cs))
chars_utf8 [] ok = IsUtf8-nil
chars_utf8 (c ∷ cs) ok =
    let oks = and_parts (scalar c) (scalars cs) ok in
    rw (flat_map-append in_path (encode c) (encodes cs)) (IsUtf8-append (flat_map in_path (encode c)) (flat_map in_path (encodes cs)) (char_utf8 c oks.0) (chars_utf8 cs oks.1))

-- the path of a facet is a text
pub path_utf8 : (text : List ℕ) → IsUtf8 text → IsUtf8 (path_of (steps_of text))
path_utf8 text (cs, (ok, is)) =
    rw (path-bytes text) (IsUtf8-append (slash ∷ []) (flat_map in_path text) (one_byte slash (lit< tt)) (subst (λ (bs : List ℕ). IsUtf8 (flat_map in_path bs)) is (chars_utf8 cs ok)))
