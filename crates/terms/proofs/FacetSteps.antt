-- Facets as one text: its steps are those of a facet.
use Rattle.std.proofs.Common.{[], ◌++◌, ◌<◌, ◌==◌, ◌∙◌, ◌∷◌, ◌≡◌, ◌≢◌, Bool, IsUtf8, List, append-nil, ap, ap₂, arith, cond, false, get_or, inl, inr, length, lit<, refl, subst, suc, sym, true, ℕ}
use Rattle.std.specs.List.{AllByRecursion, list_any, onto_first}
use Rattle.std.proofs.lemmas.Bool.{and_parts, cases_eq, ne_eqb, or_parts}
use Rattle.std.proofs.lemmas.List.Splits.{join_with_byte-slice_split}
use Rattle.std.proofs.lemmas.Str.{IsUtf8-append, IsUtf8-encode, IsUtf8-nil, encode_ascii, inside_one}
use lib.Utf8.{encode, encodes, scalar, scalars}
use Rattle.definitions.specs.Facets.{encoded}
use Rattle.definitions.specs.Values.{IsFacet, IsStep}
use Rattle.terms.specs.Steps.{steps_of}

-- joined again, the steps are the text
pub encoded-steps_of : (text : List ℕ) → encoded (steps_of text) ≡ text
encoded-steps_of text = join_with_byte-slice_split 0 text

-- ---- what stands in a step

onto_zero_free : (c : ℕ) (steps : List (List ℕ)) → c ≢ 0 → AllByRecursion (AllByRecursion (λ b. b ≢ 0)) steps → AllByRecursion (AllByRecursion (λ b. b ≢ 0)) (onto_first c steps)
onto_zero_free c [] other free = ((other, tt), tt)
onto_zero_free c (step ∷ steps) other free = ((other, free.0), free.1)

zero_free_past : (parts : Bool) (c : ℕ) (steps : List (List ℕ)) → (c == 0) ≡ parts → AllByRecursion (AllByRecursion (λ b. b ≢ 0)) steps → AllByRecursion (AllByRecursion (λ b. b ≢ 0)) (cond parts ([] ∷ steps) (onto_first c steps))
zero_free_past true c steps here free = (tt, free)
zero_free_past false c steps here free = onto_zero_free c steps (λ same. cc) free

-- no step holds U+0000
pub steps_zero_free : (text : List ℕ) → AllByRecursion (AllByRecursion (λ b. b ≢ 0)) (steps_of text)
steps_zero_free [] = (tt, tt)
steps_zero_free (c ∷ cs) = zero_free_past (c == 0) c (steps_of cs) refl (steps_zero_free cs)

-- there is a step
some_past : (parts : Bool) (c : ℕ) (steps : List (List ℕ)) → cond parts ([] ∷ steps) (onto_first c steps) ≢ []
some_past true c steps e = cc
some_past false c [] e = cc
some_past false c (step ∷ steps) e = cc

pub some_step : (text : List ℕ) → steps_of text ≢ []
some_step [] e = cc
some_step (c ∷ cs) e = some_past (c == 0) c (steps_of cs) e

-- ---- steps are texts

-- bytes other than U+0000 before the first step
abbrev onto_front : List ℕ → List (List ℕ) → List (List ℕ)
onto_front [] steps = steps
onto_front (b ∷ bs) steps = onto_first b (onto_front bs steps)

steps_past : (bs rest : List ℕ) → AllByRecursion (λ b. b ≢ 0) bs → steps_of (bs ++ rest) ≡ onto_front bs (steps_of rest)
steps_past [] rest free = refl
steps_past (b ∷ bs) rest free = rw (ne_eqb b 0 free.0) (ap (onto_first b) (steps_past bs rest free.1))

front-cons : (bs step : List ℕ) (steps : List (List ℕ)) → onto_front bs (step ∷ steps) ≡ (bs ++ step) ∷ steps
front-cons [] step steps = refl
front-cons (b ∷ bs) step steps = ap (onto_first b) (front-cons bs step steps)

front_utf8 : (bs : List ℕ) (steps : List (List ℕ)) → steps ≢ [] → AllByRecursion IsUtf8 steps → IsUtf8 bs → AllByRecursion IsUtf8 (onto_front bs steps)
front_utf8 bs [] some texts text = absurd (some refl)
front_utf8 bs (step ∷ steps) some texts text = subst (AllByRecursion IsUtf8) (sym (front-cons bs step steps)) (IsUtf8-append bs step text texts.0, texts.1)

-- a character other than U+0000 is written without it
char_zero_free : (c : ℕ) → c ≢ 0 → AllByRecursion (λ b. b ≢ 0) (encode c)
char_zero_free c other = from_places (encode c) (λ k below same. other (inside_one c [] (encode c) k (sym (append-nil (encode c))) below (omega arith) ∙ same))
  where
    from_places : (bs : List ℕ) → ((k : ℕ) → k < length bs → get_or bs k 0 ≢ 0) → AllByRecursion (λ b. b ≢ 0) bs
    from_places [] free = tt
    from_places (b ∷ bs) free = (free 0 (omega arith), from_places bs (λ k below. free (suc k) (omega arith)))

steps_of_chars : (cs : List ℕ) → scalars cs ≡ true → AllByRecursion IsUtf8 (steps_of (encodes cs))
steps_of_chars [] ok = (IsUtf8-nil, tt)
steps_of_chars (c ∷ cs) ok =
    let oks = and_parts (scalar c) (scalars cs) ok in
    let rest = steps_of_chars cs oks.1 in
    elim (cases_eq c 0) [
      | inl same ↦ rw (same, encode_ascii 0 (lit< tt)) (IsUtf8-nil, rest)
      | inr other ↦ rw (steps_past (encode c) (encodes cs) (char_zero_free c (λ same. omega (arith, other)))) (front_utf8 (encode c) (steps_of (encodes cs)) (some_step (encodes cs)) rest (IsUtf8-encode c oks.0))
    ]

pub steps_utf8 : (text : List ℕ) → IsUtf8 text → AllByRecursion IsUtf8 (steps_of text)
steps_utf8 text (cs, (ok, is)) = subst (λ (bs : List ℕ). AllByRecursion IsUtf8 (steps_of bs)) is (steps_of_chars cs ok)

are_steps : (steps : List (List ℕ)) → AllByRecursion IsUtf8 steps → AllByRecursion (AllByRecursion (λ b. b ≢ 0)) steps → AllByRecursion IsStep steps
are_steps [] texts free = tt
are_steps (step ∷ steps) texts free = ((texts.0, free.0), are_steps steps texts.1 free.1)

-- what is kept is a facet
pub is_facet : (text : List ℕ) → IsUtf8 text → IsFacet (steps_of text)
is_facet text utf8 = (some_step text, are_steps (steps_of text) (steps_utf8 text utf8) (steps_zero_free text))

-- ---- steps that are joined are read back

steps-joined : (step : List ℕ) (steps : List (List ℕ)) → AllByRecursion (AllByRecursion (λ b. b ≢ 0)) (step ∷ steps) → steps_of (encoded (step ∷ steps)) ≡ step ∷ steps
steps-joined step [] free =
    ap steps_of (sym (append-nil step)) ∙ steps_past step [] free.0 ∙ front-cons step [] [] ∙ ap (λ (s : List ℕ). s ∷ []) (append-nil step)
steps-joined step (next ∷ steps) free =
    steps_past step (0 ∷ encoded (next ∷ steps)) free.0 ∙ front-cons step [] (steps_of (encoded (next ∷ steps))) ∙ ap₂ (λ (s : List ℕ) (ss : List (List ℕ)). s ∷ ss) (append-nil step) (steps-joined next steps free.1)

pub steps_of-encoded : (steps : List (List ℕ)) → steps ≢ [] → AllByRecursion (AllByRecursion (λ b. b ≢ 0)) steps → steps_of (encoded steps) ≡ steps
steps_of-encoded [] some free = absurd (some refl)
steps_of-encoded (step ∷ steps) some free = steps-joined step steps free

-- ---- U+0000 in a text

pub zero_free_from : (bs : List ℕ) → list_any (◌==◌ 0) bs ≡ false → AllByRecursion (λ b. b ≢ 0) bs
zero_free_from [] none = tt
zero_free_from (b ∷ bs) none =
    let parts = or_parts (0 == b) (list_any (◌==◌ 0) bs) none in
    ((λ same. cc (ap (λ n. 0 == n) same)), zero_free_from bs parts.1)

pub all_zero_free_from : (steps : List (List ℕ)) → list_any (list_any (◌==◌ 0)) steps ≡ false → AllByRecursion (AllByRecursion (λ b. b ≢ 0)) steps
all_zero_free_from [] none = tt
all_zero_free_from (step ∷ steps) none =
    let parts = or_parts (list_any (◌==◌ 0) step) (list_any (list_any (◌==◌ 0)) steps) none in
    (zero_free_from step parts.0, all_zero_free_from steps parts.1)
