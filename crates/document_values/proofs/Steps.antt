-- The steps of a facet are the parts of its text between zeros.
use Rattle.std.proofs.Common.{[], ◌++◌, ◌∷◌, ◌≡◌, ◌≢◌, ◌≤◌, ◌∙◌, ◌+◌, Bool, IsUtf8, List, ap, arith, cond, eqb, eqb-true, false, inl, inr, length, ltb, refl, rules, subst, sym, true, ℕ}
use Rattle.std.specs.List.{AllByRecursion, count_by, onto_first}
use Rattle.std.proofs.lemmas.Bool.{and_parts, cases_lt, cond_both}
use Rattle.std.proofs.lemmas.List.Splits.{join_with_byte-slice_split, length-slice_split}
use Rattle.std.proofs.lemmas.Str.{IsUtf8-append, IsUtf8-from_ascii, IsUtf8-nil, encode_ascii}
use Rattle.definitions.specs.Facets.{encoded}
use Rattle.definitions.specs.Values.{IsFacet, IsStep}
use Rattle.definitions.proofs.Runs.{onto_front, onto_front_none, onto_front_part}
use Rattle.definitions.proofs.TokenTexts.{char_text}
use Rattle.layouts.specs.DocumentReading.{steps_in}
use lib.Utf8.{encode, encodes, scalar, scalars}

-- no byte is zero
abbrev NoZero : List ℕ → Type 0
NoZero s = AllByRecursion (λ b. b ≢ 0) s

-- what stands before other parts, by whether it is a zero
abbrev step_more : ℕ → List (List ℕ) → Bool → List (List ℕ)
step_more b parts t = cond t ([] ∷ parts) (onto_first b parts)

not_zero : (b : ℕ) → b ≢ 0 → eqb b 0 ≡ false
not_zero b h = go (eqb b 0) refl
  where
    go : (t : Bool) → eqb b 0 ≡ t → t ≡ false
    go false e = refl
    go true e = absurd (h (eqb-true b 0 e))

-- ---- steps are read back

step_then : (s rest : List ℕ) → NoZero s → steps_in (s ++ (0 ∷ rest)) ≡ s ∷ steps_in rest
step_then [] rest h = refl
step_then (b ∷ s) rest h = ap (step_more b (steps_in (s ++ (0 ∷ rest)))) (not_zero b h.0) ∙ ap (onto_first b) (step_then s rest h.1)

step_last : (s : List ℕ) → NoZero s → steps_in s ≡ s ∷ []
step_last [] h = refl
step_last (b ∷ s) h = ap (step_more b (steps_in s)) (not_zero b h.0) ∙ ap (onto_first b) (step_last s h.1)

pub steps_back : (steps : List (List ℕ)) → IsFacet steps → steps_in (encoded steps) ≡ steps
steps_back [] h = absurd (h.0 refl)
steps_back (s ∷ []) h = step_last s h.1.0.1
steps_back (s ∷ t ∷ ts) h = step_then s (encoded (t ∷ ts)) h.1.0.1 ∙ ap (λ steps. s ∷ steps) (steps_back (t ∷ ts) ((λ e. cc), h.1.1))

pub steps_spelled : (text : List ℕ) → encoded (steps_in text) ≡ text
steps_spelled text = join_with_byte-slice_split 0 text

-- ---- the text of steps is a text

pub encoded_text : (steps : List (List ℕ)) → IsFacet steps → IsUtf8 (encoded steps)
encoded_text [] h = IsUtf8-nil
encoded_text (s ∷ []) h = h.1.0.0
encoded_text (s ∷ t ∷ ts) h = IsUtf8-append s (0 ∷ encoded (t ∷ ts)) h.1.0.0 (IsUtf8-append (0 ∷ []) (encoded (t ∷ ts)) zero_text (encoded_text (t ∷ ts) ((λ e. cc), h.1.1)))
  where
    zero_text : IsUtf8 (0 ∷ [])
    zero_text = IsUtf8-from_ascii (0 ∷ []) (search rules)

-- ---- the parts of a text are steps

-- bytes that aren't zero stand before the first part
split_front : (bs rest : List ℕ) → NoZero bs → steps_in (bs ++ rest) ≡ onto_front bs (steps_in rest)
split_front [] rest h = refl
split_front (b ∷ bs) rest h = ap (step_more b (steps_in (bs ++ rest))) (not_zero b h.0) ∙ ap (onto_first b) (split_front bs rest h.1)

no_zero_append : (bs cs : List ℕ) → NoZero bs → NoZero cs → NoZero (bs ++ cs)
no_zero_append [] cs h k = k
no_zero_append (b ∷ bs) cs h k = (h.0, no_zero_append bs cs h.1 k)

front_steps : (bs : List ℕ) (parts : List (List ℕ)) → IsStep bs → AllByRecursion IsStep parts → AllByRecursion IsStep (onto_front bs parts)
front_steps [] parts step steps = steps
front_steps (b ∷ bs) [] step steps = subst (AllByRecursion IsStep) (sym (onto_front_none b bs)) (step, tt)
front_steps (b ∷ bs) (part ∷ parts) step steps = subst (AllByRecursion IsStep) (sym (onto_front_part (b ∷ bs) part parts)) ((IsUtf8-append (b ∷ bs) part step.0 steps.0.0, no_zero_append (b ∷ bs) part step.1 steps.0.1), steps.1)

-- the bytes of a character past ASCII are past ASCII
high_bytes : (c : ℕ) → 128 ≤ c → AllByRecursion (λ b. b ≢ 0) (encode c)
unfolding encode
high_bytes c h = cond_both (ltb c 128) _ _ (AllByRecursion (λ b. b ≢ 0)) (λ e. ((λ z. omega arith), tt))
    (λ e. cond_both (ltb c 2048) _ _ (AllByRecursion (λ b. b ≢ 0)) (λ e2. ((λ z. omega arith), ((λ z. omega arith), tt)))
    (λ e2. cond_both (ltb c 65536) _ _ (AllByRecursion (λ b. b ≢ 0)) (λ e3. ((λ z. omega arith), ((λ z. omega arith), ((λ z. omega arith), tt))))
    (λ e3. ((λ z. omega arith), ((λ z. omega arith), ((λ z. omega arith), ((λ z. omega arith), tt)))))))

-- one character more
steps_more : (c : ℕ) (rest : List ℕ) → IsUtf8 (encode c) → AllByRecursion IsStep (steps_in rest) → AllByRecursion IsStep (steps_in (encode c ++ rest))
steps_more c rest text steps = elim (cases_lt c 128) [
  | inl low ↦ subst (λ bs. AllByRecursion IsStep (steps_in (bs ++ rest))) (sym (encode_ascii c low)) (of_ascii (eqb c 0) refl (subst IsUtf8 (encode_ascii c low) text))
  | inr high ↦ subst (AllByRecursion IsStep) (sym (split_front (encode c) rest (high_bytes c high))) (front_steps (encode c) (steps_in rest) (text, high_bytes c high) steps)
]
  where
    of_ascii : (t : Bool) → eqb c 0 ≡ t → IsUtf8 (c ∷ []) → AllByRecursion IsStep (steps_in (c ∷ rest))
    of_ascii true e text = subst (λ t. AllByRecursion IsStep (step_more c (steps_in rest) t)) (sym e) ((IsUtf8-nil, tt), steps)
    of_ascii false e text = subst (λ t. AllByRecursion IsStep (step_more c (steps_in rest) t)) (sym e) (front_steps (c ∷ []) (steps_in rest) (text, ((λ z. cc), tt)) steps)

chars_steps : (cs : List ℕ) → scalars cs ≡ true → AllByRecursion IsStep (steps_in (encodes cs))
chars_steps [] h = ((IsUtf8-nil, tt), tt)
chars_steps (c ∷ cs) h =
    let are = and_parts (scalar c) (scalars cs) h in
    steps_more c (encodes cs) (char_text c are.0) (chars_steps cs are.1)

pub some_steps : (text : List ℕ) → steps_in text ≢ []
some_steps text e = (let more : length (steps_in text) ≡ count_by (λ b. eqb b 0) text + 1 = length-slice_split (λ b. eqb b 0) text in let none : length (steps_in text) ≡ 0 = ap length e in omega arith)

pub steps_are_facet : (text : List ℕ) → IsUtf8 text → IsFacet (steps_in text)
steps_are_facet text utf8 = (some_steps text, subst (λ bs. AllByRecursion IsStep (steps_in bs)) utf8.1.1 (chars_steps utf8.0 utf8.1.0))
