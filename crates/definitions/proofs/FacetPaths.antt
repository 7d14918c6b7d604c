-- Facet paths: the path of a facet is read back.
use Rattle.std.proofs.Common.{[], ◌++◌, ◌==◌, ◌||◌, ◌∙◌, ◌∷◌, ◌≡◌, ◌≢◌, Bool, List, None, Some, ap, append_assoc, false, if◌then◌else◌, not, option_map, refl, sym, true, ℕ}
use Rattle.std.specs.List.{AllByRecursion, list_any, onto_first}
use Rattle.definitions.specs.Facets.{backslash, escaped, facet_of_path, path_of, slash, steps_from}
use Rattle.definitions.specs.Values.{IsFacet, IsStep}
use Rattle.std.proofs.lemmas.Bool.{cond-true, cond-false, ne_eqb, or_from, or_parts, and_left, not_from_false}
use Rattle.std.proofs.lemmas.List.Folds.{list_any-append}

-- ---- paths without U+0000

-- a byte of a step is not U+0000, whether a backslash stands before it or not
piece_has_no_zero : (special : Bool) (c : ℕ) → c ≢ 0 → list_any (◌==◌ 0) (if special then backslash ∷ c ∷ [] else c ∷ []) ≡ false
piece_has_no_zero true c h = or_from (0 == c) false (ne_eqb 0 c (λ e. h (sym e))) refl
piece_has_no_zero false c h = or_from (0 == c) false (ne_eqb 0 c (λ e. h (sym e))) refl

-- nor is U+0000 in two lists of which neither holds it
joined_has_no_zero : (xs ys : List ℕ) → list_any (◌==◌ 0) xs ≡ false → list_any (◌==◌ 0) ys ≡ false → list_any (◌==◌ 0) (xs ++ ys) ≡ false
joined_has_no_zero xs ys first second = list_any-append (◌==◌ 0) xs ys ∙ or_from (list_any (◌==◌ 0) xs) (list_any (◌==◌ 0) ys) first second

-- a step without U+0000 has none when it is written
escaped_has_no_zero : (step : List ℕ) → AllByRecursion (λ b. b ≢ 0) step → list_any (◌==◌ 0) (escaped step) ≡ false
escaped_has_no_zero [] h = refl
escaped_has_no_zero (c ∷ cs) h = joined_has_no_zero (if (c == slash) || (c == backslash) then backslash ∷ c ∷ [] else c ∷ []) (escaped cs) (piece_has_no_zero ((c == slash) || (c == backslash)) c h.0) (escaped_has_no_zero cs h.1)

-- the path of steps without U+0000 has none
pub path_has_no_zero : (steps : List (List ℕ)) → AllByRecursion IsStep steps → list_any (◌==◌ 0) (path_of steps) ≡ false
path_has_no_zero [] h = refl
path_has_no_zero (step ∷ steps) h = joined_has_no_zero (escaped step) (path_of steps) (escaped_has_no_zero step h.0.1) (path_has_no_zero steps h.1)

-- ---- reading a step

-- a byte after a backslash is taken as it stands
read_escaped : (c : ℕ) (rest : List ℕ) (step : List ℕ) (steps : List (List ℕ)) → steps_from false rest ≡ Some (step ∷ steps) → steps_from false (backslash ∷ c ∷ rest) ≡ Some ((c ∷ step) ∷ steps)
read_escaped c rest step steps h = ap (option_map (onto_first c)) h

-- a byte that is neither a slash nor a backslash stands for itself
read_plain : (c : ℕ) (rest : List ℕ) (step : List ℕ) (steps : List (List ℕ)) → ((c == slash) || (c == backslash)) ≡ false → steps_from false rest ≡ Some (step ∷ steps) → steps_from false (c ∷ rest) ≡ Some ((c ∷ step) ∷ steps)
read_plain c rest step steps stands h =
    let tests = or_parts (c == slash) (c == backslash) stands in
    rw (tests.1, steps_from) (rw tests.0 (ap (option_map (onto_first c)) h))

-- a byte of a step, with a backslash before it where it needs one
read_piece : (special : Bool) (c : ℕ) (rest : List ℕ) (step : List ℕ) (steps : List (List ℕ)) → ((c == slash) || (c == backslash)) ≡ special → steps_from false rest ≡ Some (step ∷ steps) → steps_from false ((if special then backslash ∷ c ∷ [] else c ∷ []) ++ rest) ≡ Some ((c ∷ step) ∷ steps)
read_piece true c rest step steps e h = read_escaped c rest step steps h
read_piece false c rest step steps e h = read_plain c rest step steps e h

-- a step is read back, before what is read of the rest
read_step : (step : List ℕ) (rest : List ℕ) (steps : List (List ℕ)) → steps_from false rest ≡ Some ([] ∷ steps) → steps_from false (escaped step ++ rest) ≡ Some (step ∷ steps)
read_step [] rest steps h = h
read_step (c ∷ cs) rest steps h = rw (append_assoc (if (c == slash) || (c == backslash) then backslash ∷ c ∷ [] else c ∷ []) (escaped cs) rest) (read_piece ((c == slash) || (c == backslash)) c (escaped cs ++ rest) cs steps refl (read_step cs rest steps h))

-- what stands after a slash is read back, with an empty step where a path begins
read_steps : (steps : List (List ℕ)) → steps_from false (path_of steps) ≡ Some ([] ∷ steps)
read_steps [] = refl
read_steps (step ∷ steps) = ap (option_map (λ (ss : List (List ℕ)). [] ∷ ss)) (read_step step (path_of steps) steps (read_steps steps))

-- the path of a facet is read back
pub facet_reads_back : (steps : List (List ℕ)) → IsFacet steps → facet_of_path (path_of steps) ≡ Some steps
facet_reads_back [] h = absurd (h.0 refl)
facet_reads_back (step ∷ steps) h = cond-true (not (list_any (◌==◌ 0) (escaped step ++ path_of steps))) _ None (not_from_false _ (path_has_no_zero (step ∷ steps) h.1)) ∙ (read_step step (path_of steps) steps (read_steps steps))

-- what doesn't begin with a slash is no facet
pub no_slash_no_facet : (c : ℕ) (path : List ℕ) → c ≢ slash → facet_of_path (c ∷ path) ≡ None
no_slash_no_facet c path h = cond-false _ _ _ (and_left _ _ (ne_eqb c slash h))
