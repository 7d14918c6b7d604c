-- Runs: the words of a text.
use Rattle.std.proofs.Common.{[], ◌++◌, ◌∙◌, ◌∷◌, ◌≡◌, ◌≢◌, Bool, IsFalse, IsTrue, List, ap, append-nil, bytes_eq, cond, false, filter, not, refl, sym, true, ℕ}
use Rattle.std.specs.List.{AllByRecursion, concat, onto_first, slice_split}
use Rattle.definitions.specs.Analyzers.{is_word_byte, runs}
use Rattle.definitions.specs.Scoring.{part}
use Rattle.std.proofs.lemmas.Bool.{cond-false, cond-true, not_from_false, not_from_true}

-- ---- what a split keeps

-- an element put before the first part stands before the parts joined
concat_onto_first : (c : ℕ) (parts : List (List ℕ)) → concat (onto_first c parts) ≡ c ∷ concat parts
concat_onto_first c [] = refl
concat_onto_first c (part ∷ parts) = refl

-- the parts of a split joined, where a byte passes or separates
concat_one_more : (passes : Bool) (c : ℕ) (parts : List (List ℕ)) → concat (cond (not passes) ([] ∷ parts) (onto_first c parts)) ≡ cond passes (c ∷ concat parts) (concat parts)
concat_one_more true c parts = concat_onto_first c parts
concat_one_more false c parts = refl

-- the parts round the bytes that fail a test, joined, are those that pass
concat_split : (test : ℕ → Bool) (s : List ℕ) → concat (slice_split (λ b. not (test b)) s) ≡ filter test s
concat_split test [] = refl
concat_split test (c ∷ s) = concat_one_more (test c) c (slice_split (λ b. not (test b)) s) ∙ ap (λ rest. cond (test c) (c ∷ rest) rest) (concat_split test s)

-- parts joined are the parts that aren't empty, joined
concat_without_empty : (parts : List (List ℕ)) → concat (filter (λ run. not (bytes_eq run [])) parts) ≡ concat parts
concat_without_empty [] = refl
concat_without_empty ([] ∷ parts) = concat_without_empty parts
concat_without_empty ((c ∷ part) ∷ parts) = ap (λ rest. c ∷ (part ++ rest)) (concat_without_empty parts)

-- the runs of a text joined are its word bytes
pub runs_joined : (s : List ℕ) → concat (runs s) ≡ filter is_word_byte s
runs_joined s = concat_without_empty (slice_split (λ b. not (is_word_byte b)) s) ∙ concat_split is_word_byte s

-- ---- what stands in a part

-- a byte put before the first part, where each byte of each part passes
passes_onto_first : (test : ℕ → Bool) (c : ℕ) (parts : List (List ℕ)) → test c ≡ true → AllByRecursion (AllByRecursion (λ b. IsTrue (test b))) parts → AllByRecursion (AllByRecursion (λ b. IsTrue (test b))) (onto_first c parts)
passes_onto_first test c [] e h = ((e, tt), tt)
passes_onto_first test c (part ∷ parts) e h = ((e, h.0), h.1)

-- one byte more, which passes or separates
passes_one_more : (test : ℕ → Bool) (passes : Bool) (c : ℕ) (parts : List (List ℕ)) → test c ≡ passes → AllByRecursion (AllByRecursion (λ b. IsTrue (test b))) parts → AllByRecursion (AllByRecursion (λ b. IsTrue (test b))) (cond (not passes) ([] ∷ parts) (onto_first c parts))
passes_one_more test true c parts e h = passes_onto_first test c parts e h
passes_one_more test false c parts e h = (tt, h)

-- each byte of each part passes
split_passes : (test : ℕ → Bool) (s : List ℕ) → AllByRecursion (AllByRecursion (λ b. IsTrue (test b))) (slice_split (λ b. not (test b)) s)
split_passes test [] = (tt, tt)
split_passes test (c ∷ s) = passes_one_more test (test c) c (slice_split (λ b. not (test b)) s) refl (split_passes test s)

-- what holds of each part holds of those that aren't empty
without_empty : (P : List ℕ → Type 0) (parts : List (List ℕ)) → AllByRecursion P parts → AllByRecursion (λ run. (run ≢ []) × P run) (filter (λ run. not (bytes_eq run [])) parts)
without_empty P [] h = tt
without_empty P ([] ∷ parts) h = without_empty P parts h.1
without_empty P ((c ∷ part) ∷ parts) h = (((λ e. cc), h.0), without_empty P parts h.1)

-- no run is empty, and each of its bytes is a word byte
pub runs_are_words : (s : List ℕ) → AllByRecursion (λ run. (run ≢ []) × AllByRecursion (λ b. IsTrue (is_word_byte b)) run) (runs s)
runs_are_words s = without_empty (AllByRecursion (λ b. IsTrue (is_word_byte b))) (slice_split (λ b. not (is_word_byte b)) s) (split_passes is_word_byte s)

-- ---- where a text is cut

-- bytes before the first of some parts
abbrev pub onto_front : List ℕ → List (List ℕ) → List (List ℕ)
onto_front [] parts = parts
onto_front (b ∷ bs) parts = onto_first b (onto_front bs parts)

-- before parts of which there is one
pub onto_front_part : (bs part : List ℕ) (parts : List (List ℕ)) → onto_front bs (part ∷ parts) ≡ (bs ++ part) ∷ parts
onto_front_part [] part parts = refl
onto_front_part (b ∷ bs) part parts = ap (onto_first b) (onto_front_part bs part parts)

-- before no part
pub onto_front_none : (b : ℕ) (bs : List ℕ) → onto_front (b ∷ bs) [] ≡ (b ∷ bs) ∷ []
onto_front_none b [] = refl
onto_front_none b (c ∷ cs) = ap (onto_first b) (onto_front_none c cs)

-- bytes that pass stay together before the first part of the rest
pub split_past : (test : ℕ → Bool) (bs rest : List ℕ) → AllByRecursion (λ b. IsTrue (test b)) bs → slice_split (λ b. not (test b)) (bs ++ rest) ≡ onto_front bs (slice_split (λ b. not (test b)) rest)
split_past test [] rest h = refl
split_past test (b ∷ bs) rest h = cond-false (not (test b)) _ _ (not_from_true (test b) h.0) ∙ ap (onto_first b) (split_past test bs rest h.1)

-- a byte that fails separates
cut_at : (test : ℕ → Bool) (b : ℕ) (s : List ℕ) → IsFalse (test b) → slice_split (λ c. not (test c)) (b ∷ s) ≡ [] ∷ slice_split (λ c. not (test c)) s
cut_at test b s h = cond-true (not (test b)) _ _ (not_from_false (test b) h)

-- a byte that is no word byte stands in no run
pub runs_skip : (b : ℕ) (s : List ℕ) → IsFalse (is_word_byte b) → runs (b ∷ s) ≡ runs s
runs_skip b s h = ap (filter (λ run. not (bytes_eq run []))) (cut_at is_word_byte b s h)

-- word bytes before parts of which the first is empty are a run
run_before : (run : List ℕ) (parts : List (List ℕ)) → run ≢ [] → filter (λ r. not (bytes_eq r [])) ((run ++ []) ∷ parts) ≡ run ∷ filter (λ r. not (bytes_eq r [])) parts
run_before [] parts some = absurd (some refl)
run_before (c ∷ run) parts some = ap (λ rest. (c ∷ rest) ∷ filter (λ r. not (bytes_eq r [])) parts) (append-nil run)

-- word bytes up to a byte that is none are the first run
pub runs_next : (run : List ℕ) (b : ℕ) (s : List ℕ) → run ≢ [] → AllByRecursion (λ c. IsTrue (is_word_byte c)) run → IsFalse (is_word_byte b) → runs (run ++ (b ∷ s)) ≡ run ∷ runs s
runs_next run b s some words other =
    ap (filter (λ r. not (bytes_eq r []))) (split_past is_word_byte run (b ∷ s) words ∙ ap (onto_front run) (cut_at is_word_byte b s other) ∙ onto_front_part run [] (slice_split (λ c. not (is_word_byte c)) s))
    ∙ run_before run (slice_split (λ c. not (is_word_byte c)) s) some

-- word bytes alone are one run
pub runs_last : (run : List ℕ) → run ≢ [] → AllByRecursion (λ c. IsTrue (is_word_byte c)) run → runs run ≡ run ∷ []
runs_last run some words =
    ap runs (sym (append-nil run))
    ∙ ap (filter (λ r. not (bytes_eq r []))) (split_past is_word_byte run [] words ∙ onto_front_part run [] [])
    ∙ run_before run [] some
