-- The terms that steps give, each with its position.
use Rattle.std.specs.Prelude.{[], ⊤, ◌++◌, ◌+◌, ◌∷◌, List, bytes_eq, if◌then◌else◌, map, ℕ}
use Rattle.definitions.specs.Indexing.{Placed}
use Rattle.definitions.specs.Places.{next_start}
use Rattle.postings_writer.specs.Occurrences.{Occurrence}
use Rattle.postings_writer.specs.Texts.{AreWithin}
use Rattle.document_indexer.specs.Steps.{Step, term_step, text_step}

-- where the next text behind a term's first bytes begins
abbrev pub Starts : Type 0
Starts = List ℕ → ℕ

abbrev pub no_starts : Starts
no_starts prefix = 0

-- the terms of a step
abbrev pub step_terms : Starts → Step → List Placed
step_terms starts (text_step prefix gap ts) = map (λ t. (prefix ++ t.text, starts prefix + t.position)) ts
step_terms starts (term_step t) = (t, 0) ∷ []

-- where texts begin behind a step
abbrev pub next_starts : Starts → Step → Starts
next_starts starts (text_step prefix gap ts) other = if bytes_eq prefix other then next_start gap (starts other) ts else starts other
next_starts starts (term_step t) other = starts other

-- the terms of steps
abbrev pub run_terms : Starts → List Step → List Placed
run_terms starts [] = []
run_terms starts (s ∷ ss) = step_terms starts s ++ run_terms (next_starts starts s) ss

-- where texts begin behind steps
abbrev pub starts_after : Starts → List Step → Starts
starts_after starts [] = starts
starts_after starts (s ∷ ss) = starts_after (next_starts starts s) ss

-- no token of a step ends past the greatest position
abbrev pub IsWithin : Starts → Step → Type 0
IsWithin starts (text_step prefix gap ts) = AreWithin gap (starts prefix) ts
IsWithin starts (term_step t) = ⊤

-- no token of steps does
abbrev pub AreStepsWithin : Starts → List Step → Type 0
AreStepsWithin starts [] = ⊤
AreStepsWithin starts (s ∷ ss) = IsWithin starts s × AreStepsWithin (next_starts starts s) ss

-- a term of a document, as it is recorded
abbrev pub occurrence_at : ℕ → Placed → Occurrence
occurrence_at doc p = record { doc = doc; term = p.0; position = p.1 }

abbrev pub occurrences_at : ℕ → List Placed → List Occurrence
occurrences_at doc ps = map (occurrence_at doc) ps
