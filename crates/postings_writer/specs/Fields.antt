-- What the recorders of a field's terms stand for.
use Rattle.std.specs.Prelude.{[], ◌++◌, ◌<◌, ◌≡◌, ◌∷◌, List, bytes_eq, if◌then◌else◌, length, map, ℕ}
use Rattle.std.specs.List.{AllByRecursion, IsDistinct}
use Rattle.std.specs.Map.{keys_of, lookup}
use Rattle.definitions.specs.Schema.{Entry, IndexRecordOption, basic}
use Rattle.postings_writer.specs.PackedKeys.{AreOfKey, key_of, max_short}
use Rattle.postings_writer.specs.Recorders.{IsCountWithin, recorder_of}
use Rattle.terms.specs.TextKeys.{is_text_key}
use Rattle.postings_writer.specs.declared.recorder.Recorder.{Recorder}

-- terms by their value bytes, each with its recorder
abbrev pub Terms : Type 0
Terms = List (List ℕ × Recorder)

-- what is recorded of a term of a field by its value bytes
abbrev pub option_of_key : Entry → List ℕ → IndexRecordOption
option_of_key e key = if is_text_key e.kind key then e.record_option else basic

-- each term has the recorder of its occurrences, and where counts are recorded they are below 2^32
pub record HasRecorders (e : Entry) (occurrences : List ℕ → List (ℕ × ℕ)) (terms : Terms) : Type 0 where
  pub recorders : (key : List ℕ) → lookup (bytes_eq key) terms ≡ recorder_of (option_of_key e key) (occurrences key)
  pub counted : (key : List ℕ) → IsCountWithin (option_of_key e key) (occurrences key)

-- one occurrence more of one term
abbrev pub with_occurrence : List ℕ → ℕ × ℕ → (List ℕ → List (ℕ × ℕ)) → List ℕ → List (ℕ × ℕ)
with_occurrence term occurrence occurrences key = if bytes_eq term key then occurrences key ++ occurrence ∷ [] else occurrences key

-- The terms are these with short value bytes, each as the bytes of a number, and then those with others.
pub record AreShortTerms (terms : Terms) (short : List (List ℕ × Recorder)) : Type 0 where
  pub each_short : AllByRecursion (λ t. AreOfKey t.0) short
  pub apart : IsDistinct bytes_eq (keys_of (map (λ t. (key_of t.0, t.1)) short))
  pub others : Terms
  pub terms_are : terms ≡ map (λ t. (key_of t.0, t.1)) short ++ others
  pub long : AllByRecursion (λ t. max_short < length t.0) others
