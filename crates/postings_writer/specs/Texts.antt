-- The occurrences that a text gives, and why it is refused.
use Rattle.std.specs.Prelude.{◌+◌, ◌++◌, ◌<◌, ◌^◌, ◌≡◌, ◌⊎◌, List, map, ℕ}
use Rattle.std.specs.List.{AllByRecursion}
use Rattle.definitions.specs.Values.{Token}
use Rattle.definitions.specs.declared.fault.Fault.{Fault}
use Rattle.definitions.specs.declared.fault.Fault.TheVariants as faults
use Rattle.postings_writer.specs.Occurrences.{Occurrence, PassesCount, places_of}

-- a token behind a term's first bytes, in a value that begins at a start
abbrev pub occurrence_of : ℕ → List ℕ → ℕ → Token → Occurrence
occurrence_of doc prefix start t = record { doc = doc; term = prefix ++ t.text; position = start + t.position }

-- the tokens of the value
abbrev pub text_occurrences : ℕ → List ℕ → ℕ → List Token → List Occurrence
text_occurrences doc prefix start ts = map (occurrence_of doc prefix start) ts

-- where a token ends, with the gap behind it
abbrev pub end_of : ℕ → ℕ → Token → ℕ
end_of gap start t = start + t.position + t.position_length + gap

-- no token ends past the greatest position
abbrev pub AreWithin : ℕ → ℕ → List Token → Type 0
AreWithin gap start ts = AllByRecursion (λ t. end_of gap start t < 2 ^ 31) ts

-- a token ends past the greatest position
abbrev pub EndsPast : ℕ → ℕ → List Token → Type 0
EndsPast gap start ts = AllByRecursion (λ t. end_of gap start t < 2 ^ 31) ts → ⊥

-- the document's count of one of the terms passes 32 bits, when some of the tokens are recorded
pub record CountPasses (os : List Occurrence) (doc : ℕ) (prefix : List ℕ) (start : ℕ) (ts : List Token) : Type 0 where
  pub before : List Token
  pub after : List Token
  pub term : List ℕ
  pub split : ts ≡ before ++ after
  pub past : PassesCount doc (places_of term (os ++ text_occurrences doc prefix start before))

-- memory was wanting, or a limit would be passed
abbrev pub IsTextRefusal : Fault → List Occurrence → ℕ → List ℕ → ℕ → ℕ → List Token → Type 0
IsTextRefusal fault os doc prefix gap start ts = (fault ≡ faults.OutOfMemory) ⊎ ((fault ≡ faults.Limit) × (EndsPast gap start ts ⊎ CountPasses os doc prefix start ts))
