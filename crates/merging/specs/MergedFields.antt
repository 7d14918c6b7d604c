-- Fields whose terms are those that have given postings.
use Rattle.std.specs.Prelude.{◌<◌, ◌^◌, ◌≡◌, ◌≤◌, List, bytes_eq, length, map, true, ℕ}
use Rattle.std.specs.List.{AllByRecursion, list_any}
use Rattle.definitions.specs.Postings.{Posting}
use Rattle.definitions.specs.Schema.{Entry}
use Rattle.layouts.specs.InvertedIndexes.{IndexedField, IndexedTerm, num_tokens}
use Rattle.layouts.specs.TermSections.{TermsAscend}
use Rattle.postings_writer.specs.Fields.{option_of_key}
use Rattle.postings_writer.specs.Sections.{IsSpelled}

-- a term with the postings that are given for its value bytes
pub record IsTermGiven (e : Entry) (ids : List ℕ) (given : List ℕ → List Posting) (t : IndexedTerm) : Type 0 where
  pub has_postings : 0 < length t.postings
  pub postings_are : t.postings ≡ given t.key
  pub spelled : IsSpelled (option_of_key e t.key) ids t

-- a field with the terms for which there are postings
pub record IsFieldGiven (e : Entry) (ids : List ℕ) (given : List ℕ → List Posting) (f : IndexedField) : Type 0 where
  pub ascend : TermsAscend (map (λ (t : IndexedTerm). t.key) f.terms)
  pub tokens_fit : num_tokens f < 2 ^ 64
  pub terms_fit : length f.terms ≤ 4294967295
  pub each_term : AllByRecursion (IsTermGiven e ids given) f.terms
  pub all : (key : List ℕ) → 0 < length (given key) → list_any (bytes_eq key) (map (λ (t : IndexedTerm). t.key) f.terms) ≡ true
