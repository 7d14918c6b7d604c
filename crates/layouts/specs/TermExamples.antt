-- Terms of fields that examples share.
use Rattle.std.specs.Prelude.{[], ◌+◌, ◌∷◌, List, codes, map, suc, zero, ℕ}
use Rattle.std.specs.Int.{to_be_bytes, w64}
use Rattle.definitions.specs.Postings.{Posting}
use Rattle.layouts.specs.InvertedIndexes.{IndexedField, IndexedTerm}
use Rattle.layouts.specs.TermSections.{FieldTerms, Told}

-- two terms of one field, and one of another
abbrev pub two_fields : List FieldTerms
two_fields = record { field = 0; num_tokens = 3; terms = (codes "a", record { doc_freq = 1; postings_len = 2; positions_len = 5 }) ∷ (codes "b", record { doc_freq = 1; postings_len = 3; positions_len = 7 }) ∷ [] } ∷ record { field = 1; num_tokens = 1; terms = (codes "a", record { doc_freq = 1; postings_len = 1; positions_len = 0 }) ∷ [] } ∷ []

-- terms of one document each
abbrev pub of_one : List (List ℕ) → List Told
of_one keys = map (λ key. (key, record { doc_freq = 1; postings_len = 1; positions_len = 0 })) keys

-- a number of keys of one letter, from a letter on
abbrev pub letters : ℕ → ℕ → List (List ℕ)
letters first zero = []
letters first (suc n) = (first ∷ []) ∷ letters (first + 1) n

-- a document with its count and positions
abbrev pub posting : ℕ → ℕ → List ℕ → Posting
posting doc count positions = record { doc = doc; count = count; positions = positions }

-- a year, with the documents that have it
abbrev pub year_term : ℕ → List ℕ → List ℕ → IndexedTerm
year_term year docs bytes = record { key = to_be_bytes w64 year; postings = map (λ doc. posting doc 1 []) docs; postings_bytes = bytes; positions_bytes = [] }

-- the terms of three books: `the old sea` of 1952, `sea sea wind` of 1987 and `wind` of 1952
abbrev pub titles : IndexedField
titles = record {
  field = 0;
  terms = record { key = codes "old"; postings = posting 0 1 (1 ∷ []) ∷ []; postings_bytes = 0x80 ∷ 0x80 ∷ []; positions_bytes = 0x80 ∷ 0x81 ∷ [] }
      ∷ record { key = codes "sea"; postings = posting 0 1 (2 ∷ []) ∷ posting 1 2 (0 ∷ 1 ∷ []) ∷ []; postings_bytes = 0x80 ∷ 0x80 ∷ 0x80 ∷ 0x81 ∷ []; positions_bytes = 0x80 ∷ 0x82 ∷ 0x80 ∷ 0x81 ∷ [] }
      ∷ record { key = codes "the"; postings = posting 0 1 (0 ∷ []) ∷ []; postings_bytes = 0x80 ∷ 0x80 ∷ []; positions_bytes = 0x80 ∷ 0x80 ∷ [] }
      ∷ record { key = codes "wind"; postings = posting 1 1 (2 ∷ []) ∷ posting 2 1 (0 ∷ []) ∷ []; postings_bytes = 0x81 ∷ 0x80 ∷ 0x80 ∷ 0x80 ∷ []; positions_bytes = 0x80 ∷ 0x82 ∷ 0x80 ∷ [] }
      ∷ [];
}

-- their years
abbrev pub years : IndexedField
years = record { field = 1; terms = year_term 1952 (0 ∷ 2 ∷ []) (0x80 ∷ 0x81 ∷ []) ∷ year_term 1987 (1 ∷ []) (0x81 ∷ []) ∷ [] }
