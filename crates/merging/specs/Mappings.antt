-- The numbers that the documents of a member get in a merge.
use Rattle.std.specs.Prelude.{[], ◌+◌, ◌∷◌, ◌≡◌, ◌≤◌, Bool, List, None, Option, Some, false, if◌then◌else◌, map, nat_lt, true, ℕ}
use Rattle.std.specs.List.{slice_index_or}
use Rattle.definitions.specs.Merging.{num_living, rank}
use Rattle.definitions.specs.Postings.{terminated}

-- a mapping: the number of the first living document, and which documents are alive
pub record Mapping : Type 0 where
  pub base : ℕ
  pub flags : List Bool

-- behind the number of the last living document
abbrev pub end_of : Mapping → ℕ
end_of m = m.base + num_living m.flags

-- the new number of a document, if it is alive
abbrev pub new_doc : Mapping → ℕ → Option ℕ
new_doc m doc = if slice_index_or m.flags doc false then Some (m.base + rank m.flags doc) else None

-- ---- as it is kept

-- the new numbers of all documents, past every document where one is dead
abbrev pub new_docs : ℕ → List Bool → List ℕ
new_docs base [] = []
new_docs base (true ∷ flags) = base ∷ new_docs (base + 1) flags
new_docs base (false ∷ flags) = terminated ∷ new_docs base flags

-- whether a document with such a new number is alive
abbrev pub is_living : ℕ → Bool
is_living doc = nat_lt doc terminated

-- the mapping of which these are the numbers
abbrev pub mapping_of : ℕ → List ℕ → Mapping
mapping_of base docs = record { base = base; flags = map is_living docs }

-- the numbers are those of a mapping, whose living documents end there
pub record AreNumbers (base end : ℕ) (docs : List ℕ) : Type 0 where
  pub docs_are : docs ≡ new_docs base (map is_living docs)
  pub end_is : end ≡ base + num_living (map is_living docs)
  pub end_fits : end ≤ terminated
