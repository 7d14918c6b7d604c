-- The members of a merge, and what the living documents of all of them have.
use Rattle.std.specs.Prelude.{[], ◌++◌, ◌∷◌, ◌≡◌, Bool, List, length, suc, zero, ℕ}
use Rattle.definitions.specs.Merging.{renumbered}
use Rattle.definitions.specs.Postings.{Posting}
use Rattle.definitions.specs.Schema.{Schema}
use Rattle.segment_reader.specs.Readers.{IsReader, postings_in}
use Rattle.layouts.specs.InvertedIndexes.{IndexedField}
use Rattle.merging.specs.declared.member.Member.{Member}
use Rattle.merging.specs.Mappings.{Mapping, end_of}

-- a member has the terms of these fields, and a number or none for each document
pub record IsMember (schema : Schema) (m : Member) (fields : List IndexedField) : Type 0 where
  pub norms : List (ℕ × List ℕ)
  pub is_reader : IsReader schema (length m.doc_ids.flags) norms fields m.inverted_index.now

-- postings of a member's living documents, under their new numbers
abbrev pub living_of : Mapping → List Posting → List Posting
living_of m ps = renumbered m.base m.flags ps

-- the postings of a term of a field by its value bytes, member by member
abbrev pub merged_in : ℕ → List ℕ → List Member → List (List IndexedField) → List Posting
merged_in field key [] all = []
merged_in field key (m ∷ ms) [] = []
merged_in field key (m ∷ ms) (fields ∷ all) = living_of m.doc_ids (postings_in fields field key) ++ merged_in field key ms all

-- each member has these fields, and its living documents are numbered behind those before, up to an end
abbrev pub AreMembers : Schema → ℕ → ℕ → List Member → List (List IndexedField) → Type 0
AreMembers schema next end [] [] = next ≡ end
AreMembers schema next end [] (fields ∷ all) = ⊥
AreMembers schema next end (m ∷ ms) [] = ⊥
AreMembers schema next end (m ∷ ms) (fields ∷ all) = IsMember schema m fields × (m.doc_ids.base ≡ next) × AreMembers schema (end_of m.doc_ids) end ms all

-- where the numbers of the first members end, from one on
abbrev pub end_after : ℕ → ℕ → List Member → ℕ
end_after next zero ms = next
end_after next (suc k) [] = next
end_after next (suc k) (m ∷ ms) = end_after (end_of m.doc_ids) k ms

-- which documents of each member are alive, and the postings that it has of a term
abbrev pub parts_of : ℕ → List ℕ → List Member → List (List IndexedField) → List (List Bool × List Posting)
parts_of field key [] all = []
parts_of field key (m ∷ ms) [] = []
parts_of field key (m ∷ ms) (fields ∷ all) = (m.doc_ids.flags, postings_in fields field key) ∷ parts_of field key ms all
