-- Laws of a term's entries.
use Rattle.std.proofs.Common.{[], ◌∷◌, ◌≡◌, List, get_or, refl, ℕ}
use Rattle.definitions.specs.Postings.{terminated}
use Rattle.docsets.specs.Entries.{first}
use Rattle.segment_postings.specs.TermEntries.{entries_of}

-- the first is that of the first document
pub first-entries_of : (docs counts numbers : List ℕ) → first (entries_of docs counts numbers) ≡ get_or docs 0 terminated
first-entries_of [] counts numbers = refl
first-entries_of (d ∷ ds) counts numbers = refl
