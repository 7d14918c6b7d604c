-- Length ids of documents.
use Rattle.std.specs.Prelude.{◌≡◌, List, Some, slice_get, slice_index, ℕ}
use Rattle.definitions.specs.Values.{Document}

-- the length id of each document stands at its index
abbrev pub AreIds : (Document → ℕ) → List Document → List ℕ → Type 0
AreIds id docs ids = (index : ℕ) (doc : Document) → slice_get docs index ≡ Some doc → slice_index ids index ≡ id doc
