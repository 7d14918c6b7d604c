-- Flags of documents that die.
use Rattle.std.specs.Prelude.{[], ◌∷◌, Bool, List, false, filter, nat_lt, slice_set, ℕ}

-- the flags after these documents died
abbrev pub killed : List ℕ → List Bool → List Bool
killed [] flags = flags
killed (doc ∷ docs) flags = killed docs (slice_set flags doc false)

-- the documents before an end
abbrev pub before : ℕ → List ℕ → List ℕ
before end docs = filter (λ doc. nat_lt doc end) docs
