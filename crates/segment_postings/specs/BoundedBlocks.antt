-- Bounds that hold: no document of a full block has a lesser length id than its entry tells, or a greater count.
use Rattle.std.specs.Prelude.{⊤, [], ◌<◌, ◌∷◌, ◌≤◌, List, drop, length, slice_index, take, ℕ}
use Rattle.layouts.specs.SkipEntries.{SkipEntry}
use Rattle.layouts.specs.TermPostings.{id_of}

-- an entry's bound, where it tells one, is one of documents with these counts, whose lengths have these ids
pub record IsBounded (ids : List ℕ) (e : SkipEntry) (docs counts : List ℕ) : Type 0 where
  pub least : e.greatest_count ≤ 254 → (i : ℕ) → i < length docs → e.least_id ≤ id_of ids (slice_index docs i)
  pub greatest : e.greatest_count ≤ 254 → (i : ℕ) → i < length docs → slice_index counts i ≤ e.greatest_count

-- each entry's bound is one of the 128 documents of its block
abbrev pub AreBounded : List ℕ → List SkipEntry → List ℕ → List ℕ → Type 0
AreBounded ids [] docs counts = ⊤
AreBounded ids (e ∷ es) docs counts = IsBounded ids e (take 128 docs) (take 128 counts) × AreBounded ids es (drop 128 docs) (drop 128 counts)
