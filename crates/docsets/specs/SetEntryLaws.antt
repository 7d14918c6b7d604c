-- Laws of the entries of a set.
use Rattle.std.proofs.Common.{[], ◌+◌, ◌-◌, ◌<◌, ◌∷◌, ◌≡◌, ◌≤◌, Bool, List, arith, false, length, slice_index_or, true, ℕ}
use Rattle.docsets.specs.Entries.{Entry, Rising, from}
use Rattle.docsets.specs.EntryLaws.{Rising-from, Rising-lower}
use Rattle.definitions.specs.Postings.{terminated}
use Rattle.docsets.specs.SetEntries.{flag_entries, set_entries}

-- an entry without a score
abbrev pub bare : ℕ → Entry
bare doc = record { doc = doc; score = 0; count = 0; positions = [] }

-- the numbers ascend
pub Rising-flags : (n : ℕ) (flags : List Bool) → n + length flags ≤ terminated → Rising n (flag_entries n flags)
Rising-flags n [] l = tt
Rising-flags n (true ∷ flags) l = (omega arith, omega (arith, l), omega arith, Rising-flags (n + 1) flags (omega (arith, l)))
Rising-flags n (false ∷ flags) l = Rising-lower n (n + 1) (flag_entries (n + 1) flags) (omega arith) (Rising-flags (n + 1) flags (omega (arith, l)))

-- the flag of a number, where the first is that of n
abbrev pub flag_of : ℕ → List Bool → ℕ → Bool
flag_of n flags i = slice_index_or flags (i - n) false

-- no flag is set from one number up to another
abbrev pub NoneBetween : ℕ → List Bool → ℕ → ℕ → Type 0
NoneBetween n flags low high = (i : ℕ) → n ≤ i → low ≤ i → i < high → flag_of n flags i ≡ false

-- what is left of a set rises
pub Rising-set : (doc : ℕ) (flags : List Bool) → length flags ≤ terminated → Rising 0 (from doc (set_entries flags))
Rising-set doc flags small = Rising-from doc 0 (set_entries flags) (Rising-flags 0 flags (omega (arith, small)))
