-- Skip entries: what the full blocks of a term's postings have, one entry for each.
use Rattle.std.specs.Prelude.{[], ◌&&◌, ◌++◌, ◌+◌, ◌^◌, ◌∷◌, ◌≡◌, Bool, IsTrue, List, flat_map, if◌then◌else◌, length, nat_eq, nat_le, nat_lt, true, ℕ}
use Rattle.definitions.specs.NumberCodes.{u32_bytes}
use Rattle.definitions.specs.Postings.{terminated}

-- the last document of a block, the widths of its documents and counts, the sum of its counts, and its bound:
-- the least length id and the greatest count
pub record SkipEntry : Type 0 where
  pub last_doc : ℕ
  pub doc_width : ℕ
  pub count_width : ℕ
  pub count_sum : ℕ
  pub least_id : ℕ
  pub greatest_count : ℕ

-- a greatest count in one byte: 255 where it is over 254, and says no bound
abbrev pub count_code : ℕ → ℕ
count_code n = if nat_lt 254 n then 255 else n

-- an entry; whether counts and whether positions are recorded decides what it has
abbrev pub entry_bytes : Bool → Bool → SkipEntry → List ℕ
entry_bytes counts positions e = u32_bytes e.last_doc ++ e.doc_width ∷ (if counts then e.count_width ∷ [] else []) ++ (if positions then u32_bytes e.count_sum else []) ++ e.least_id ∷ e.greatest_count ∷ []

-- entries, one after another
abbrev pub skip_bytes : Bool → Bool → List SkipEntry → List ℕ
skip_bytes counts positions entries = flat_map (entry_bytes counts positions) entries

-- an entry of 128 documents from a least one on, in its ranges; what isn't recorded is 0, and each count 1
abbrev pub is_entry : Bool → Bool → ℕ → SkipEntry → Bool
is_entry counts positions least e = nat_le (least + 127) e.last_doc && nat_lt e.last_doc terminated && nat_le e.doc_width 31 && nat_le e.count_width 32 && nat_lt 0 e.greatest_count && (if counts then true else nat_eq e.count_width 0 && nat_eq e.greatest_count 1) && (if positions then nat_lt e.count_sum (2 ^ 32) else nat_eq e.count_sum 0)

-- each block comes after the one before
abbrev pub are_entries : Bool → Bool → ℕ → List SkipEntry → Bool
are_entries counts positions least [] = true
are_entries counts positions least (e ∷ es) = is_entry counts positions least e && are_entries counts positions (e.last_doc + 1) es

-- the bytes are these entries, one for each of `blocks`
pub record AreSkips (counts positions : Bool) (blocks : ℕ) (bytes : List ℕ) (entries : List SkipEntry) : Type 0 where
  pub many : length entries ≡ blocks
  pub bytes_are : bytes ≡ skip_bytes counts positions entries
  pub sound : IsTrue (are_entries counts positions 0 entries)
