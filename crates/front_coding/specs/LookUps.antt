-- Looking a key up in a block, term after term, by what each shares with the one before.
use Rattle.std.specs.Prelude.{[], ◌%◌, ◌+◌, ◌∷◌, Bool, List, None, Option, Some, bytes_eq, drop, if◌then◌else◌, nat_eq, nat_lt, ℕ}
use Rattle.std.specs.Cmp.Lexicographic.{slice_cmp}
use Rattle.std.specs.Ordering.{is_lt, nat_cmp}
use Rattle.std.specs.declared.cmp.Ordering.{Ordering}
use Rattle.std.specs.declared.cmp.Ordering.TheVariants.{Greater, Less}
use Rattle.definitions.specs.Json.{◌>>=◌}
use Rattle.definitions.specs.NumberCodes.{take_bytes, take_vint}
use Rattle.layouts.specs.TermSections.{TermLengths, Told, shared}
use Rattle.front_coding.specs.TakenKeys.{take_lengths}

-- how much of the key before a term of a number shares
abbrev pub shared_in : ℕ → ℕ → List ℕ → List ℕ → ℕ
shared_in size number before key = if nat_eq (number % size) 0 then 0 else shared before key

-- how much the term of a number shares, taken from the bytes
abbrev pub take_shared : ℕ → ℕ → List ℕ → Option (ℕ × List ℕ)
take_shared size number bs = if nat_eq (number % size) 0 then Some (0, bs) else take_vint bs

-- a term that isn't put together: how much it shares, the rest of its key, and its lengths
pub record Parts : Type 0 where
  pub shared_len : ℕ
  pub left : List ℕ
  pub lengths : TermLengths

abbrev pub parts_of : ℕ → ℕ → List ℕ → Told → Parts
parts_of size number before t = record { shared_len = shared_in size number before t.0; left = drop (shared_in size number before t.0) t.0; lengths = t.1 }

abbrev pub take_parts : ℕ → ℕ → List ℕ → Option (Parts × List ℕ)
take_parts size number bs = do
  alike ← take_shared size number bs
  left ← take_bytes alike.1
  lengths ← take_lengths left.1
  Some (record { shared_len = alike.0; left = left.0; lengths = lengths.0 }, lengths.1)

-- how a term stands to a key, and with how many bytes they begin alike where it is below: by its parts, where the term
-- before is below the key and begins alike with `alike` bytes
abbrev pub compared : Parts → ℕ → List ℕ → Ordering × ℕ
compared parts alike key = if nat_lt parts.shared_len alike then (Greater, alike) else if nat_lt alike parts.shared_len then (Less, alike) else (slice_cmp nat_cmp parts.left (drop alike key), alike + shared parts.left (drop alike key))

-- whether a term stands before a key
abbrev pub stands_below : List ℕ → Told → Bool
stands_below key t = is_lt (slice_cmp nat_cmp t.0 key)

-- the lengths of the term with a key, and where its postings and positions begin, when the first term's begin at these
-- offsets
abbrev pub located : List ℕ → ℕ → ℕ → List Told → Option (TermLengths × ℕ × ℕ)
located key p q [] = None
located key p q (t ∷ ts) = if bytes_eq t.0 key then Some (t.1, p, q) else located key (p + t.1.postings_len) (q + t.1.positions_len) ts
