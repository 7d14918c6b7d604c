-- Keys and terms as they are taken back.
use Rattle.std.specs.Prelude.{[], ⊤, ◌%◌, ◌++◌, ◌+◌, ◌<◌, ◌^◌, ◌||◌, ◌∷◌, ◌≡◌, Bool, List, None, Option, Some, false, if◌then◌else◌, length, nat_eq, nat_lt, slice_get, take, true, ℕ}
use Rattle.std.specs.Cmp.Lexicographic.{slice_cmp}
use Rattle.std.specs.List.{AllByRecursion}
use Rattle.std.specs.Ordering.{is_lt, nat_cmp}
use Rattle.definitions.specs.Json.{only_if, ◌>>=◌}
use Rattle.definitions.specs.NumberCodes.{take_bytes, take_vint}
use Rattle.layouts.specs.TermSections.{TermLengths, Told, coded_from}

-- whether a byte stands above what the key before has at the alike, or that key ends there
abbrev pub is_above_at : List ℕ → ℕ → ℕ → Bool
is_above_at before alike first = elim (slice_get before alike) [ None ↦ nat_eq alike (length before) | Some byte ↦ nat_lt byte first ]

-- whether so much of the key before, and this rest, make the key of a term behind it, and no more is shared
abbrev pub is_next : List ℕ → ℕ → List ℕ → Bool
is_next before alike [] = false
is_next before alike (first ∷ rest) = is_above_at before alike first

-- the key behind another, and what follows it
abbrev pub take_next_key : List ℕ → List ℕ → Option (List ℕ × List ℕ)
take_next_key before bs = do
  alike ← take_vint bs
  rest ← take_bytes alike.1
  only_if (is_next before alike.0 rest.0) (Some (take alike.0 before ++ rest.0, rest.1))

-- whether the term of a number may have this key, behind one with the key before
abbrev pub may_follow : ℕ → List ℕ → List ℕ → Bool
may_follow number before key = nat_eq number 0 || is_lt (slice_cmp nat_cmp before key)

-- the key that stands first in a block, and what follows it
abbrev pub take_first_key : ℕ → List ℕ → List ℕ → Option (List ℕ × List ℕ)
take_first_key number before bs = do
  key ← take_bytes bs
  only_if (may_follow number before key.0) (Some key)

-- the key of the term of a number
abbrev pub take_key : ℕ → ℕ → List ℕ → List ℕ → Option (List ℕ × List ℕ)
take_key size number before bs = if nat_eq (number % size) 0 then take_first_key number before bs else take_next_key before bs

-- a term's lengths
abbrev pub take_lengths : List ℕ → Option (TermLengths × List ℕ)
take_lengths bs = do
  docs ← take_vint bs
  postings ← take_vint docs.1
  positions ← take_vint postings.1
  Some (record { doc_freq = docs.0; postings_len = postings.0; positions_len = positions.0 }, positions.1)

-- the term of a number, and what follows it
abbrev pub take_term : ℕ → ℕ → List ℕ → List ℕ → Option (Told × List ℕ)
take_term size number before bs = do
  key ← take_key size number before bs
  lengths ← take_lengths key.1
  Some ((key.0, lengths.0), lengths.1)

-- ---- terms one after another

-- numbers of 64 bits
pub record LengthsFit (l : TermLengths) : Type 0 where
  pub docs : l.doc_freq < 2 ^ 64
  pub postings : l.postings_len < 2 ^ 64
  pub positions : l.positions_len < 2 ^ 64

-- each follows the one before
abbrev pub Follow : ℕ → List ℕ → List Told → Type 0
Follow number before [] = ⊤
Follow number before (t ∷ ts) = (may_follow number before t.0 ≡ true) × Follow (number + 1) t.0 ts

-- these terms stand there from a number on, behind a key, and then the rest
pub record AreTerms (size number : ℕ) (before bytes : List ℕ) (ts : List Told) (rest : List ℕ) : Type 0 where
  pub spelled : bytes ≡ coded_from size number before ts ++ rest
  pub follow : Follow number before ts
  pub fit : AllByRecursion (λ t. LengthsFit t.1) ts

-- the key of the last of these terms
abbrev pub last_key : List ℕ → List Told → List ℕ
last_key before [] = before
last_key before (t ∷ ts) = last_key t.0 ts
