-- Where terms stand: their entries in the section of terms, and their postings and positions in theirs.
use Rattle.std.specs.Prelude.{[], ◌%◌, ◌*◌, ◌+◌, ◌++◌, ◌-◌, ◌<◌, ◌^◌, ◌∷◌, ◌≡◌, ◌≤◌, Bool, List, None, Option, Some, drop, false, get_or, if◌then◌else◌, length, nat_eq, take, true, ℕ}
use Rattle.std.specs.Cmp.Lexicographic.{slice_cmp}
use Rattle.std.specs.Ordering.{is_lt, nat_cmp}
use Rattle.definitions.specs.NumberCodes.{take_bytes}
use Rattle.layouts.specs.TermSections.{Told, before_in_block, coded_entry}
use Rattle.front_coding.specs.TakenKeys.{AreTerms}
use Rattle.front_coding.specs.declared.term_starts.TermStart.{TermStart}

-- ---- where terms begin

-- where the term behind one begins
abbrev pub behind : Option (List ℕ) → TermStart → Told → TermStart
behind before at t = record { entry = at.entry + length (coded_entry before t); postings = at.postings + t.1.postings_len; positions = at.positions + t.1.positions_len }

-- the start of a term that begins a block
abbrev pub begun : ℕ → ℕ → TermStart → List TermStart
begun size number at = if nat_eq (number % size) 0 then at ∷ [] else []

-- where each block begins, when the first term begins at a given start
abbrev pub starts_from : ℕ → ℕ → List ℕ → TermStart → List Told → List TermStart
starts_from size number before at [] = []
starts_from size number before at (t ∷ ts) = begun size number at ++ starts_from size (number + 1) t.0 (behind (before_in_block size number before) at t) ts

-- where the postings of terms end that begin at an offset, and where their positions do
abbrev pub postings_end : ℕ → List Told → ℕ
postings_end p [] = p
postings_end p (t ∷ ts) = postings_end (p + t.1.postings_len) ts

abbrev pub positions_end : ℕ → List Told → ℕ
positions_end q [] = q
positions_end q (t ∷ ts) = positions_end (q + t.1.positions_len) ts

-- these ends are numbers of 64 bits
pub record EndWithin (at : TermStart) (ts : List Told) : Type 0 where
  pub postings : postings_end at.postings ts < 2 ^ 64
  pub positions : positions_end at.positions ts < 2 ^ 64

-- ---- blocks

-- the key that stands whole at an offset; none where no bytes are taken there
abbrev pub key_at : List ℕ → ℕ → List ℕ
key_at section offset = elim (take_bytes (drop offset section)) [ None ↦ [] | Some p ↦ p.0 ]

-- at a start the terms of a block and all behind it begin, as if they were the first
pub record BeginsAt (size block : ℕ) (at : TermStart) (section : List ℕ) (first : TermStart) (ts : List Told) (end : List ℕ) : Type 0 where
  pub within : size * block < length ts
  pub there : AreTerms size 0 [] (drop at.entry section) (drop (size * block) ts) end
  pub postings : at.postings ≡ postings_end first.postings (take (size * block) ts)
  pub positions : at.positions ≡ positions_end first.positions (take (size * block) ts)

-- `num_terms` terms of one block begin at a start
pub record IsBlock (size num_terms : ℕ) (section : List ℕ) (at : TermStart) (ts : List Told) (end : List ℕ) : Type 0 where
  pub many : length ts ≡ num_terms
  pub num_terms_fit : num_terms ≤ size
  pub terms_are : AreTerms size 0 [] (drop at.entry section) ts end

-- whether a key stands before another
abbrev pub is_before : List ℕ → List ℕ → Bool
is_before key first = is_lt (slice_cmp nat_cmp key first)

-- `n` blocks begin with keys that aren't above one, and the next, if there is one, with one that is
pub record AreUpTo (section : List ℕ) (starts : List TermStart) (key : List ℕ) (n : ℕ) : Type 0 where
  pub within : n ≤ length starts
  pub low : 0 < n → (d : TermStart) → is_before key (key_at section (get_or starts (n - 1) d).entry) ≡ false
  pub high : n < length starts → (d : TermStart) → is_before key (key_at section (get_or starts n d).entry) ≡ true
