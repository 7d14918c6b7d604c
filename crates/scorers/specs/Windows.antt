-- A window over the documents to come: a flag and a combiner for each document from a start on, as far as it reaches.
use Rattle.std.specs.Prelude.{[], Bool, List, ◌%◌, ◌*◌, ◌++◌, ◌+◌, ◌-◌, ◌/◌, ◌<◌, ◌^◌, ◌||◌, ◌≡◌, ◌≢◌, ◌≤◌, false, if◌then◌else◌, length, map, min, nat_le, slice_index_or, sum, true, ℕ}
use Rattle.std.specs.Int.{bit_at}
use Rattle.definitions.specs.Postings.{terminated}
use Rattle.definitions.specs.Scoring.{max_score}
use Rattle.docsets.specs.Entries.{Entry, first, from}
use Rattle.docsets.specs.Members.{enough, entries_at, least, listed, scores_in, with_score}

-- what a slot holds: a fresh combiner where its document has no flag
abbrev pub held : {C : Type 0} → List Bool → List C → C → ℕ → C
held flags slots fresh k = if slice_index_or flags k false then slice_index_or slots k fresh else fresh

-- whether a document is in the window, or in one of the lists
abbrev pub is_ahead : List Bool → ℕ → List (List Entry) → ℕ → Bool
is_ahead flags start ess d = slice_index_or flags (d - start) false || enough 1 ess d

-- what its slot and the lists make of its scores
abbrev pub score_ahead : {C : Type 0} → (C → List ℕ → ℕ) → List Bool → List C → C → ℕ → List (List Entry) → ℕ → ℕ
score_ahead answer flags slots fresh start ess d = answer (held flags slots fresh (d - start)) (scores_in (entries_at d ess))

-- its entry
abbrev pub entry_ahead : {C : Type 0} → (C → List ℕ → ℕ) → List Bool → List C → C → ℕ → List (List Entry) → ℕ → Entry
entry_ahead answer flags slots fresh start ess d = with_score d (score_ahead answer flags slots fresh start ess d)

-- the documents from one on that are in the window or in the lists
abbrev pub windowed : {C : Type 0} → (C → List ℕ → ℕ) → List Bool → List C → C → ℕ → List (List Entry) → ℕ → List Entry
windowed answer flags slots fresh start ess low = listed (is_ahead flags start ess) (entry_ahead answer flags slots fresh start ess) low

-- the lists stand behind the window, and no sum of scores is above the greatest score
pub record IsWindow {C : Type 0} (total : C → ℕ) (flags : List Bool) (slots : List C) (fresh : C) (start : ℕ) (ess : List (List Entry)) : Type 0 where
  pub flags_fit : length flags ≡ 4096
  pub slots_fit : length slots ≡ 4096
  pub behind : min (start + 4096) terminated ≤ least ess
  pub unused : total fresh ≡ 0
  pub fits : (d : ℕ) → start ≤ d → d < terminated → total (held flags slots fresh (d - start)) + sum (scores_in (entries_at d ess)) ≤ max_score

-- scores go from lists into slots: of each document of the window, what its slot holds and what the lists
-- still give make what they made before
pub record Moves {C : Type 0} (answer : C → List ℕ → ℕ) (total : C → ℕ) (fresh : C) (start high : ℕ) (flags : List Bool) (slots : List C) (left : ℕ → List Entry) (flags_then : List Bool) (slots_then : List C) (left_then : ℕ → List Entry) : Type 0 where
  pub flags_fit : length flags_then ≡ length flags
  pub slots_fit : length slots_then ≡ length slots
  pub stand : (d : ℕ) → start ≤ d → d < high → (slice_index_or flags_then (d - start) false || nat_le 1 (length (left_then d))) ≡ (slice_index_or flags (d - start) false || nat_le 1 (length (left d)))
  pub answers : (d : ℕ) (xs : List ℕ) → start ≤ d → d < high → answer (held flags_then slots_then fresh (d - start)) (scores_in (left_then d) ++ xs) ≡ answer (held flags slots fresh (d - start)) (scores_in (left d) ++ xs)
  pub totals : (d : ℕ) → start ≤ d → d < high → total (held flags_then slots_then fresh (d - start)) + sum (scores_in (left_then d)) ≤ total (held flags slots fresh (d - start)) + sum (scores_in (left d))

-- the document on which a union stands is the first of those from it on, and in the window
pub record IsStanding {C : Type 0} (answer : C → List ℕ → ℕ) (total : C → ℕ) (flags : List Bool) (slots : List C) (fresh : C) (start : ℕ) (ess : List (List Entry)) (doc : ℕ) : Type 0 where
  pub window : IsWindow total flags slots fresh start ess
  pub at : doc ≡ first (windowed answer flags slots fresh start ess doc)
  pub begun : start ≤ doc
  pub small : doc ≤ terminated
  pub near : doc < terminated → doc < start + 4096

-- a window that is filled anew, from the least document on
pub record IsFilling {C : Type 0} (answer : C → List ℕ → ℕ) (total : C → ℕ) (fresh : C) (next high : ℕ) (cleared : List Bool) (slots : List C) (ess : List (List Entry)) (flags : List Bool) (slots_then : List C) (ess_then : List (List Entry)) : Type 0 where
  pub least_is : next ≡ least ess
  pub below : next < terminated
  pub high_is : high ≡ min (next + 4096) terminated
  pub none : (d : ℕ) → d < least ess → entries_at d ess ≡ []
  pub has_next : 0 < length (entries_at next ess)
  pub flags_fit : length cleared ≡ 4096
  pub slots_fit : length slots ≡ 4096
  pub clear : (k : ℕ) → slice_index_or cleared k false ≡ false
  pub unused : total fresh ≡ 0
  pub fits : (d : ℕ) → least ess ≤ d → d < terminated → sum (scores_in (entries_at d ess)) ≤ max_score
  pub rest : ess_then ≡ map (from high) ess
  pub moved : Moves answer total fresh next high cleared slots (λ d. entries_at d ess) flags slots_then (λ d. [])

-- a slot without a flag holds nothing, and no index below this one has a flag
pub record IsCleared {C : Type 0} (answer : C → List ℕ → ℕ) (total : C → ℕ) (flags : List Bool) (slots : List C) (fresh : C) (n : ℕ) : Type 0 where
  pub totals : (k : ℕ) → slice_index_or flags k false ≡ false → total (slice_index_or slots k fresh) ≡ total fresh
  pub answers : (k : ℕ) (xs : List ℕ) → slice_index_or flags k false ≡ false → answer (slice_index_or slots k fresh) xs ≡ answer fresh xs
  pub passed : (k : ℕ) → k < n → slice_index_or flags k false ≡ false

-- a union stands on a document whose flag is in this word, and no index below it has a flag
pub record StandsAt {C : Type 0} (answer : C → List ℕ → ℕ) (total : C → ℕ) (flags : List Bool) (slots : List C) (fresh : C) (start : ℕ) (ess : List (List Entry)) (doc bucket : ℕ) : Type 0 where
  pub standing : IsStanding answer total flags slots fresh start ess doc
  pub cleared : IsCleared answer total flags slots fresh (doc - start)
  pub bucketed : doc < terminated → bucket ≡ (doc - start) / 64

-- flags and slots that are from an index on what others are
pub record IsSameFrom {C : Type 0} (fresh : C) (n : ℕ) (flags : List Bool) (slots : List C) (flags_then : List Bool) (slots_then : List C) : Type 0 where
  pub flags_fit : length flags_then ≡ length flags
  pub slots_fit : length slots_then ≡ length slots
  pub flag : (k : ℕ) → n ≤ k → slice_index_or flags_then k false ≡ slice_index_or flags k false
  pub slot : (k : ℕ) → n ≤ k → slice_index_or slots_then k fresh ≡ slice_index_or slots k fresh

-- flags of a word that were taken out below a limit, and their bits
pub record IsTaken (at limit : ℕ) (flags flags_then : List Bool) (bits : ℕ) : Type 0 where
  pub long : length flags_then ≡ length flags
  pub past : (k : ℕ) → limit ≤ k → slice_index_or flags_then k false ≡ slice_index_or flags k false
  pub others : (k : ℕ) → k / 64 ≢ at → slice_index_or flags_then k false ≡ slice_index_or flags k false
  pub off : (k : ℕ) → k / 64 ≡ at → k < limit → slice_index_or flags_then k false ≡ false
  pub none : (k : ℕ) → k / 64 ≡ at → bit_at bits (k % 64) ≡ 0 → k < limit → slice_index_or flags k false ≡ false
  pub below : (j : ℕ) → bit_at bits j ≡ 1 → 64 * at + j < limit

-- slots of such a word of which these are left to clear
pub record IsClearing {C : Type 0} (answer : C → List ℕ → ℕ) (total : C → ℕ) (fresh : C) (at limit : ℕ) (flags : List Bool) (slots : List C) (slots_then : List C) (left : ℕ) : Type 0 where
  pub small : left < 2 ^ 64
  pub long : length slots_then ≡ length slots
  pub past : (k : ℕ) → limit ≤ k → slice_index_or slots_then k fresh ≡ slice_index_or slots k fresh
  pub below : (j : ℕ) → bit_at left j ≡ 1 → 64 * at + j < limit
  pub totals : (k : ℕ) → slice_index_or flags k false ≡ false → (k / 64 ≡ at → bit_at left (k % 64) ≡ 0) → total (slice_index_or slots_then k fresh) ≡ total fresh
  pub answers : (k : ℕ) (xs : List ℕ) → slice_index_or flags k false ≡ false → (k / 64 ≡ at → bit_at left (k % 64) ≡ 0) → answer (slice_index_or slots_then k fresh) xs ≡ answer fresh xs

-- the least number of a word that is in, where none of an earlier word is
pub record IsLowest (at : ℕ) (flags : List Bool) (el : ℕ) : Type 0 where
  pub index : el / 64 ≡ at
  pub on : slice_index_or flags el false ≡ true
  pub lowest : (k : ℕ) → k < el → slice_index_or flags k false ≡ false
