-- What skip entries tell of the counts in their blocks.
use Rattle.std.specs.Prelude.{◌+◌, ◌<◌, ◌^◌, ◌≡◌, ◌≤◌, List, slice_index, sum, true, ℕ}
use Rattle.definitions.specs.Schema.{IndexRecordOption, has_positions}
use Rattle.layouts.specs.TermPostings.{skip_entries}
use Rattle.codes.specs.SkipBlocks.{Skips}

-- entries of blocks with these counts, from the block on at which they stand, where all have `num_positions` positions
pub record TellCounts (num_positions : ℕ) (s : Skips) (counts : List ℕ) : Type 0 where
  pub option : IndexRecordOption
  pub ids : List ℕ
  pub blocks : ℕ
  pub next : ℕ
  pub docs : List ℕ
  pub entries : s.left ≡ skip_entries option ids blocks next docs counts
  pub positions : has_positions option ≡ true
  pub fit : (i : ℕ) → slice_index counts i < 2 ^ 32
  pub total : s.position_offset + sum counts ≤ num_positions
