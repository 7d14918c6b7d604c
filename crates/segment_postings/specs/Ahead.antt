-- A block that was reached, and isn't decoded.
use Rattle.std.specs.Prelude.{⊤, Bool, List, None, Option, Some, ℕ}
use Rattle.segment_postings.specs.Reading.{HasPassed}
use Rattle.segment_postings.specs.declared.block_segment_postings.Ahead.{Ahead}
use Rattle.codes.specs.SkipBlocks.{Skips}

-- from the block on that is held, blocks that end before its target are passed, and no other
abbrev pub IsAhead : Bool → Bool → ℕ → Skips → Option Ahead → List ℕ → Type 0
IsAhead reads sums before s None bytes = ⊤
IsAhead reads sums before s (Some a) bytes = HasPassed reads sums a.target before s a.before a.skips bytes
