-- What is known of a block ahead is known in one way.
use Rattle.std.proofs.Common.{Bool, List, None, Option, Some, ℕ}
use Rattle.std.specs.Coded.{Unit-prop}
use Rattle.std.proofs.Props.{props}
use Rattle.segment_postings.specs.Ahead.{IsAhead}
use Rattle.segment_postings.specs.Reading.{HasPassed, StandsIn}
use Rattle.segment_postings.specs.ReadingLaws.{StandsIn-prop}
use Rattle.segment_postings.specs.declared.block_segment_postings.Ahead.{Ahead}
use Rattle.codes.specs.SkipBlocks.{Skips}

pub HasPassed-prop : (reads sums : Bool) (target before : ℕ) (s : Skips) (after : ℕ) (t : Skips) (bytes : List ℕ) → IsProp (HasPassed reads sums target before s after t bytes)
HasPassed-prop reads sums target before s after t bytes = let stands : IsProp (StandsIn reads sums after t bytes) = StandsIn-prop reads sums after t bytes in hlevel (props, stands)

pub IsAhead-prop : (reads sums : Bool) (before : ℕ) (s : Skips) (ahead : Option Ahead) (bytes : List ℕ) → IsProp (IsAhead reads sums before s ahead bytes)
IsAhead-prop reads sums before s None bytes = Unit-prop
IsAhead-prop reads sums before s (Some a) bytes = HasPassed-prop reads sums a.target before s a.before a.skips bytes
