-- Numbers in the range of scores.
use Rattle.std.specs.Prelude.{None, Option, Some, if◌then◌else◌, nat_lt, ℕ}
use Rattle.definitions.specs.Scoring.{max_score}

-- a number that isn't above all scores
abbrev pub in_range : ℕ → Option ℕ
in_range n = if nat_lt max_score n then None else Some n
