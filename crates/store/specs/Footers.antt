-- How a footer is read.
use Rattle.std.specs.Prelude.{◌&&◌, List, Option, Some, nat_eq, ℕ}
use Rattle.definitions.specs.Json.{only_if, ◌>>=◌}
use Rattle.definitions.specs.NumberCodes.{take_u32, take_u64}

-- a footer of version 2, as where the skip index starts, and what follows it
abbrev pub take_footer : List ℕ → Option (ℕ × List ℕ)
take_footer bs = do
  version ← take_u32 bs
  at ← take_u64 version.1
  low ← take_u64 at.1
  high ← take_u64 low.1
  only_if (nat_eq version.0 2 && nat_eq low.0 0 && nat_eq high.0 0) (Some (at.0, high.1))
