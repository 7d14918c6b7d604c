-- The bodies of segments, by their parts and the alive sets behind them.
use Rattle.std.specs.Prelude.{◌<◌, ◌^◌, ◌≡◌, Bool, List, length, ℕ}
use Rattle.std.specs.List.{AllByRecursion}
use Rattle.segment_definitions.specs.ListBodies.{Fits, Part, segments_body}

-- how many flags there are is written in four bytes
abbrev pub IsShort : List Bool → Type 0
IsShort flags = length flags < 2 ^ 32

-- the bytes are a body of these parts, each with its alive set
pub record IsBody (parts : List Part) (sets : List (List Bool)) (body : List ℕ) : Type 0 where
  pub num_parts_fits : length parts < 2 ^ 32
  pub fit : AllByRecursion Fits parts
  pub set_for_each : length sets ≡ length parts
  pub short : AllByRecursion IsShort sets
  pub body_is : body ≡ segments_body parts sets
