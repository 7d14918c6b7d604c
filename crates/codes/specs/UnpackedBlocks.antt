-- The numbers of a packed block.
use Rattle.std.specs.Prelude.{[], ◌^◌, List, None, Option, Some, ℕ}
use lib.Lanes.{digits_l, number_l}

-- the numbers of a packed block: its bytes as one number, in digits of the width
unfoldable pub unpacked : ℕ → List ℕ → List ℕ
unpacked w bytes = digits_l (2 ^ w) 128 (number_l 256 bytes)

-- a list that may be none
abbrev pub listed : Option (List ℕ) → List ℕ
listed None = []
listed (Some numbers) = numbers
