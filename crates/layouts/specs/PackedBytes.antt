-- Packed blocks of 128 numbers as bytes that compute: one number, whose digits in base 2 ^ w are the numbers,
-- and whose digits in base 256 are the bytes.
use Rattle.std.specs.Prelude.{◌*◌, ◌+◌, ◌^◌, List, if◌then◌else◌, nat_lt, suc, zero, ℕ}
use Rattle.std.specs.List.{list_all}
use Rattle.std.specs.Simd.Lanes.{digits_l, number_l}

-- the first width from w on that holds all the numbers, where one of the first widths does
abbrev pub width_from : ℕ → ℕ → List ℕ → ℕ
width_from zero w numbers = w
width_from (suc more) w numbers = if list_all (λ n. nat_lt n (2 ^ w)) numbers then w else width_from more (w + 1) numbers

-- the least width that holds all the numbers, which are below 2 ^ 32
unfoldable pub width_of : List ℕ → ℕ
width_of numbers = width_from 32 0 numbers

-- the numbers packed at a width, the lowest bit of the first byte first
unfoldable pub packed_at : ℕ → List ℕ → List ℕ
packed_at w numbers = digits_l 256 (16 * w) (number_l (2 ^ w) numbers)

-- the numbers packed at their least width
abbrev pub packed_bytes : List ℕ → List ℕ
packed_bytes numbers = packed_at (width_of numbers) numbers
