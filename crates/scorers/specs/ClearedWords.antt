-- Laws of words of a window that are cleared.
use Rattle.std.specs.Prelude.{◌%◌, ◌*◌, ◌^◌, ℕ}

-- the mask of a bit
abbrev pub bit_mask : ℕ → ℕ
bit_mask k = 1 * 2 ^ k % 2 ^ 64
