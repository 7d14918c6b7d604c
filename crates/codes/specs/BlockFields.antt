-- The bytes of a block as one number, and its fields.
use Rattle.std.specs.Prelude.{zero, suc, ◌+◌, ◌*◌, ◌/◌, ◌%◌, ◌^◌, ℕ}

-- w bits of a number, from the offset of value i on
abbrev pub field : ℕ → ℕ → ℕ → ℕ
field w n i = n / 2 ^ (i * w) % 2 ^ w

-- the least document that may come after i strict deltas
abbrev pub next_after : ℕ → (ℕ → ℕ) → ℕ → ℕ
next_after next delta zero = next
next_after next delta (suc i) = next_after next delta i + delta i + 1

-- the document of a strict delta, as far as 32 bits hold it
abbrev pub document : ℕ → (ℕ → ℕ) → ℕ → ℕ
document next delta i = (next_after next delta i + delta i) % 2 ^ 32
