-- Alive sets: which documents of a segment are alive, one flag for each.
use Rattle.std.specs.Prelude.{[], ◌*◌, ◌++◌, ◌+◌, ◌<◌, ◌∷◌, ◌≡◌, ◌^◌, Bool, List, if◌then◌else◌, length, map, ℕ}
use Rattle.std.specs.List.{flat_map}
use Rattle.definitions.specs.NumberCodes.{u32_bytes, u64_bytes}
use Rattle.definitions.specs.State.{pieces}

-- the number whose bit i is flag i
abbrev pub word_of : List Bool → ℕ
word_of [] = 0
word_of (flag ∷ flags) = (if flag then 1 else 0) + 2 * word_of flags

-- the flags in words of 64, the last word's other bits on zero
abbrev pub alive_words : List Bool → List ℕ
alive_words flags = map word_of (pieces 64 flags)

-- how many flags there are, and then their words
abbrev pub alive_bytes : List Bool → List ℕ
alive_bytes flags = u32_bytes (length flags) ++ flat_map u64_bytes (alive_words flags)

-- the bytes stand for these flags
pub record IsAliveSet (flags : List Bool) (bytes : List ℕ) : Type 0 where
  pub count : length flags < 2 ^ 32
  pub bytes_are : bytes ≡ alive_bytes flags
