-- Bytes that end a word.
use Rattle.std.proofs.Common.{false, leb-false, nat_le, ◌<◌, ◌≡◌, ℕ}
use Rattle.std.specs.Char.{is_ascii_alphanumeric}
use Rattle.definitions.specs.Analyzers.{is_word_byte}
use Rattle.definitions.proofs.Lists.{or_second}

-- they are ASCII
pub ascii : (b : ℕ) → is_word_byte b ≡ false → b < 128
ascii b h = leb-false 128 b (or_second (is_ascii_alphanumeric b) (nat_le 128 b) h)
