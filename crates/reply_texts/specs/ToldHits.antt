-- Hits as they are told.
use Rattle.std.specs.Prelude.{ℤ}
use Rattle.std.specs.Int.RustNames.{unsigned_abs}
use Rattle.definitions.specs.Scanning as scanning
use Rattle.definitions.specs.Stored.{Named}

-- what a hit shows, its score without a sign
abbrev pub told : ℤ × Named → scanning.Hit
told h = (unsigned_abs h.0, h.1)
