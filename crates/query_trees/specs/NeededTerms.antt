-- Terms that queries read.
use Rattle.std.specs.Prelude.{Bool, List, ℕ}
use Rattle.std.specs.Borrow.{Bor}

-- a term, and whether its positions are needed
abbrev pub needed : Bor (List ℕ) × Bool → List ℕ × Bool
needed p = (p.0.now, p.1)
