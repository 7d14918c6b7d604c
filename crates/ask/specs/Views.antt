-- Weights of the code, as the definitions have them.
use Rattle.std.specs.Prelude.{List, ℕ}
use Rattle.ask.specs.declared.rarity.Weight.{Weight}

-- a term with its weight
abbrev pub weight_of : Weight → List ℕ × ℕ
weight_of w = (w.term.now, w.weight)
