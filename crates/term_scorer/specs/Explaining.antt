-- What an explanation explains.
use Rattle.std.specs.Prelude.{ℤ}
use Rattle.term_scorer.specs.declared.explanation.Explanation.{Explanation, Explanation'}

-- the value
abbrev pub explained_value : Explanation → ℤ
explained_value (Explanation' value description shape details context) = value
