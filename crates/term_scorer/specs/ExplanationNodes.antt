-- The explanations in an explanation, counted so that each step of letting one go lowers their number.
use Rattle.std.specs.Prelude.{[], ◌+◌, ◌∷◌, List, map, suc, ℕ}
use Rattle.term_scorer.specs.declared.explanation.Explanation.{Explanation}
use Rattle.term_scorer.specs.declared.explanation.Explanation.TheOpen.{Explanation-F}
use Rattle.term_scorer.specs.declared.explanation.Explanation.TheFolds.{fold-Explanation}

-- explanations by what they follow from: each counts twice
abbrev pub sum_nodes : List (ℕ × ℕ) → ℕ
sum_nodes [] = 0
sum_nodes (e ∷ es) = 2 + (e.0 + sum_nodes es)

-- the nodes of a list whose first is let go: what the first follows from is the list above
abbrev pub sum_above : List (ℕ × ℕ) → ℕ
sum_above [] = 0
sum_above (e ∷ es) = suc (e.1 + sum_nodes es)

-- one level, with what each detail follows from already counted
abbrev pub counted_step : Explanation-F (ℕ × ℕ) → ℕ × ℕ
counted_step e = (sum_nodes e.details.items, sum_above e.details.items)

-- what an explanation follows from, counted in both ways
abbrev pub counts : Explanation → ℕ × ℕ
counts = fold-Explanation (ℕ × ℕ) counted_step

abbrev pub nodes : List Explanation → ℕ
nodes es = sum_nodes (map counts es)

abbrev pub nodes_above : List Explanation → ℕ
nodes_above es = sum_above (map counts es)

abbrev pub counted : List Explanation → ℕ × ℕ
counted es = (nodes es, nodes_above es)
