-- The explanations in lists, one after the other.
use Rattle.std.proofs.Common.{[], arith, length, ◌+◌, ◌++◌, ◌<◌, ◌∷◌, ◌≡◌, List}
use Rattle.term_scorer.specs.ExplanationNodes.{counts, nodes, nodes_above}
use Rattle.term_scorer.specs.declared.explanation.Explanation.{Explanation}

-- the explanations of a list with one more
pub nodes-last : (es : List Explanation) (e : Explanation) → nodes (es ++ e ∷ []) ≡ nodes es + (2 + (counts e).0)
nodes-last [] e = omega arith
nodes-last (d ∷ es) e = omega (arith, nodes-last es e)

-- those of a list above with one more, where it isn't the first
pub nodes_above-last : (es : List Explanation) (e : Explanation) → 0 < length es → nodes_above (es ++ e ∷ []) ≡ nodes_above es + (2 + (counts e).0)
nodes_above-last [] e some = omega (arith, some)
nodes_above-last (d ∷ es) e some = omega (arith, nodes-last es e)
