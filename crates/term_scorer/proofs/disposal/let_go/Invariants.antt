use Rattle.std.proofs.Common.{◌+◌, suc}
use Rattle.std.specs.Option.{option_map_or}
use Rattle.term_scorer.specs.ExplanationNodes.{nodes, nodes_above}
use Rattle.term_scorer.proofs.disposal.let_go.Given as goal

-- each step takes explanations away
abbrev pub decreases-loop-next : goal.decreases-loop-next
decreases-loop-next l = option_map_or (λ next. suc (nodes next.0.items + nodes_above next.1.items)) l.next 0
