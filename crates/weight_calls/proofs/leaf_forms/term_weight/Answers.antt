use Rattle.std.proofs.Common.{sym}
use Rattle.weight_calls.proofs.leaf_forms.term_weight.Goals as goal

pub returns-clause-scores : goal.returns-clause-scores
returns-clause-scores g c = c.new.ensures.scores (g.S.Statistics.similarity c.args.statistics.now) (sym c.weight_of-weight.ensures.value) (sym c.norms-norms.ensures.value)
