use Rattle.std.proofs.Common.{◌∙◌}
use Rattle.scorer_answers.proofs.LivingCounts.{all_counted}
use Rattle.scorer_answers.proofs.counts.count_all.Goals as goal

-- src/counts.rt:52:1
pub returns : goal.returns
returns c schema analyze rows has = c.num_docs.ensures ∙ all_counted schema analyze rows c.args.reader.now has
