use Rattle.std.proofs.Common.{◌∙◌}
use Rattle.scorer_answers.proofs.LivingCounts.{alive_counted, each_counted}
use Rattle.scorer_answers.proofs.counts.count.Goals as goal

-- src/counts.rt:36:1
pub returns-in-Some-clause-count : goal.returns-in-Some-clause-count
returns-in-Some-clause-count g c schema analyze weight b q rows has passes are =
    c.count.ensures.count ∙ alive_counted schema analyze rows c.args.reader.now has weight b q (g.D.DocSet.entries c.args.docset.now) passes are c.in-Some.alive.now c.in-Some.ensures.some

-- src/counts.rt:36:1
pub returns-in-None-clause-count : goal.returns-in-None-clause-count
returns-in-None-clause-count g c schema analyze weight b q rows has passes are =
    c.count_including_deleted.ensures.count ∙ each_counted schema analyze rows c.args.reader.now has weight b q (g.D.DocSet.entries c.args.docset.now) passes are c.in-None.ensures.none
