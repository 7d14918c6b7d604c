use Rattle.std.proofs.Common.{arith}
use Rattle.docsets.proofs.EntryLaws.{few}
use Rattle.term_scorer.specs.ScoredTerms.{scored_left}
use Rattle.term_scorer.specs.ScoredTermsLaws.{rising_scored}
use Rattle.segment_cases.proofs.term_answers.pruned.Goals as goal

-- src/term_answers.rt:112:9
pub for_each_pruning-requires-clause-room : goal.for_each_pruning-requires-clause-room
for_each_pruning-requires-clause-room c = (let most = few 0 (scored_left c.in-Some.scorer) (rising_scored c.in-Some.scorer) in omega (arith, most))
