use Rattle.std.proofs.Common.{arith}
use Rattle.docsets.proofs.EntryLaws.{few}
use Rattle.term_scorer.specs.ScoredTerms.{scored_left}
use Rattle.term_scorer.specs.ScoredTermsLaws.{rising_scored}
use Rattle.segment_cases.proofs.best_hits.feed.Goals as goal

pub for_each_pruning-requires-clause-room : goal.for_each_pruning-requires-clause-room
for_each_pruning-requires-clause-room c =
    let most = few 0 (scored_left c.args.scorer.now) (rising_scored c.args.scorer.now) in
    let room = c.in_ok-reserve.ensures.ok in
    omega (arith, most, room)
