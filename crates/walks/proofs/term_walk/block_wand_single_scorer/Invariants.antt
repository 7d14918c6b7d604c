use Rattle.std.proofs.Common.{length, ◌+◌, ◌-◌, ◌<◌, ◌≡◌, ◌≤◌}
use Rattle.definitions.specs.Postings.{terminated}
use Rattle.definitions.specs.Sinks.{fed, later_blocks_above}
use Rattle.docsets.specs.Entries.{from}
use Rattle.docsets.specs.ScoredEntries.{pairs_of}
use Rattle.walks.proofs.BlockWalks.{BeginsBlock, to_come}
use Rattle.walks.specs.BlocksLeft.{blocks_decoded_by, blocks_left}
use Rattle.term_scorer.specs.ScoredTerms.{scored_left}
use Rattle.walks.proofs.term_walk.block_wand_single_scorer.Given as goal

-- what the sink has come to and what is left to feed make what all make, and what was decoded and will yet be decoded is
-- what was to be at the start
abbrev pub invariant-loop-target : goal.invariant-loop-target
invariant-loop-target g l = record {
  limit : l.threshold ≡ g.K.Sink.limit (g.K.Sink.state l.sink);
  room : length (from l.target (scored_left l.scorer)) ≤ g.K.Sink.room l.sink;
  small : l.target ≤ terminated;
  begins : l.target < terminated → BeginsBlock l.target l.scorer;
  fed : fed g.K.Sink.limit g.K.Sink.taken (g.K.Sink.state l.sink) (pairs_of (from l.target (scored_left l.scorer))) ≡ fed g.K.Sink.limit g.K.Sink.taken (g.K.Sink.state l.fn.sink) (pairs_of (scored_left l.fn.scorer));
  counted : blocks_decoded_by l.scorer + to_come g.K.Sink.limit g.K.Sink.taken (g.K.Sink.state l.sink) l.target l.scorer ≡ blocks_decoded_by l.fn.scorer + later_blocks_above g.K.Sink.limit g.K.Sink.taken (g.K.Sink.state l.fn.sink) (blocks_left l.fn.scorer);
}

abbrev pub decreases-loop-target : goal.decreases-loop-target
decreases-loop-target g l = terminated - l.target
