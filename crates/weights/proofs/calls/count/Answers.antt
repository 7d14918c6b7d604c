use Rattle.std.proofs.Common.{refl}
use Rattle.scorer_answers.proofs.AnswerLaws.{scores_match}
use Rattle.segment_reader.specs.SegmentReaders.{max_doc_of}
use Rattle.weights.proofs.WeighedLaws.{weighed_within}
use Rattle.weights.proofs.calls.count.Goals as goal

pub count-requires : goal.count-requires
count-requires g c = record { within = weighed_within (g.W.SegmentWeight.scores_by c.args.weight.now) 1 (g.W.SegmentWeight.query c.args.weight.now) c.args.reader.now _ (max_doc_of c.args.reader.now) refl c.requires c.in_ok-scorer.ensures }

pub returns : goal.returns
returns g c schema analyze sim rows has by passes =
    c.count.ensures.count schema analyze sim.weight 1 (g.W.SegmentWeight.query c.args.weight.now) rows has passes (scores_match sim 1 (g.W.SegmentWeight.query c.args.weight.now) c.args.reader.now _ (c.in_ok-scorer.ensures sim by))
