use Rattle.std.proofs.Common.{refl}
use Rattle.definitions.specs.Query as definitions
use Rattle.query_scorers.proofs.FormScores.{moved}
use Rattle.reader_scorers.proofs.reader_scorers.ReaderScorersSegmentScorers.clauses_scorer.Goals as goal

pub returns : goal.returns
returns g c =
    let sim = g.W.LeafWeights.similarity c.args.self.now.weights.now in
    let r = c.args.self.now.reader.now in
    λ b clauses musts shoulds must_nots. moved sim b b (definitions.boolean clauses c.args.minimum_number_should_match) r _ _ c.of_list-2.ensures refl (c.in_ok-list-2.ensures sim b clauses musts shoulds must_nots)
