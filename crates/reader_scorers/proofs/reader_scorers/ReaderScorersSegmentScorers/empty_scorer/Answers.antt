use Rattle.query_scorers.proofs.FormScores.{empty_scores}
use Rattle.reader_scorers.proofs.reader_scorers.ReaderScorersSegmentScorers.empty_scorer.Goals as goal

pub returns : goal.returns
returns g c =
    let sim = g.W.LeafWeights.similarity c.args.self.now.weights.now in
    λ b. empty_scores sim b c.args.self.now.reader.now _ c.of_none.ensures
