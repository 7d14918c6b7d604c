use Rattle.std.proofs.lemmas.Result.{IfOk-weaker}
use Rattle.reader_scorers.proofs.SamePairs.{constant_paired}
use Rattle.reader_scorers.proofs.reader_scorers.ReaderScorersSegmentScorers.constant_scorer.Goals as goal

pub returns : goal.returns
returns g c =
    let sim = g.W.LeafWeights.similarity c.args.self.now.weights.now in
    let r = c.args.self.now.reader.now in
    λ b constant query same scores. IfOk-weaker c.with_score.result _ _ (λ scored pairs. constant_paired sim b c.args.score constant query r _ _ same pairs scores) c.with_score.ensures
