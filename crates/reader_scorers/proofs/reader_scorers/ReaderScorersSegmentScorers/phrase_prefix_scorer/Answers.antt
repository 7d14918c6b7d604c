use Rattle.definitions.specs.Query as definitions
use Rattle.query_scorers.proofs.FormScores.{from_found}
use Rattle.reader_scorers.proofs.reader_scorers.ReaderScorersSegmentScorers.phrase_prefix_scorer.Goals as goal

pub returns : goal.returns
returns g c =
    let sim = g.W.LeafWeights.similarity c.args.self.now.weights.now in
    let r = c.args.self.now.reader.now in
    from_found _ sim c.args.boost (definitions.phrase_prefix c.args.query.now.0 c.args.query.now.1) r c.in_ok-found.found _ c.in_ok-found.ensures.some c.in_ok-found.ensures.none c.of_phrase_prefix.ensures.some c.of_phrase_prefix.ensures.none
