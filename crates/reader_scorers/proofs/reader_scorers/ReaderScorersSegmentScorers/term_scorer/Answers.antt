use Rattle.definitions.specs.Query as definitions
use Rattle.query_scorers.proofs.FormScores.{from_found}
use Rattle.reader_scorers.proofs.reader_scorers.ReaderScorersSegmentScorers.term_scorer.Goals as goal

pub returns : goal.returns
returns g c =
    let sim = g.W.LeafWeights.similarity c.args.self.now.weights.now in
    let r = c.args.self.now.reader.now in
    from_found _ sim c.args.boost (definitions.term c.args.query.now.0 c.args.query.now.1) r c.term_scorer-found.result _ c.term_scorer-found.ensures.some c.term_scorer-found.ensures.none c.of_term.ensures.some c.of_term.ensures.none
