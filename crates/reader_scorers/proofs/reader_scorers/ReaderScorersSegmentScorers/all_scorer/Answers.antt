use Rattle.std.proofs.Common.{ap, arith, to_z, ◌≡◌}
use Rattle.std.proofs.lemmas.Int.{to_z_pos}
use mir.Syntax.{w64}
use Rattle.definitions.specs.Query as definitions
use Rattle.definitions.specs.Scoring.{natural}
use Rattle.query_scorers.proofs.FormScores.{moved}
use Rattle.reader_scorers.proofs.reader_scorers.ReaderScorersSegmentScorers.all_scorer.Goals as goal

pub returns : goal.returns
returns g c =
    let sim = g.W.LeafWeights.similarity c.args.self.now.weights.now in
    let r = c.args.self.now.reader.now in
    let small = c.requires in
    let boost : natural (to_z w64 c.args.boost) ≡ c.args.boost = ap natural (to_z_pos w64 c.args.boost (omega (arith, small))) in
    moved sim (natural (to_z w64 c.args.boost)) c.args.boost definitions.all r _ _ c.of_all.ensures boost (c.all_scorer.ensures sim)
