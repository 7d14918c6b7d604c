use Rattle.std.proofs.Common.{of_z, rules, to_z, ◌≡◌}
use Rattle.std.proofs.lemmas.Int.{to_z-of_z}
use mir.Syntax.{w64}
use mir.Val.{SFits}
use Rattle.query_scorers.proofs.FormScores.{moved_best}
use Rattle.reader_scorers.proofs.reader_scorers.ReaderScorersSegmentScorers.best_scorer.Goals as goal

pub returns : goal.returns
returns g c =
    let sim = g.W.LeafWeights.similarity c.args.self.now.weights.now in
    let r = c.args.self.now.reader.now in
    let fits : SFits w64 c.args.tie_breaker = search rules in
    let tie : to_z w64 (of_z w64 c.args.tie_breaker) ≡ c.args.tie_breaker = to_z-of_z w64 c.args.tie_breaker fits in
    λ b queries scores. moved_best sim b queries _ c.args.tie_breaker r _ _ c.of_list.ensures tie (c.in_ok-list.ensures sim b queries scores)
