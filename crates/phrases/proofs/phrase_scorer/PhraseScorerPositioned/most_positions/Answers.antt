use Rattle.std.proofs.Common.{arith, map}
use Rattle.intersections.specs.Meetings.{meeting}
use Rattle.phrases.specs.PhraseScores.{phrase_score_by}
use Rattle.phrases.proofs.PlacesLaws.{most-phrased}
use Rattle.phrases.proofs.phrase_scorer.PhraseScorerPositioned.most_positions.Goals as goal

pub returns : goal.returns
returns g c =
    let s = c.args.self.now in
    let most = most-phrased (phrase_score_by s.similarity_weight_opt s.fieldnorm_reader) s.finder.slop (meeting (map g.S.DocSet.entries s.intersection_docset.docsets.items)) s.standing.columns in
    let room = s.standing.room.places in
    let capacity = c.capacity.ensures in
    omega (arith, most, room, capacity)
