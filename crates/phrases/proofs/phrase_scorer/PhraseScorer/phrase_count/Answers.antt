use Rattle.std.proofs.Common.{List, ap, arith, length, map, ◌<◌}
use Rattle.docsets.specs.Entries.{Entry, first, first_positions}
use Rattle.definitions.specs.Postings.{terminated}
use Rattle.intersections.specs.Meetings.{meeting}
use Rattle.phrases.proofs.PhraseEntryLaws.{first-columns, phrased-stands}
use Rattle.phrases.specs.PhraseScores.{phrase_score_by}
use Rattle.phrases.proofs.PlaceCounts.{places-few}
use Rattle.phrases.proofs.phrase_scorer.PhraseScorer.phrase_count.Goals as goal

pub overflow_cast-result : goal.overflow_cast-result
overflow_cast-result g c =
    let s = c.args.self.now in
    let es : List Entry = meeting (map g.S.DocSet.entries s.intersection_docset.docsets.items) in
    let settled = s.standing.settled in
    let stands = (phrased-stands (phrase_score_by s.similarity_weight_opt s.fieldnorm_reader) s.finder.slop es (λ l. (let some = settled.has_places l in let is = ap length (settled.places l) in omega (arith, some, is))) s.intersection_docset.meets.rises).0 in
    let required = c.requires in
    let on : first es < terminated = omega (arith, stands, required) in
    let few = places-few s.finder.slop (first_positions es) (first-columns es s.standing.columns on).1 in
    let is = ap length (settled.places on) in
    let len = c.len.ensures in
    omega (arith, few, is, len)
