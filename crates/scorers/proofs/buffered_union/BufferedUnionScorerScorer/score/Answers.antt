use Rattle.std.proofs.Common.{ap, arith, map, pos, sym, ◌<◌, ◌∙◌}
use Rattle.docsets.specs.Entries.{first_score}
use Rattle.definitions.specs.Postings.{terminated}
use Rattle.docsets.proofs.MemberLaws.{entries-least}
use Rattle.scorers.proofs.Fillings.{standing-first}
use Rattle.scorers.proofs.PassedDocuments.{score-there}
use Rattle.scorers.proofs.buffered_union.BufferedUnionScorerScorer.score.Goals as goal

pub returns-clause-value : goal.returns-clause-value
returns-clause-value g c =
    let s = c.args.self.now in
    let entries = g.S.DocSet.entries in
    let answer = g.C.ScoreCombiner.answer in
    let total = g.C.ScoreCombiner.total in
    let ess = map entries s.docsets.items in
    let at = s.standing.at in
    let here = c.requires in
    let l : s.doc < terminated = omega (arith, at, here) in
    score-there answer total g.met.C.ScoreCombiner.bounded s.present s.slots.items s.fresh s.start ess s.doc s.bucket c.index.result.now c.score.result (record { standing = s.standing; cleared = s.cleared; bucketed = s.bucketed }) (λ d b. entries-least entries g.met.S.DocSet.rising d s.docsets.items b) l c.index.ensures c.score.ensures
    ∙ sym (ap (λ es. pos (first_score es)) (standing-first answer total s.present s.slots.items s.fresh s.start ess s.doc s.standing l))
