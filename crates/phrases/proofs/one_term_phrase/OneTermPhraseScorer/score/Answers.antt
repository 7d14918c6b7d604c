use Rattle.std.proofs.Common.{arith, ap, pos, ◌<◌, ◌∙◌}
use Rattle.std.proofs.lemmas.Int.{ints, to_z-of_z}
use mir.Syntax.{w64}
use mir.Val.{SFits}
use Rattle.std.proofs.Common.{sym}
use Rattle.docsets.specs.Entries.{first}
use Rattle.definitions.specs.Postings.{terminated}
use Rattle.phrases.proofs.OneTermLaws.{first-one_term, first_score-one_term}
use Rattle.phrases.proofs.one_term_phrase.OneTermPhraseScorer.score.Goals as goal

pub returns-clause-value : goal.returns-clause-value
returns-clause-value g c =
    let s = c.args.self.now in
    let es = g.P.DocSet.entries s.postings in
    let same = first-one_term s.boost es in
    let on : first es < terminated = omega (arith, same, c.requires) in
    let is = first_score-one_term s.boost es on in
    let small = s.small in
    let fits : SFits w64 (pos s.boost) = omega (arith, ints, small) in
    to_z-of_z w64 (pos s.boost) fits ∙ ap pos (sym is)
