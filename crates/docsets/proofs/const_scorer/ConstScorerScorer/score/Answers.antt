use Rattle.std.proofs.Common.{arith, ap, pos, refl, sym, ◌<◌, ◌∙◌}
use Rattle.std.proofs.lemmas.Int.{ints, to_z-of_z}
use mir.Syntax.{w64}
use mir.Val.{SFits}
use Rattle.docsets.specs.Entries.{Entry, first}
use Rattle.definitions.specs.Postings.{terminated}
use Rattle.docsets.proofs.ScoredEntryLaws.{first-rescored, first_score-rescored}
use Rattle.docsets.proofs.const_scorer.ConstScorerScorer.score.Goals as goal

pub returns-clause-value : goal.returns-clause-value
returns-clause-value g c =
    let es = g.D.DocSet.entries c.args.self.now.docset in
    let f = λ (e : Entry). c.args.self.now.score in
    let same = first-rescored f es in
    let on : first es < terminated = omega (arith, same, c.requires) in
    let is = first_score-rescored f c.args.self.now.score es on (λ e. refl) in
    let small = c.args.self.now.small in
    let fits : SFits w64 (pos c.args.self.now.score) = omega (arith, ints, small) in
    to_z-of_z w64 (pos c.args.self.now.score) fits ∙ ap pos (sym is)
