use Rattle.std.proofs.Common.{[], ap, arith, map, pos, sym, of_z, to_z, ◌∙◌, ◌≡◌, ◌≤◌, ℕ}
use Rattle.std.proofs.lemmas.Int.{ints, to_z-of_z}
use Rattle.std.proofs.lemmas.List.{append-nil}
use Rattle.scorers.proofs.Choices.{chosen-score}
use Rattle.docsets.specs.Members.{entries_at, scores_in}
use Rattle.docsets.proofs.MemberLaws.{entries-least}
use Rattle.definitions.specs.Scoring.{max_score}
use mir.Syntax.{w64}
use mir.Val.{SFits}
use Rattle.scorers.proofs.disjunction.DisjunctionScorer.score.Goals as goal

pub returns-clause-value : goal.returns-clause-value
returns-clause-value g c =
    let s = c.args.self.now in
    let entries = g.S.DocSet.entries in
    let answer = g.C.ScoreCombiner.answer in
    let ess = map entries s.docsets.items in
    let at = s.chosen.at in
    let here = c.requires in
    let unused = s.chosen.unused in
    let bound = s.chosen.fits s.doc in
    let n : ℕ = answer s.combiner (scores_in (entries_at s.doc ess)) in
    let is : c.score.result ≡ pos n = c.score.ensures ∙ ap pos (c.combine_at.ensures.answer [] ∙ ap (answer s.combiner) (append-nil (scores_in (entries_at s.doc ess)))) in
    let small : n ≤ max_score = g.met.C.ScoreCombiner.bounded s.combiner (scores_in (entries_at s.doc ess)) (omega (arith, bound, unused)) in
    let fits : SFits w64 (pos n) = omega (arith, ints, small) in
    ap (λ z. to_z w64 (of_z w64 z)) is ∙ (to_z-of_z w64 (pos n) fits ∙ ap pos (sym (chosen-score answer g.C.ScoreCombiner.total s.minimum s.combiner ess s.doc s.chosen (λ d l. entries-least entries g.met.S.DocSet.rising d s.docsets.items l) (omega (arith, at, here)))))
