use Rattle.std.proofs.Common.{[], ap, arith, length, map, of_z, pos, sum, sym, to_z, ◌++◌, ◌<◌, ◌∙◌, ◌≡◌, ◌≤◌, ℕ}
use Rattle.std.proofs.lemmas.Int.{ints, to_z-of_z}
use Rattle.std.proofs.lemmas.List.{append-nil}
use Rattle.definitions.specs.Postings.{terminated}
use Rattle.definitions.specs.Scoring.{max_score}
use Rattle.intersections.proofs.MeetingLaws.{meeting-fits, meeting-score}
use Rattle.docsets.specs.Members.{entries_at, scores_in}
use mir.Syntax.{w64}
use mir.Val.{SFits}
use Rattle.intersections.proofs.intersection.IntersectionScorer.score.Goals as goal

pub combine_at-requires-clause-fits : goal.combine_at-requires-clause-fits
combine_at-requires-clause-fits g c =
    let s = c.args.self.now in
    let entries = g.S.DocSet.entries in
    let unused = c.default.ensures.1 in
    let at = s.meets.at in
    let here = c.requires in
    let leading = s.leading in
    let fits = meeting-fits entries g.met.S.DocSet.rising s.docsets.items s.doc s.meets (omega (arith, leading)) (omega (arith, at, here)) in
    omega (arith, unused, fits)

pub returns-clause-value : goal.returns-clause-value
returns-clause-value g c =
    let s = c.args.self.now in
    let entries = g.S.DocSet.entries in
    let rising = g.met.S.DocSet.rising in
    let at = s.meets.at in
    let leading = s.leading in
    let here = c.requires in
    let on : s.doc < terminated = omega (arith, at, here) in
    let some : 0 < length s.docsets.items = omega (arith, leading) in
    let scores = scores_in (entries_at s.doc (map entries s.docsets.items)) in
    let n : ℕ = sum scores in
    let is : c.score.result ≡ pos n = c.score.ensures ∙ ap pos (c.combine_at.ensures.answer [] ∙ (c.default.ensures.0 (scores ++ []) ∙ ap sum (append-nil scores))) in
    let small : n ≤ max_score = meeting-fits entries rising s.docsets.items s.doc s.meets some on in
    let fits : SFits w64 (pos n) = omega (arith, ints, small) in
    ap (λ z. to_z w64 (of_z w64 z)) is ∙ (to_z-of_z w64 (pos n) fits ∙ ap pos (sym (meeting-score entries rising s.docsets.items s.doc s.meets some on)))
