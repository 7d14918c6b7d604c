use Rattle.std.proofs.Common.{[], ap, arith, is_some, map, of_z, pos, sum, sym, to_z, ◌++◌, ◌<◌, ◌∙◌, ◌≡◌, ◌≤◌, ℕ}
use Rattle.std.proofs.lemmas.Int.{ints, to_z-of_z}
use Rattle.std.proofs.lemmas.List.{append-nil}
use Rattle.definitions.specs.Postings.{terminated}
use Rattle.definitions.specs.Scoring.{max_score}
use Rattle.docsets.specs.Members.{entries_at, scores_in}
use Rattle.scorers.specs.Uniting.{uniting}
use Rattle.scorers.proofs.Together.{summed-fits, summed-score}
use mir.Syntax.{w64}
use mir.Val.{SFits}
use Rattle.docsets.proofs.AtLeastLaws.{union-first}
use Rattle.scorers.proofs.simple_union.SimpleUnionScorer.score.Goals as goal

pub combine_at-requires-clause-leads : goal.combine_at-requires-clause-leads
combine_at-requires-clause-leads g c = (let leads = c.args.self.now.together.leads in omega (arith, leads))

pub combine_at-requires-clause-on : goal.combine_at-requires-clause-on
combine_at-requires-clause-on g c =
    let s = c.args.self.now in
    let leads = s.together.leads in
    let at = union-first g.S.DocSet.entries g.met.S.DocSet.rising (uniting (is_some s.positions)) s.docsets.items in
    let here = c.requires in
    omega (arith, leads, at, here)

pub combine_at-requires-clause-fits : goal.combine_at-requires-clause-fits
combine_at-requires-clause-fits g c =
    let s = c.args.self.now in
    let entries = g.S.DocSet.entries in
    let leads = s.together.leads in
    let at = union-first entries g.met.S.DocSet.rising (uniting (is_some s.positions)) s.docsets.items in
    let here = c.requires in
    let unused = c.default.ensures.1 in
    let fits = summed-fits entries g.met.S.DocSet.rising (is_some s.positions) s.docsets.items s.doc s.together (omega (arith, leads, at, here)) in
    omega (arith, unused, fits)

pub returns-clause-value : goal.returns-clause-value
returns-clause-value g c =
    let s = c.args.self.now in
    let entries = g.S.DocSet.entries in
    let rising = g.met.S.DocSet.rising in
    let leads = s.together.leads in
    let at = union-first entries rising (uniting (is_some s.positions)) s.docsets.items in
    let here = c.requires in
    let on : s.doc < terminated = omega (arith, leads, at, here) in
    let ess = map entries s.docsets.items in
    let scores = scores_in (entries_at s.doc ess) in
    let n : ℕ = sum scores in
    let is : c.score.result ≡ pos n = c.score.ensures ∙ ap pos (c.combine_at.ensures.answer [] ∙ (c.default.ensures.0 (scores ++ []) ∙ ap sum (append-nil scores))) in
    let small : n ≤ max_score = summed-fits entries rising (is_some s.positions) s.docsets.items s.doc s.together on in
    let fits : SFits w64 (pos n) = omega (arith, ints, small) in
    ap (λ z. to_z w64 (of_z w64 z)) is ∙ (to_z-of_z w64 (pos n) fits ∙ ap pos (ap (λ d. sum (scores_in (entries_at d ess))) leads ∙ sym (summed-score entries rising (is_some s.positions) s.docsets.items (omega (arith, leads, on)))))
