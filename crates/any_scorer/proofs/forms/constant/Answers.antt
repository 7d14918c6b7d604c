use Rattle.std.proofs.Common.{ap, arith, to_z, ◌∙◌, ◌≡◌}
use Rattle.std.proofs.lemmas.Int.{to_z_pos}
use mir.Syntax.{w64}
use Rattle.definitions.specs.Scoring.{natural}
use Rattle.docsets.specs.ScoredEntries.{rescored_by}
use Rattle.any_scorer.proofs.forms.constant.Goals as goal

pub returns : goal.returns
returns g c =
    let small = c.requires in
    let score : natural (to_z w64 c.args.score) ≡ c.args.score = ap natural (to_z_pos w64 c.args.score (omega (arith, small))) in
    c.new.ensures ∙ ap (λ n. rescored_by (λ e. n) (g.S.DocSet.entries c.args.scorer)) score
