use Rattle.std.proofs.Common.{Some, ap, option_map, pos, rules, sym, ◌∙◌}
use Rattle.std.proofs.lemmas.Int.{to_z-of_z}
use mir.Syntax.{w64}
use mir.Val.{SFits}
use Rattle.scorer_answers.proofs.Signs.{whatever_fault}
use Rattle.scorer_answers.proofs.explanations.explain.Goals as goal

-- src/explanations.rt:72:5
pub returns-in_err-seek_match-clause-err : goal.returns-in_err-seek_match-clause-err
returns-in_err-seek_match-clause-err g c schema analyze sim b q docs r stands passes scores =
    whatever_fault _ c.from_residual.result (c.in_err-seek_match.ensures.err schema analyze sim b q docs r stands passes scores)

-- src/explanations.rt:51:1
pub returns-clause-ok : goal.returns-clause-ok
returns-clause-ok g c schema analyze sim b q docs r stands passes scores =
    let said = c.in_ok-new.ensures in
    let value = c.score.ensures.value in
    let narrow : SFits w64 c.score.result = search rules in
    ap (option_map pos) (c.in_ok-seek_match.ensures.ok schema analyze sim b q docs r stands passes scores)
    ∙ ap Some (sym (said ∙ (to_z-of_z w64 c.score.result narrow ∙ value)))
