use Rattle.std.proofs.Common.{ap, map, ◌∙◌}
use Rattle.std.specs.List.{list_all}
use Rattle.definitions.specs.Making.{is_analyzed}
use Rattle.index_file.proofs.FieldLists.{numbered}
use Rattle.index_file.proofs.making_checks.are_analyzed.Goals as goal

pub loop-field-init : goal.loop-field-init
loop-field-init g c =
    let same = ap (map (λ p. p.1)) (c.into_iter-field-iterator.ensures.into_iter_gives ∙ c.fields-field-items.ensures) ∙ numbered 0 c.args.schema.now in
    (tt, tt, ap (list_all (is_analyzed (g.A.Analyzer.knows_name c.args.analyzer.now))) same)
