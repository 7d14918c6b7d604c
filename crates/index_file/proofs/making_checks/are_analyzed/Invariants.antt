use Rattle.std.proofs.Common.{map, ◌≡◌}
use Rattle.std.specs.List.{list_all}
use Rattle.definitions.specs.Making.{is_analyzed}
use Rattle.index_file.proofs.making_checks.are_analyzed.Given as goal

-- the fields that are left decide
abbrev pub invariant-loop-field : goal.invariant-loop-field
invariant-loop-field g l =
    let left = map (λ p. p.1) l._field-iterator in
    let knows = g.A.Analyzer.knows_name l.analyzer in
    (goal.iterator-loop-field g).can_next l._field-iterator ×
    (goal.iterator-loop-field g).is_finite l._field-iterator ×
    (list_all (is_analyzed knows) left ≡ list_all (is_analyzed knows) l.schema)
