-- What was found goes on with the fields that are left.
use Rattle.std.proofs.Common.{◌≡◌}
use Rattle.std.specs.List.{enumerate_from}
use Rattle.query_text.specs.Answers.{found_in, nothing_found}
use Rattle.query_text.specs.Clauses.{phrase_of}
use Rattle.query_text.specs.Findings.{found_of}
use Rattle.query_text.specs.declared.refusal.Reason.TheVariants as reasons
use Rattle.query_text.proofs.vocabulary.any_query.Given as goal

abbrev pub invariant-loop-field : goal.invariant-loop-field
invariant-loop-field g l =
    let analyze = g.A.Analyzer.analyze l.analyzer in
    (goal.iterator-loop-field g).can_next l.field-iterator ×
    (goal.iterator-loop-field g).is_finite l.field-iterator ×
    (found_in analyze (phrase_of l.phrase) (found_of l.found) l.field-iterator ≡ found_in analyze (phrase_of l.phrase) (nothing_found reasons.NoTextField) (enumerate_from 0 l.schema))
