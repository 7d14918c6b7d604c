-- A weight is noted at the bytes of its term.
use Rattle.std.proofs.Common.{◌∙◌, ◌≡◌, None, Some, ap, bytes_eq, rules, subst, sym}
use Rattle.std.specs.Map.{update}
use Rattle.settings.specs.Weights.{get_by_bytes}
use Rattle.settings.proofs.WeightsByTerms.{none_of_not_some, updates_bytes}
use Rattle.settings.proofs.settings.note_weight.Goals as goal

pub returns-clause-first : goal.returns-clause-first
returns-clause-first c =
    let bytes : c.in_ok-bytes.bytes.items ≡ c.args.term.now = search rules in
    subst (λ bs. get_by_bytes c.args.weight_by_term.now bs ≡ None) bytes (sym c.in_ok-insert.ensures.old ∙ none_of_not_some c.in_ok-insert.field-0 (sym c.is_some.ensures ∙ c.if-is_some.false))

pub returns-clause-noted : goal.returns-clause-noted
returns-clause-noted c =
    let bytes : c.in_ok-bytes.bytes.items ≡ c.args.term.now = search rules in
    let updated = updates_bytes c.in_ok-bytes.bytes c.args.weight_by_term.now c.insert.new.self (Some c.args.weight) c.in_ok-insert.ensures.updates in
    λ t. updated t ∙ ap (λ bs. update bytes_eq (get_by_bytes c.args.weight_by_term.now) bs (Some c.args.weight) t) bytes
