use Rattle.std.proofs.Common.{◌*◌, ◌+◌, ◌≡◌, ◌≤◌, List, map}
use Rattle.definitions.specs.JsonLeaves.{members_leaves, values_leaves}
use Rattle.definitions.specs.Values.{Members, Values, members_nesting, nesting, values_nesting}
use Rattle.document_values.specs.Shown.{value_of}
use Rattle.layouts.specs.DocumentReading.{to_members, to_values}
use Rattle.document_indexer.specs.Steps.{Step, leaves_steps}
use Rattle.document_indexer.proofs.Seen.{Seen}
use Rattle.document_indexer.proofs.index_json.+leaves.Given as goal

abbrev pub decreases-index_leaves : goal.decreases-index_leaves
decreases-index_leaves g l = 3 * nesting (value_of l.value)

abbrev pub decreases-index_values : goal.decreases-index_values
decreases-index_values g l = 3 * values_nesting (to_values l.values) + 2

abbrev pub decreases-index_members : goal.decreases-index_members
decreases-index_members g l = 3 * members_nesting (to_members l.members) + 2

abbrev pub decreases-index_member : goal.decreases-index_member
decreases-index_member g l = 3 * nesting (value_of l.value) + 1

-- the values so far were recorded, and those that are left follow
abbrev pub invariant-index_values-loop-value : goal.invariant-index_values-loop-value
invariant-index_values-loop-value g l =
    let keys = map (λ k. k.now) l.initial.keys.items in
    let steps : Values → List Step = λ vs. leaves_steps (g.A.Analyzer.analyze l.analyzer) l.json_field.field l.json_field.tokenizer.now (values_leaves l.json_field.expand_dots keys vs) in
    (goal.iterator-index_values-loop-value g).can_next l.value-iterator
    × (goal.iterator-index_values-loop-value g).is_finite l.value-iterator
    × (l.keys.items ≡ l.initial.keys.items)
    × Seen l.json_field.schema.now l.initial.indexer l.indexer (steps (to_values l.value-iterator)) (steps (to_values l.fn.values))
    × (values_nesting (to_values l.value-iterator) ≤ values_nesting (to_values l.fn.values))

-- likewise of members
abbrev pub invariant-index_members-loop-key : goal.invariant-index_members-loop-key
invariant-index_members-loop-key g l =
    let keys = map (λ k. k.now) l.initial.keys.items in
    let steps : Members → List Step = λ ms. leaves_steps (g.A.Analyzer.analyze l.analyzer) l.json_field.field l.json_field.tokenizer.now (members_leaves l.json_field.expand_dots keys ms) in
    (goal.iterator-index_members-loop-key g).can_next l.key-iterator
    × (goal.iterator-index_members-loop-key g).is_finite l.key-iterator
    × (l.keys.items ≡ l.initial.keys.items)
    × Seen l.json_field.schema.now l.initial.indexer l.indexer (steps (to_members l.key-iterator)) (steps (to_members l.fn.members))
    × (members_nesting (to_members l.key-iterator) ≤ members_nesting (to_members l.fn.members))
