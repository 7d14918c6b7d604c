use Rattle.std.proofs.Common.{length, ◌≡◌}
use Rattle.definitions.specs.Values.{values_of}
use Rattle.document_values.proofs.iterators.ValuesOfFieldIterator.next.Given as goal

-- the pairs that were passed over are of other fields
abbrev pub invariant-loop-field : goal.invariant-loop-field
invariant-loop-field l =
    (l.self-inside.field ≡ l.initial.self-inside.field)
    × (values_of l.self-inside.field l.self-inside.pairs ≡ values_of l.initial.self-inside.field l.initial.self-inside.pairs)

abbrev pub decreases-loop-field : goal.decreases-loop-field
decreases-loop-field l = length l.self-inside.pairs
