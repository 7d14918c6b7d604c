use Rattle.std.proofs.Common.{List, Some, slice_get, ◌≡◌, ℕ}
use Rattle.std.specs.List.{AllByRecursion, enumerate_from}
use Rattle.definitions.specs.Schema.{Entry}
use Rattle.layouts.specs.InvertedIndexes.{IndexedField}
use Rattle.merging.proofs.AllMerged.{AreSome}
use Rattle.merging.specs.Members.{AreMembers}
use Rattle.merging.proofs.merged_index.merge_fields.Given as goal

-- the fields so far were written, and each that is left stands at its number
abbrev pub invariant-loop-field : goal.invariant-loop-field
invariant-loop-field l = record {
  written : (num_docs : ℕ) (all : List (List IndexedField)) → AreMembers l.schema 0 num_docs l.members all → AreSome l.schema l.fieldnorm_readers l.members all l.fn.serializer l.serializer (enumerate_from 0 l.schema) l.field-iterator;
  left : AllByRecursion (λ (p : ℕ × Entry). slice_get l.schema p.0 ≡ Some p.1) l.field-iterator;
}
