use Rattle.std.proofs.Common.{map, take, ◌≡◌}
use Rattle.segment_reader.proofs.FieldsLoop.{Reading}
use Rattle.segment_reader.specs.declared.field_index.FieldIndex.{FieldIndex}
use Rattle.segment_reader.specs.declared.field_kind.FieldKind.{FieldKind}
use Rattle.segment_reader.proofs.section_read.take_fields.Given as goal

abbrev pub invariant-loop-kind : goal.invariant-loop-kind
invariant-loop-kind l = Reading l.front_coded l.section l.lengths.postings l.lengths.positions (map (λ (k : FieldKind). k.field) l.kinds) l.kind-index l.told.items l.start × (map (λ (i : FieldIndex). i.kind) l.told.items ≡ take l.kind-index l.kinds)
