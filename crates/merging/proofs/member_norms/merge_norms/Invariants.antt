use Rattle.std.proofs.Common.{take, ◌≡◌}
use Rattle.layouts.specs.FieldNorms.{norms_bytes}
use Rattle.merging.specs.MergedNorms.{merged_norms}
use Rattle.merging.proofs.member_norms.merge_norms.Given as goal

-- the fields so far
abbrev pub invariant-loop-field : goal.invariant-loop-field
invariant-loop-field l = l.serializer ≡ norms_bytes (merged_norms (take l.field-index l.fields) l.members)
