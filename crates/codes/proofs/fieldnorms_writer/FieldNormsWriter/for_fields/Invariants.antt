use Rattle.std.proofs.Common.{map, replicate, ◌≡◌}
use Rattle.codes.proofs.RecordedLengths.{no_ids}
use Rattle.codes.proofs.fieldnorms_writer.FieldNormsWriter.for_fields.Given as goal

-- each field so far has no ids
abbrev pub invariant-loop : goal.invariant-loop
invariant-loop l = map (λ v. v.items) l.ids.items ≡ replicate l.index no_ids
