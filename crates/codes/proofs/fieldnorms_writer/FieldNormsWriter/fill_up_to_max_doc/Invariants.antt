use Rattle.std.proofs.Common.{map, ◌≡◌}
use Rattle.codes.proofs.RecordedLengths.{part_padded}
use Rattle.codes.proofs.fieldnorms_writer.FieldNormsWriter.fill_up_to_max_doc.Given as goal

-- the fields so far are padded
abbrev pub invariant-loop-ids : goal.invariant-loop-ids
invariant-loop-ids l = map (λ v. v.items) l.ids-items ≡ part_padded l.max_doc l.ids-index (map (λ v. v.items) l.initial.ids-items)
