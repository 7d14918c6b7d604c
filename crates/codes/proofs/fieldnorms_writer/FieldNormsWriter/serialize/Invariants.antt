use Rattle.std.proofs.Common.{map, take, zip, ◌++◌, ◌≡◌}
use Rattle.layouts.specs.FieldNorms.{norms_bytes}
use Rattle.codes.proofs.fieldnorms_writer.FieldNormsWriter.serialize.Given as goal

-- the fields so far are put
abbrev pub invariant-loop-index : goal.invariant-loop-index
invariant-loop-index l = l.serializer ≡ l.fn.serializer ++ norms_bytes (take l.index (zip l.self-inside.fields.items (map (λ v. v.items) l.self-inside.ids.items)))
