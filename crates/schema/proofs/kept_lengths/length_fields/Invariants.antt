use Rattle.std.proofs.Common.{◌++◌, ◌≡◌}
use Rattle.definitions.specs.KeptLengths.{length_fields}
use Rattle.schema.proofs.LengthFields.{numbers}
use Rattle.schema.proofs.kept_lengths.length_fields.Given as goal

-- with the numbers among the fields that are left they are all
abbrev pub invariant-loop-field : goal.invariant-loop-field
invariant-loop-field l = l.fields.items ++ numbers l.field-iterator ≡ length_fields l.schema
