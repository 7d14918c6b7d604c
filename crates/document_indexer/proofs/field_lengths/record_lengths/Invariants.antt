use Rattle.std.proofs.Common.{map, ◌≡◌}
use Rattle.document_indexer.proofs.KeptLengths.{part}
use Rattle.document_indexer.proofs.field_lengths.record_lengths.Given as goal

-- the fields so far have the document's ids
abbrev pub invariant-loop-field : goal.invariant-loop-field
invariant-loop-field l = l.norms ≡ map (part l.lengths l.field) l.fn.norms
