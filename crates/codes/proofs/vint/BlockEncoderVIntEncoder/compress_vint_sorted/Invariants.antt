use Rattle.std.proofs.Common.{drop, ◌++◌, ◌≡◌}
use Rattle.layouts.specs.Deltas.{IsAscendingFrom, deltas}
use Rattle.layouts.specs.VintBlocks.{documents_bytes, numbers_bytes}
use Rattle.codes.proofs.vint.BlockEncoderVIntEncoder.compress_vint_sorted.Given as goal

-- the documents that are left complete the bytes
abbrev pub invariant-loop-document : goal.invariant-loop-document
invariant-loop-document l = (l.out.items ++ numbers_bytes (deltas l.next (drop l.document-index l.input)) ≡ l.fn.out.items ++ documents_bytes l.offset l.input) × IsAscendingFrom l.next (drop l.document-index l.input)
