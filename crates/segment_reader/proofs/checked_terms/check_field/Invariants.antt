use Rattle.std.proofs.Common.{drop, ◌+◌, ◌≡◌, ℕ}
use Rattle.codes.specs.UnpackedBlocks.{listed}
use Rattle.segment_reader.proofs.CheckedOnce.{Checking}
use Rattle.segment_reader.specs.CheckedTerms.{bytes_of}
use Rattle.segment_reader.specs.KeptTerms.{placed_terms}
use Rattle.segment_reader.proofs.checked_terms.check_field.Given as goal

abbrev pub invariant-loop : goal.invariant-loop
invariant-loop l = (total : ℕ) × (total + l.left ≡ l.fn.index.num_tokens) × (l.range.rest ≡ drop l.counter (placed_terms (bytes_of l.fn.sections).terms l.fn.index.shape)) × Checking (bytes_of l.fn.sections) l.fn.index.kind l.fn.num_docs (listed l.fn.fieldnorm_reader) (placed_terms (bytes_of l.fn.sections).terms l.fn.index.shape) l.counter total
