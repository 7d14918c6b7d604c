use Rattle.segment_reader.proofs.CheckedLists.{Before}
use Rattle.segment_reader.specs.CheckedTerms.{bytes_of}
use Rattle.segment_reader.proofs.checked_terms.check_fields.Given as goal

abbrev pub invariant-loop-index : goal.invariant-loop-index
invariant-loop-index l = Before (bytes_of l.sections) l.num_docs l.fieldnorm_readers l.indexes l.index-index
