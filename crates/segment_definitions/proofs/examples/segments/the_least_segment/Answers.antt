use Rattle.std.proofs.Common.{[], arith, ◌∷◌}
use Rattle.definitions.specs.Analyzers.{raw_and_default}
use Rattle.segment_definitions.specs.SegmentExamples.{bare_sections}
use Rattle.segment_definitions.specs.Segments.{segment_bytes}
use Rattle.segment_definitions.proofs.LeastSegment.{least_segment}
use Rattle.segment_definitions.proofs.SegmentParts.{one_u32}
use Rattle.segment_definitions.proofs.UnstoredSegment.{nothing_stored_of_two}
use Rattle.segment_definitions.proofs.SegmentDocs.{segment_alone}
use Rattle.segment_definitions.proofs.examples.segments.the_least_segment.Goals as goal

pub returns-clause-of_documents : goal.returns-clause-of_documents
returns-clause-of_documents c = least_segment

pub returns-clause-alone : goal.returns-clause-alone
returns-clause-alone c = segment_alone [] raw_and_default ([] ∷ []) (segment_bytes 1 bare_sections) least_segment

pub returns-clause-nothing_stored : goal.returns-clause-nothing_stored
returns-clause-nothing_stored c s = omega (arith, s.written.has_documents)

pub returns-clause-two_documents : goal.returns-clause-two_documents
returns-clause-two_documents c s = let is = (one_u32 1 2 _ _ (omega arith) (omega arith) s.written.bytes_are).0 in omega (arith, is)

pub returns-clause-nothing_stored_of_two : goal.returns-clause-nothing_stored_of_two
returns-clause-nothing_stored_of_two c = nothing_stored_of_two
