use Rattle.segment_definitions.proofs.SegmentDocs.{segment_alone}
use Rattle.segment_definitions.proofs.segment_laws.a_segment_of_documents_is_a_segment.Goals as goal

pub returns : goal.returns
returns c = segment_alone
