use Rattle.segment_definitions.proofs.SegmentParts.{parts_told}
use Rattle.segment_definitions.proofs.segment_laws.a_body_tells_its_parts.Goals as goal

pub returns : goal.returns
returns c = parts_told
