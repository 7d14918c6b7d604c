use Rattle.segment_definitions.proofs.NewSegments.{not_a_segment}
use Rattle.segment_definitions.proofs.examples.index_files.new_segments_are_in_their_layout.Goals as goal

pub returns : goal.returns
returns c = not_a_segment
