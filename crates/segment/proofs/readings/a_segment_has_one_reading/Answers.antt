use Rattle.segment.proofs.SegmentReadings.{one_reading}
use Rattle.segment.proofs.readings.a_segment_has_one_reading.Goals as goal

-- src/readings.rt:16:1
pub returns : goal.returns
returns c = λ schema analyze other docs others bytes are short few a b. one_reading schema analyze other docs others bytes are short few a b
