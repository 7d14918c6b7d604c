-- What makes the scorers of a segment.
use Rattle.segment_reader.specs.declared.segment_reader.SegmentReader.{SegmentReader}
use Rattle.reader_scorers.specs.declared.reader_scorers.ReaderScorers.{ReaderScorers}

-- the segment
abbrev pub segment_scored : {W T P X : Type 0} → ReaderScorers W T P X → SegmentReader
segment_scored scorers = scorers.reader.now

-- what weighs terms in it
abbrev pub weights_of : {W T P X : Type 0} → ReaderScorers W T P X → W
weights_of scorers = scorers.weights.now
