-- The parts of a reader of a segment are of one segment.
use Rattle.segment_reader.specs.SegmentReaders.{index_of, lengths_of, max_doc_of}
use Rattle.segment_reader.specs.Together.{AreTogether}
use Rattle.segment_reader.specs.declared.segment_reader.SegmentReader.{SegmentReader}

pub known_together : (r : SegmentReader) → ∥ AreTogether (max_doc_of r) (lengths_of r) (index_of r) ∥₁
known_together r = r.together
