use Rattle.std.proofs.lemmas.Grind.{merely}
use Rattle.segment_reader.proofs.ReadersMade.{empty_known}
use Rattle.segment_reader.proofs.inverted_index_reader.InvertedIndexReader.empty.Goals as goal

pub invariant_of-result : goal.invariant_of-result
invariant_of-result c = merely (empty_known c.from_static.result c.from_static-2.result c.from_static-3.result c.new.result.items c.from_static.ensures c.from_static-2.ensures c.from_static-3.ensures c.new.ensures.items)
