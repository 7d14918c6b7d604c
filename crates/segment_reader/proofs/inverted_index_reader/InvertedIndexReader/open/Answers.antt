use Rattle.segment_reader.proofs.ReadersMade.{read_lent}
use Rattle.segment_reader.proofs.inverted_index_reader.InvertedIndexReader.open.Goals as goal

pub returns-clause-ok : goal.returns-clause-ok
returns-clause-ok c = read_lent c.args.schema.now c.args.num_docs c.args.fieldnorm_readers.now c.in_ok-indexes.indexes.items c.args.terms c.args.postings c.args.positions c.as_slice.result.now c.as_slice-2.result.now c.as_slice-3.result.now c.as_slice.ensures c.as_slice-2.ensures c.as_slice-3.ensures c.in_ok-indexes.ensures.ok
