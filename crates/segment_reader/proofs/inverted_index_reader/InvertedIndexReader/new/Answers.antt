use Rattle.std.proofs.Math.Logic.{∥∥₁_map}
use Rattle.segment_reader.proofs.ReadersMade.{known_lent}
use Rattle.segment_reader.proofs.inverted_index_reader.InvertedIndexReader.new.Goals as goal

pub invariant_of-result : goal.invariant_of-result
invariant_of-result c = ∥∥₁_map c.requires (λ known. record { schema = c.args.schema.now; num_docs = known.num_docs; norms = known.norms; fields = known.fields; is_reader = known_lent c.args.schema.now c.in_ok-indexes.indexes.items c.args.terms c.args.postings c.args.positions c.as_slice.result.now c.as_slice-2.result.now c.as_slice-3.result.now c.as_slice.ensures c.as_slice-2.ensures c.as_slice-3.ensures c.in_ok-indexes.ensures known.num_docs known.norms known.fields known.docs_few known.sections_are })

pub returns-clause-ok : goal.returns-clause-ok
returns-clause-ok c = known_lent c.args.schema.now c.in_ok-indexes.indexes.items c.args.terms c.args.postings c.args.positions c.as_slice.result.now c.as_slice-2.result.now c.as_slice-3.result.now c.as_slice.ensures c.as_slice-2.ensures c.as_slice-3.ensures c.in_ok-indexes.ensures
