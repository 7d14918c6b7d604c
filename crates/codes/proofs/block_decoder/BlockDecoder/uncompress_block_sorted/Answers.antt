-- The sums of the deltas are the documents.
use Rattle.std.proofs.Common.{◌∙◌, ap, arith, length, take_all}
use Rattle.codes.proofs.StrictDeltaSums.{documents_read}
use Rattle.codes.proofs.block_decoder.BlockDecoder.uncompress_block_sorted.Goals as goal

pub returns-clause-documents : goal.returns-clause-documents
returns-clause-documents c docs ascending small packed = documents_read c.args.offset c.wrapped_after.result c.args.num_bits docs c.args.bytes.now c.documents.new.out (λ i. omega (arith, c.type_inv.bytes i)) ascending small packed c.wrapped_after.ensures c.documents.ensures.count c.documents.ensures.documents

pub returns-clause-length : goal.returns-clause-length
returns-clause-length c = ap (λ xs. length xs) (take_all 128 c.documents.new.out (omega (arith, c.documents.ensures.count))) ∙ c.documents.ensures.count
