-- Eight bytes are a window of the number.
use Rattle.std.proofs.Common.{◌∙◌, arith}
use Rattle.codes.proofs.BitWindows.{window_eight}
use Rattle.codes.proofs.bit_unpacker.word_at.Goals as goal

pub returns : goal.returns
returns c = c.from_le_bytes.ensures ∙ window_eight c.args.at c.args.bytes.now (λ i. omega (arith, c.type_inv.bytes i)) c.requires
