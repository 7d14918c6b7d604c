-- What follows the block doesn't change its fields; it is copied where too few bytes follow.
use Rattle.std.proofs.Common.{◌*◌, ◌≡◌, ◌∙◌, ap, arith, length, length-take, sym, take}
use Rattle.codes.proofs.BlockPackings.{field_taken}
use Rattle.codes.specs.BlockFields.{field}
use lib.Lanes.{number_l}
use Rattle.codes.proofs.bit_unpacker.unpack.Goals as goal

pub returns-then-bytes-len-clause-fields : goal.returns-then-bytes-len-clause-fields
returns-then-bytes-len-clause-fields c i within = c.unpack_wide.ensures i within ∙ sym (field_taken c.args.width c.args.bytes.now (λ k. omega (arith, c.type_inv.bytes k)) i within)

pub returns-else-bytes-len-clause-fields : goal.returns-else-bytes-len-clause-fields
returns-else-bytes-len-clause-fields c i within =
    let long : length (take (16 * c.args.width) c.args.bytes.now) ≡ 16 * c.args.width = omega (arith, length-take (16 * c.args.width) c.args.bytes.now) in
    let same : take (16 * c.args.width) c.padded-padded.result ≡ take (16 * c.args.width) c.args.bytes.now = ap (λ k. take k c.padded-padded.result) (sym long) ∙ c.padded-padded.ensures.begins in
    c.unpack_wide-else-bytes-len.ensures i within ∙ sym (field_taken c.args.width c.padded-padded.result c.padded-padded.ensures.bytes i within) ∙ ap (λ bytes. field c.args.width (number_l 256 bytes) i) same
