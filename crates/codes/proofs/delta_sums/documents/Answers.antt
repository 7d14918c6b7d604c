-- What follows the block doesn't change its fields; it is copied where too few bytes follow.
use Rattle.std.proofs.Common.{◌*◌, ◌≡◌, ◌∙◌, ap, arith, length, length-take, sym, take}
use Rattle.codes.proofs.StrictDeltaSums.{document_taken}
use Rattle.codes.specs.BlockFields.{document, field}
use lib.Lanes.{number_l}
use Rattle.codes.proofs.delta_sums.documents.Goals as goal

pub returns-then-bytes-len-clause-documents : goal.returns-then-bytes-len-clause-documents
returns-then-bytes-len-clause-documents c i within = c.documents_wide.ensures i within ∙ sym (document_taken c.args.next c.args.width c.args.bytes.now (λ k. omega (arith, c.type_inv.bytes k)) i within)

pub returns-else-bytes-len-clause-documents : goal.returns-else-bytes-len-clause-documents
returns-else-bytes-len-clause-documents c i within =
    let long : length (take (16 * c.args.width) c.args.bytes.now) ≡ 16 * c.args.width = omega (arith, length-take (16 * c.args.width) c.args.bytes.now) in
    let same : take (16 * c.args.width) c.padded-padded.result ≡ take (16 * c.args.width) c.args.bytes.now = ap (λ k. take k c.padded-padded.result) (sym long) ∙ c.padded-padded.ensures.begins in
    c.documents_wide-else-bytes-len.ensures i within ∙ sym (document_taken c.args.next c.args.width c.padded-padded.result c.padded-padded.ensures.bytes i within) ∙ ap (λ bytes. document c.args.next (field c.args.width (number_l 256 bytes)) i) same
