use Rattle.definitions.specs.Values as values
use Rattle.document.proofs.LeafPairs.{address_pair}
use Rattle.document.proofs.compact_doc.CompactDoc.add_ip_addr.Goals as goal

pub add-requires : goal.add-requires
add-requires c = (
  (c.args.field, values.ip_addr c.args.address),
  address_pair c.args.field c.args.address c.in_ok-pair.ensures.field c.ranges.address.fits,
  c.in_ok-pair.ensures.pair,
)
