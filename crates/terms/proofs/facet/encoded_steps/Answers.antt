use Rattle.terms.proofs.FacetTexts.{text_utf8}
use Rattle.terms.proofs.facet.encoded_steps.Goals as goal

pub unwrap-requires : goal.unwrap-requires
unwrap-requires c = c.from_utf8.ensures.succeeds (text_utf8 c.args.path.now c.in_ok-bytes.bytes.items c.utf8.path c.in_ok-bytes.ensures.ok)
