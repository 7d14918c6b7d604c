use Rattle.std.proofs.Common.{IsUtf8, subst, sym}
use Rattle.terms.proofs.FacetPathTexts.{path_utf8}
use Rattle.terms.proofs.facet.path_text.Goals as goal

pub unwrap-requires : goal.unwrap-requires
unwrap-requires c = c.from_utf8.ensures.succeeds (subst IsUtf8 (sym c.in_ok-bytes.ensures) (path_utf8 c.args.text.now c.utf8.text))
