use Rattle.std.proofs.Common.{sym}
use Rattle.std.specs.String.{string_bytes}
use Rattle.terms.proofs.FacetTexts.{facet_read}
use Rattle.terms.proofs.facet.Facet.from_text.Goals as goal

pub returns-clause-ok : goal.returns-clause-ok
returns-clause-ok c = facet_read c.args.path.now c.in-Some.steps.now (string_bytes c.in_ok-encoded.encoded) c.in-Some.ensures (sym c.if-has_zero.ensures) c.in_ok-encoded.ensures.ok
