use Rattle.std.proofs.Common.{ap, length, sym, ◌==◌, ◌∙◌}
use Rattle.std.specs.String.{string_bytes}
use Rattle.definitions.specs.Facets.{is_root}
use Rattle.terms.proofs.FacetBelow.{is_root-steps_of}
use Rattle.terms.proofs.facet.Facet.is_root.Goals as goal

pub returns : goal.returns
returns c = c.is_empty.ensures ∙ ap (λ text. length text == 0) c.as_str-encoded.ensures.value ∙ sym (is_root-steps_of (string_bytes c.self.inside.encoded)) ∙ ap is_root c.self.view_is
