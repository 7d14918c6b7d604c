use Rattle.std.proofs.Common.{ap, subst, sym, ◌∙◌}
use Rattle.definitions.specs.Facets.{encoded}
use Rattle.definitions.specs.Values.{IsFacet}
use Rattle.std.proofs.lemmas.Str.{IsUtf8-string_bytes}
use Rattle.terms.proofs.FacetSteps.{encoded-steps_of, is_facet}
use Rattle.terms.proofs.facet.Facet.encoded_str.Goals as goal

pub returns : goal.returns
returns c = record {
  value = c.as_str.ensures.value ∙ sym (ap encoded (sym c.self.view_is) ∙ encoded-steps_of _);
  facet = subst IsFacet c.self.view_is (is_facet _ (IsUtf8-string_bytes c.self.inside.encoded));
}
