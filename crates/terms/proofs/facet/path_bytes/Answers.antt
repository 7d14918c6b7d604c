use Rattle.std.proofs.Common.{ap, flat_map, sym, take_all, ◌∙◌, ◌∷◌}
use Rattle.terms.specs.Steps.{in_path}
use Rattle.terms.proofs.FacetPathTexts.{path-bytes}
use Rattle.terms.proofs.facet.path_bytes.Goals as goal

pub returns : goal.returns
returns c = c.loop-byte.invariant ∙ ap (λ bytes. 47 ∷ flat_map in_path bytes) (take_all _ _ c.loop-byte-test.false ∙ c.as_bytes-byte-items.ensures.value) ∙ sym (path-bytes c.args.text.now)
