use Rattle.std.proofs.Common.{Bor, List, Some, ap, map, refl, sym, ◌==◌, ◌∙◌, ℕ}
use Rattle.std.specs.List.{list_any}
use Rattle.terms.proofs.FacetLists.{any_text, facet_made, facet_refused}
use Rattle.terms.specs.Steps.{steps_of}
use Rattle.terms.proofs.facet.Facet.from_path.Goals as goal

abbrev text_of : Bor (List ℕ) → List ℕ
text_of step = step.now

pub returns-then-any_has_separator : goal.returns-then-any_has_separator
returns-then-any_has_separator c = record {
  ok = tt;
  err = λ _. (refl, facet_refused (map text_of c.args.path.now) (any_text (list_any (◌==◌ 0)) text_of c.args.path.now ∙ sym c.if-any_has_separator.ensures));
}

pub returns : goal.returns
returns c = record {
  ok = facet_made (map text_of c.args.path.now) (any_text (list_any (◌==◌ 0)) text_of c.args.path.now ∙ sym c.if-any_has_separator.ensures) ∙ ap (λ bytes. Some (steps_of bytes)) (sym c.in_ok-encoded.ensures);
  err = tt;
}
