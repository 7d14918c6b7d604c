use Rattle.std.proofs.Common.{IfOk, List, Some, ap, subst, ◌∙◌, ◌≡◌, ℕ}
use Rattle.std.proofs.lemmas.Str.{IsUtf8-string_bytes}
use Rattle.std.specs.String.{string_bytes}
use Rattle.definitions.proofs.FacetPaths.{facet_reads_back}
use Rattle.definitions.specs.Facets.{facet_of_path, path_of}
use Rattle.terms.proofs.FacetSteps.{is_facet}
use Rattle.terms.specs.Steps.{steps_of}
use Rattle.terms.proofs.facet.Facet.to_path_string.Goals as goal

pub returns-clause-value : goal.returns-clause-value
returns-clause-value c = subst (λ (steps : List (List ℕ)). IfOk c.path_text.result (λ path. string_bytes path ≡ path_of steps)) (ap steps_of c.as_str.ensures.value ∙ c.self.view_is) c.path_text.ensures

pub returns-clause-read_back : goal.returns-clause-read_back
returns-clause-read_back c = subst (λ (steps : List (List ℕ)). facet_of_path (path_of steps) ≡ Some steps) c.self.view_is (facet_reads_back _ (is_facet _ (IsUtf8-string_bytes c.self.inside.encoded)))
