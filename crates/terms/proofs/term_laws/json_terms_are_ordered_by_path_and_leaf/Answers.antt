use Rattle.std.proofs.Common.{append_assoc, ◌++◌, ◌∙◌, ◌∷◌}
use Rattle.definitions.specs.Schema.{json_kind}
use Rattle.terms.proofs.TermOrder.{paths_order, same_kind}
use Rattle.terms.proofs.term_laws.json_terms_are_ordered_by_path_and_leaf.Goals as goal

pub returns : goal.returns
returns c = record {
  order = λ f p q x y first second. same_kind f json_kind (p ++ (0 ∷ x)) (q ++ (0 ∷ y)) ∙ paths_order p q x y first second;
  appended = λ f path leaf. simp append_assoc;
}
