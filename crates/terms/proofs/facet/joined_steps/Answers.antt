use Rattle.std.proofs.Common.{Bor, IfOk, List, subst, ◌≡◌, ℕ}
use Rattle.std.specs.String.{string_bytes}
use Rattle.terms.proofs.FacetLists.{joined}
use Rattle.terms.proofs.facet.joined_steps.Goals as goal

abbrev text_of : Bor (List ℕ) → List ℕ
text_of step = step.now

pub returns : goal.returns
returns c = subst (λ (bytes : List ℕ). IfOk c.join.result (λ text. string_bytes text ≡ bytes)) (joined text_of c.args.path.now) c.join.ensures.ok
