-- The value that stands beside no other key gives the term.
use Rattle.std.proofs.Common.{IfOk, List, Option, subst, ◌≡◌, ℕ}
use Rattle.terms.specs.Kinds.{kind_of}
use Rattle.serde_json.specs.View.{view}
use Rattle.settings.specs.Terms.{value_term}
use Rattle.settings.proofs.ValueTerms.{found_then}
use Rattle.settings.proofs.json_terms.plain_term.Goals as goal

pub returns-in-Some : goal.returns-in-Some
returns-in-Some c = subst (λ (o : Option (List ℕ)). IfOk c.value_term.result (λ found. found ≡ o)) (found_then _ _ (view c.in-Some.value.now) (value_term c.args.field (kind_of c.args.kind)) c.in-Some.ensures) c.value_term.ensures
