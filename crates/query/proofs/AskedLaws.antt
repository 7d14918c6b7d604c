-- Queries whose weights are asked.
use Rattle.std.proofs.Common.{List, None, ap, subst, sym, ◌∙◌, ◌≡◌, ℕ}
use Rattle.std.proofs.Math.Logic.{∥∥₁_elim}
use Rattle.std.proofs.Props.{props}
use Rattle.definitions.specs.Analyzers.{Analyzer}
use Rattle.definitions.specs.Query.{Query}
use Rattle.definitions.specs.Refusing.{tree_fault}
use Rattle.definitions.specs.Schema.{Schema}
use Rattle.definitions.specs.Scoring.{Similarity}
use Rattle.definitions.specs.Values.{Document}
use Rattle.scorer_answers.specs.Earned.{score_at}
use Rattle.query_scorers.specs.Accepted.{IsAccepted}
use Rattle.weights.proofs.UnscoredLaws.{unscored_accepted, unscored_passes}
use Rattle.weights.specs.Unscored.{no_scores}
use Rattle.weights.specs.Weighing.{IsWeighed}

-- a query that isn't refused can be scored by its weight
pub weighed_tree : (by : Similarity → Type 0) (sim : Similarity) (q p : Query) → by sim → p ≡ q → IsAccepted sim.weight 1 q → IsWeighed by 1 p
weighed_tree by sim q p scores is accepted = ∣ (sim, scores, subst (λ t. IsAccepted sim.weight 1 t) (sym is) accepted) ∣₁

-- also where no scores are asked for
pub weighed_unscored : (by : Similarity → Type 0) (q p : Query) → by no_scores → p ≡ q → ∥ ((weight : List ℕ → ℕ) × IsAccepted weight 1 q) ∥₁ → IsWeighed by 1 p
weighed_unscored by q p scores is accepted = weighed_tree by no_scores q p scores is (∥∥₁_elim accepted (hlevel props) (λ a. unscored_accepted a.0 1 q a.1))

-- the same query passes
pub same_passes : (schema : Schema) (weight : List ℕ → ℕ) (q p : Query) → p ≡ q → tree_fault schema weight 1 q ≡ None → tree_fault schema weight 1 p ≡ None
same_passes schema weight q p is passes = ap (tree_fault schema weight 1) is ∙ passes

-- and where no scores are asked for
pub unscored_same : (schema : Schema) (weight : List ℕ → ℕ) (q p : Query) → p ≡ q → tree_fault schema weight 1 q ≡ None → tree_fault schema no_scores.weight 1 p ≡ None
unscored_same schema weight q p is passes = ap (tree_fault schema no_scores.weight 1) is ∙ unscored_passes schema weight 1 q passes

-- the score of the same query
pub score_same : (schema : Schema) (analyze : Analyzer) (sim : Similarity) (q p : Query) (docs : List Document) (doc : ℕ) → p ≡ q → score_at schema analyze sim 1 p docs doc ≡ score_at schema analyze sim 1 q docs doc
score_same schema analyze sim q p docs doc is = ap (λ t. score_at schema analyze sim 1 t docs doc) is
