-- What the weights of borrowed queries may ask.
use Rattle.std.proofs.Common.{List, ap, nat_abs, of_z, pos, subst, sym, to_z, ◌∙◌, ◌≡◌, ◌≤ℤ◌, ℕ, ℤ}
use Rattle.std.proofs.Math.Logic.{∥∥₁_elim}
use Rattle.std.proofs.Props.{props}
use Rattle.std.proofs.lemmas.Int.{to_z-of_z}
use Rattle.definitions.proofs.Bounds.{not_negative as absolute}
use mir.Syntax.{w64}
use mir.Val.{SFits}
use Rattle.definitions.specs.Query.{Query}
use Rattle.definitions.specs.Scoring.{Similarity, natural}
use Rattle.docsets.specs.Entries.{Entry}
use Rattle.query_scorers.specs.Scores.{Scores}
use Rattle.segment_reader.specs.declared.segment_reader.SegmentReader.{SegmentReader}
use Rattle.query_scorers.specs.Accepted.{IsAccepted}
use Rattle.weights.specs.AnyForms.{any_query}
use Rattle.weights.specs.Weighing.{IsWeighed}
use Rattle.weights.specs.declared.any_weight.AnyWeight.{AnyWeight}

-- a boost that is passed on as a factor
pub factor_is : (z : ℤ) → SFits w64 z → pos 0 ≤ℤ z → nat_abs (to_z w64 (of_z w64 z)) ≡ natural z
factor_is z fits positive = ap nat_abs (to_z-of_z w64 z fits) ∙ absolute z positive

-- by the one similarity of a weight, its query isn't refused by weights that are the same
pub weighed_accepted : (sim made : Similarity) (b n : ℕ) (q p : Query) → made ≡ sim → n ≡ b → p ≡ q → IsWeighed (λ s. s ≡ sim) b q → IsAccepted made.weight n p
weighed_accepted sim made b n q p is same tree weighed = ∥∥₁_elim weighed (hlevel props) (λ a. subst (λ t. IsAccepted made.weight n t) (sym tree) (subst (λ m. IsAccepted made.weight m q) (sym same) (subst (λ s. IsAccepted s.weight b q) (a.1 ∙ sym is) a.2)))

-- ---- weights of any form

-- the same weight scores the same query
pub by_form : {W : Type 0} (w v : AnyWeight W) (sim : Similarity) (b : ℕ) (r : SegmentReader) (es : List Entry) → w ≡ v → Scores sim b (any_query v) r es → Scores sim b (any_query w) r es
by_form w v sim b r es is scores = subst (λ x. Scores sim b (any_query x) r es) (sym is) scores
