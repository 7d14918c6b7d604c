-- What follows of a scorer of a query that a weight can score.
use Rattle.std.proofs.Common.{[], List, ap, arith, length, subst, sym, ◌*◌, ◌≡◌, ◌≤ℤ◌, ◌≤◌, pos, ℕ, ℤ}
use Rattle.std.proofs.Math.Logic.{∥∥₁_elim, ∥∥₁_map}
use Rattle.std.proofs.Props.{props}
use Rattle.definitions.specs.Query.{Query, boost, const_score}
use Rattle.definitions.specs.Scoring.{Similarity, max_score, natural}
use Rattle.docsets.proofs.EntryLaws.{none_in as none_left}
use Rattle.docsets.specs.Entries.{Entry, from}
use Rattle.query_scorers.specs.Scores.{Scores}
use Rattle.segment_reader.specs.SegmentReaders.{max_doc_of}
use Rattle.segment_reader.specs.declared.segment_reader.SegmentReader.{SegmentReader}
use Rattle.query_scorers.proofs.AcceptedParts.{boost_accepted, boost_positive, boost_within, constant_positive, constant_query_accepted, constant_within}
use Rattle.weights.specs.Weighing.{IsWeighed}

module _ (by : Similarity → Type 0) where
  module _ (b : ℕ) (q : Query) where
    -- no document is past the last of the segment
    pub weighed_within : (r : SegmentReader) (es : List Entry) (n : ℕ) → n ≡ max_doc_of r → IsWeighed by b q → ((sim : Similarity) → by sim → Scores sim b q r es) → from n es ≡ []
    weighed_within r es n same weighed scores = subst (λ m. from m es ≡ []) (sym same) (none_left (from (max_doc_of r) es) (∥∥₁_elim weighed (hlevel props) (λ a. let none : length (from (max_doc_of r) es) ≡ 0 = ap length (scores a.0 a.1).within in omega (arith, none))))

  -- ---- boosts and constants

  module _ (b : ℕ) (z : ℤ) (q : Query) where
    pub weighed_boost_positive : IsWeighed by b (boost z q) → pos 0 ≤ℤ z
    weighed_boost_positive weighed = ∥∥₁_elim weighed (hlevel props) (λ a. boost_positive a.0.weight b z q a.2)

    pub weighed_boost_within : IsWeighed by b (boost z q) → b * natural z ≤ max_score
    weighed_boost_within weighed = ∥∥₁_elim weighed (hlevel props) (λ a. boost_within a.0.weight b z q a.2)

    pub weighed_boost : (n : ℕ) → b * natural z ≡ n → IsWeighed by b (boost z q) → IsWeighed by n q
    weighed_boost n same weighed = subst (λ m. IsWeighed by m q) same (∥∥₁_map weighed (λ a. (a.0, a.1, boost_accepted a.0.weight b z q a.2)))

    pub weighed_constant_positive : IsWeighed by b (const_score z q) → pos 0 ≤ℤ z
    weighed_constant_positive weighed = ∥∥₁_elim weighed (hlevel props) (λ a. constant_positive a.0.weight b z q a.2)

    pub weighed_constant_within : IsWeighed by b (const_score z q) → b * natural z ≤ max_score
    weighed_constant_within weighed = ∥∥₁_elim weighed (hlevel props) (λ a. constant_within a.0.weight b z q a.2)

    pub weighed_constant : (n : ℕ) → b ≡ n → IsWeighed by b (const_score z q) → IsWeighed by n q
    weighed_constant n same weighed = subst (λ m. IsWeighed by m q) same (∥∥₁_map weighed (λ a. (a.0, a.1, constant_query_accepted a.0.weight b z q a.2)))
