-- The parts of queries that aren't refused.
use Rattle.std.proofs.Common.{[], List, None, ap, arith, get_or, length, pos, rules, subst, suc, sym, zero, ◌*◌, ◌+◌, ◌≤ℤ◌, ◌<◌, ◌∙◌, ◌∷◌, ◌≡◌, ◌≤◌, ℕ, ℤ}
use Rattle.std.proofs.Math.Logic.{∥∥₁_elim, ∥∥₁_map}
use Rattle.std.proofs.Props.{props}
use Rattle.definitions.proofs.Bounds.{accepted_boost, accepted_clauses, accepted_const, accepted_constant, accepted_factor, accepted_first_clause, accepted_first_query, accepted_fits, accepted_more_clauses, accepted_more_queries, accepted_product, accepted_queries, accepted_tie}
use Rattle.docsets.specs.Entries.{Entry}
use Rattle.definitions.specs.Query.{Clauses, Queries, Query, boolean, boost, const_score, disjunction_max, must, should}
use Rattle.definitions.specs.Refusing.{bound, clauses_fault, queries_fault, tree_fault}
use Rattle.definitions.specs.Schema.{Schema}
use Rattle.definitions.specs.Scoring.{Similarity, max_score, natural}
use Rattle.docsets.specs.Members.{greatest_sum}
use Rattle.query_scorers.proofs.AllScores.{greatest_within}
use Rattle.query_scorers.proofs.Bounds.{clauses_total, queries_total}
use Rattle.query_scorers.specs.Asked.{asked}
use Rattle.query_scorers.specs.Scores.{AllScore}
use Rattle.segment_reader.specs.declared.segment_reader.SegmentReader.{SegmentReader}
use Rattle.query_trees.specs.Queries.{clauses_of, occur_of, queries_of, query_of}
use Rattle.query_trees.specs.declared.any_query.AnyQuery.{AnyQuery}
use Rattle.query_trees.specs.declared.occur.Occur.{Occur}
use Rattle.query_scorers.specs.Accepted.{AreAccepted, AreAcceptedClauses, IsAccepted}
use Rattle.query_trees.specs.Walks.{queries_list}

-- a number that is its natural number isn't negative
not_negative : (z : ℤ) → z ≡ pos (natural z) → pos 0 ≤ℤ z
not_negative z is = subst (λ y. pos 0 ≤ℤ y) (sym is) (search rules)

at_most : (z : ℤ) (n : ℕ) → z ≡ pos (natural z) → natural z ≤ n → z ≤ℤ pos n
at_most z n is l = subst (λ y. y ≤ℤ pos n) (sym is) (search (rules, l))

module _ (weight : List ℕ → ℕ) (b : ℕ) where
  -- no score is above the greatest
  pub fits : (q : Query) → IsAccepted weight b q → bound weight b q ≤ max_score
  fits q accepted = ∥∥₁_elim accepted (hlevel props) (λ a. accepted_fits a.0 weight b q a.1)

  -- ---- clauses

  pub clauses_accepted : (cs : Clauses) (least : ℕ) → IsAccepted weight b (boolean cs least) → AreAcceptedClauses weight b cs
  clauses_accepted cs least accepted = ∥∥₁_map accepted (λ a. (a.0, accepted_clauses a.0 weight b cs least a.1))

  clause_at : (schema : Schema) (cs : List (Occur × AnyQuery)) (i : ℕ) (c : Occur × AnyQuery) → i < length cs → c ≡ get_or cs i c → clauses_fault schema weight b (clauses_of cs) ≡ None → tree_fault schema weight b (query_of c.1) ≡ None
  clause_at schema [] i c l is passes = absurd (omega (arith, l))
  clause_at schema (d ∷ cs) zero c l is passes = ap (λ (d : Occur × AnyQuery). tree_fault schema weight b (query_of d.1)) is ∙ accepted_first_clause schema weight b (occur_of d.0) (query_of d.1) (clauses_of cs) passes
  clause_at schema (d ∷ cs) (suc i) c l is passes = clause_at schema cs i c (omega (arith, l)) is (accepted_more_clauses schema weight b (occur_of d.0) (query_of d.1) (clauses_of cs) passes)

  pub clause_accepted : (cs : List (Occur × AnyQuery)) (i : ℕ) (c : Occur × AnyQuery) → i < length cs → c ≡ get_or cs i c → AreAcceptedClauses weight b (clauses_of cs) → IsAccepted weight b (query_of c.1)
  clause_accepted cs i c l is accepted = ∥∥₁_map accepted (λ a. (a.0, clause_at a.0 cs i c l is a.1))

  -- ---- queries in order

  pub queries_accepted : (qs : Queries) (tie : ℤ) → IsAccepted weight b (disjunction_max qs tie) → AreAccepted weight b qs
  queries_accepted qs tie accepted = ∥∥₁_map accepted (λ a. (a.0, accepted_queries a.0 weight b qs tie a.1))

  query_at : (schema : Schema) (qs : List AnyQuery) (i : ℕ) (q : AnyQuery) → i < length qs → q ≡ get_or qs i q → queries_fault schema weight b (queries_of qs) ≡ None → tree_fault schema weight b (query_of q) ≡ None
  query_at schema [] i q l is passes = absurd (omega (arith, l))
  query_at schema (p ∷ qs) zero q l is passes = ap (λ (p : AnyQuery). tree_fault schema weight b (query_of p)) is ∙ accepted_first_query schema weight b (query_of p) (queries_of qs) passes
  query_at schema (p ∷ qs) (suc i) q l is passes = query_at schema qs i q (omega (arith, l)) is (accepted_more_queries schema weight b (query_of p) (queries_of qs) passes)

  pub query_accepted : (qs : List AnyQuery) (i : ℕ) (q : AnyQuery) → i < length qs → q ≡ get_or qs i q → AreAccepted weight b (queries_of qs) → IsAccepted weight b (query_of q)
  query_accepted qs i q l is accepted = ∥∥₁_map accepted (λ a. (a.0, query_at a.0 qs i q l is a.1))

  -- a tie is from 0 to 1000
  pub tie_positive : (qs : Queries) (tie : ℤ) → IsAccepted weight b (disjunction_max qs tie) → pos 0 ≤ℤ tie
  tie_positive qs tie accepted = ∥∥₁_elim accepted (hlevel props) (λ a. let inside = (accepted_tie a.0 weight b qs tie a.1).0 in not_negative tie inside)

  pub tie_small : (qs : Queries) (tie : ℤ) → IsAccepted weight b (disjunction_max qs tie) → tie ≤ℤ pos 1000
  tie_small qs tie accepted = ∥∥₁_elim accepted (hlevel props) (λ a. let inside = accepted_tie a.0 weight b qs tie a.1 in at_most tie 1000 inside.0 inside.1)

  -- ---- boosts and constants

  pub boost_positive : (factor : ℤ) (q : Query) → IsAccepted weight b (boost factor q) → pos 0 ≤ℤ factor
  boost_positive factor q accepted = ∥∥₁_elim accepted (hlevel props) (λ a. not_negative factor (accepted_factor a.0 weight b factor q a.1).0)

  pub boost_accepted : (factor : ℤ) (q : Query) → IsAccepted weight b (boost factor q) → IsAccepted weight (b * natural factor) q
  boost_accepted factor q accepted = ∥∥₁_map accepted (λ a. (a.0, accepted_boost a.0 weight b factor q a.1))

  pub boost_within : (factor : ℤ) (q : Query) → IsAccepted weight b (boost factor q) → b * natural factor ≤ max_score
  boost_within factor q accepted = ∥∥₁_elim accepted (hlevel props) (λ a. accepted_product a.0 weight b (boost factor q) a.1)

  pub constant_positive : (constant : ℤ) (q : Query) → IsAccepted weight b (const_score constant q) → pos 0 ≤ℤ constant
  constant_positive constant q accepted = ∥∥₁_elim accepted (hlevel props) (λ a. not_negative constant (accepted_constant a.0 weight b constant q a.1).0)

  pub constant_within : (constant : ℤ) (q : Query) → IsAccepted weight b (const_score constant q) → b * natural constant ≤ max_score
  constant_within constant q accepted = fits (const_score constant q) accepted

  pub constant_query_accepted : (constant : ℤ) (q : Query) → IsAccepted weight b (const_score constant q) → IsAccepted weight b q
  constant_query_accepted constant q accepted = ∥∥₁_map accepted (λ a. (a.0, accepted_const a.0 weight b constant q a.1))

-- ---- what scorers of accepted queries score together

module _ (sim : Similarity) (b : ℕ) (r : SegmentReader) where
  -- clauses score at most their bound
  pub clauses_fit : (cs : Clauses) (least : ℕ) (musts shoulds : List (List Entry)) → IsAccepted sim.weight b (boolean cs least) → AllScore sim b r (asked must cs) musts → AllScore sim b r (asked should cs) shoulds → greatest_sum musts + greatest_sum shoulds ≤ max_score
  clauses_fit cs least musts shoulds accepted all_musts all_shoulds =
      let most = fits sim.weight b (boolean cs least) accepted in
      let total = clauses_total sim.weight b cs in
      let first = greatest_within sim b r (asked must cs) musts all_musts in
      let second = greatest_within sim b r (asked should cs) shoulds all_shoulds in
      omega (arith, most, total, first, second)

  -- so do queries in order
  pub queries_fit : (qs : Queries) (tie : ℤ) (ess : List (List Entry)) → IsAccepted sim.weight b (disjunction_max qs tie) → AllScore sim b r (queries_list qs) ess → greatest_sum ess ≤ max_score
  queries_fit qs tie ess accepted all =
      let most = fits sim.weight b (disjunction_max qs tie) accepted in
      let total = queries_total sim.weight b qs in
      let first = greatest_within sim b r (queries_list qs) ess all in
      omega (arith, most, total, first)
