-- Scorers of clauses and of queries, one after another.
use Rattle.std.proofs.Common.{[], Bool, List, ap, if◌then◌else◌, map, subst, sym, true, false, ◌*◌, ◌++◌, ◌∙◌, ◌∷◌, ◌≡◌, ℕ, ℤ}
use Rattle.std.proofs.lemmas.List.{map-append}
use Rattle.docsets.specs.Entries.{Entry}
use Rattle.definitions.proofs.Bounds.{accepted_boost}
use Rattle.definitions.specs.Query.{Occur, Query, boost}
use Rattle.definitions.specs.Scoring.{Similarity, natural}
use Rattle.query_scorers.proofs.AllScores.{all_then}
use Rattle.query_scorers.specs.Asked.{asked, is_same}
use Rattle.query_scorers.specs.Scores.{AllScore, Scores}
use Rattle.query_trees.proofs.AllNodes.{last_query as each_more}
use Rattle.query_trees.specs.Queries.{clauses_of, occur_of, queries_of, query_of}
use Rattle.query_trees.specs.Walks.{queries_list}
use Rattle.query_trees.specs.declared.any_query.AnyQuery.{AnyQuery}
use Rattle.query_trees.specs.declared.occur.Occur as trees
use Rattle.segment_reader.specs.declared.segment_reader.SegmentReader.{SegmentReader}

abbrev Clause : Type 0
Clause = trees.Occur × AnyQuery

-- ---- the query of one more clause

asked_more : (o : Occur) (cs : List Clause) (c : Clause) → is_same o (occur_of c.0) ≡ true → asked o (clauses_of (cs ++ c ∷ [])) ≡ asked o (clauses_of cs) ++ query_of c.1 ∷ []
asked_more o [] c same = ap (λ t. if t then query_of c.1 ∷ [] else []) same
asked_more o (d ∷ cs) c same = go (is_same o (occur_of d.0)) (asked_more o cs c same)
  where
    go : (t : Bool) → asked o (clauses_of (cs ++ c ∷ [])) ≡ asked o (clauses_of cs) ++ query_of c.1 ∷ [] → (if t then query_of d.1 ∷ asked o (clauses_of (cs ++ c ∷ [])) else asked o (clauses_of (cs ++ c ∷ []))) ≡ (if t then query_of d.1 ∷ asked o (clauses_of cs) else asked o (clauses_of cs)) ++ query_of c.1 ∷ []
    go true rest = ap (λ qs. query_of d.1 ∷ qs) rest
    go false rest = rest

asked_same : (o : Occur) (cs : List Clause) (c : Clause) → is_same o (occur_of c.0) ≡ false → asked o (clauses_of (cs ++ c ∷ [])) ≡ asked o (clauses_of cs)
asked_same o [] c other = ap (λ t. if t then query_of c.1 ∷ [] else []) other
asked_same o (d ∷ cs) c other = go (is_same o (occur_of d.0)) (asked_same o cs c other)
  where
    go : (t : Bool) → asked o (clauses_of (cs ++ c ∷ [])) ≡ asked o (clauses_of cs) → (if t then query_of d.1 ∷ asked o (clauses_of (cs ++ c ∷ [])) else asked o (clauses_of (cs ++ c ∷ []))) ≡ (if t then query_of d.1 ∷ asked o (clauses_of cs) else asked o (clauses_of cs))
    go true rest = ap (λ qs. query_of d.1 ∷ qs) rest
    go false rest = rest

entries_more : {X : Type 0} (entries : X → List Entry) (scorers more : List X) (x : X) → more ≡ scorers ++ x ∷ [] → map entries more ≡ map entries scorers ++ entries x ∷ []
entries_more entries scorers more x is = ap (map entries) is ∙ map-append entries scorers (x ∷ [])

module _ {X : Type 0} (entries : X → List Entry) (sim : Similarity) (b : ℕ) (r : SegmentReader) where
  -- one more scorer for one more clause that asks this
  pub asked_then : (o : Occur) (cs later : List Clause) (c : Clause) (scorers more : List X) (x : X) → later ≡ cs ++ c ∷ [] → is_same o (occur_of c.0) ≡ true → more ≡ scorers ++ x ∷ [] → AllScore sim b r (asked o (clauses_of cs)) (map entries scorers) → Scores sim b (query_of c.1) r (entries x) → AllScore sim b r (asked o (clauses_of later)) (map entries more)
  asked_then o cs later c scorers more x is same are all one =
      subst (λ qs. AllScore sim b r qs (map entries more)) (sym (ap (λ l. asked o (clauses_of l)) is ∙ asked_more o cs c same))
      (subst (AllScore sim b r (asked o (clauses_of cs) ++ query_of c.1 ∷ [])) (sym (entries_more entries scorers more x are)) (all_then sim b r (asked o (clauses_of cs)) (map entries scorers) (query_of c.1) (entries x) all one))

  -- none for a clause that asks something else
  pub asked_skip : (o : Occur) (cs later : List Clause) (c : Clause) (ess : List (List Entry)) → later ≡ cs ++ c ∷ [] → is_same o (occur_of c.0) ≡ false → AllScore sim b r (asked o (clauses_of cs)) ess → AllScore sim b r (asked o (clauses_of later)) ess
  asked_skip o cs later c ess is other all = subst (λ qs. AllScore sim b r qs ess) (sym (ap (λ l. asked o (clauses_of l)) is ∙ asked_same o cs c other)) all

  -- one more scorer for one more query
  pub each_then : (qs later : List AnyQuery) (q : AnyQuery) (scorers more : List X) (x : X) → later ≡ qs ++ q ∷ [] → more ≡ scorers ++ x ∷ [] → AllScore sim b r (queries_list (queries_of qs)) (map entries scorers) → Scores sim b (query_of q) r (entries x) → AllScore sim b r (queries_list (queries_of later)) (map entries more)
  each_then qs later q scorers more x is are all one =
      subst (λ rs. AllScore sim b r rs (map entries more)) (sym (ap (λ l. queries_list (queries_of l)) is ∙ each_more qs q))
      (subst (AllScore sim b r (queries_list (queries_of qs) ++ query_of q ∷ [])) (sym (entries_more entries scorers more x are)) (all_then sim b r (queries_list (queries_of qs)) (map entries scorers) (query_of q) (entries x) all one))

-- what a query answers under a product of boosts, the query boosted once more answers
pub boosted_scores : (sim : Similarity) (b n : ℕ) (factor : ℤ) (q p : Query) (r : SegmentReader) (es : List Entry) → n ≡ b * natural factor → q ≡ p → Scores sim n q r es → Scores sim b (boost factor p) r es
boosted_scores sim b n factor q p r es product same scores =
    let here : Scores sim (b * natural factor) p r es = subst (λ m. Scores sim m p r es) product (subst (λ q. Scores sim n q r es) same scores) in
    record {
      answers_are = λ schema analyze docs stands passes. here.answers_are schema analyze docs stands (accepted_boost schema sim.weight b factor p passes);
      within = here.within;
      bounded = here.bounded;
    }
