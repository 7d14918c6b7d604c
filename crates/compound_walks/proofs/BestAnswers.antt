-- What the best of several scorers has, and that the best of several queries answers it.
use Rattle.std.proofs.Common.{[], List, ap, arith, if◌then◌else◌, length, map, nat_le, refl, subst, sym, ◌<◌, ◌∙◌, ◌∷◌, ◌≡◌, ◌≤◌, ℕ, ℤ}
use Rattle.any_scorer.proofs.Bounded.{best_rises, bounded_best}
use Rattle.any_scorer.proofs.ByScores.{combined}
use Rattle.any_scorer.specs.Clauses.{by_best, scores_of}
use Rattle.definitions.proofs.Bounds.{accepted_tie}
use Rattle.definitions.specs.Postings.{terminated}
use Rattle.definitions.specs.Query.{Queries, Query, disjunction_max}
use Rattle.definitions.specs.Refusing.{queries_bound}
use Rattle.definitions.specs.Scoring.{Similarity, best_and_tie, max_score, natural}
use Rattle.docsets.specs.Entries.{Entry, Rising, from}
use Rattle.docsets.specs.Members.{at_least, combining, enough, entries_at, greatest_sum, scores_in}
use Rattle.query_scorers.proofs.AllScores.{greatest_within}
use Rattle.query_scorers.proofs.Bounds.{queries_total}
use Rattle.query_scorers.proofs.Combined.{best_scores}
use Rattle.query_scorers.specs.Scores.{AllScore, Scores}
use Rattle.query_trees.specs.Walks.{queries_list}
use Rattle.joint_walks.proofs.ClauseDocuments.{documents_listed, none_from, same_matches}
use Rattle.joint_walks.specs.Counted.{IsCountBy, IsCountIn}
use Rattle.compound_walks.specs.Fed.{HasBest, IsFedBy}
use Rattle.joint_walks.specs.Together.{IsFedSuch}
use Rattle.compound_walks.specs.Same.{HaveSame}
use Rattle.scorer_answers.proofs.AnswerLaws.{scores_match}
use Rattle.scorer_answers.specs.Matching.{Matches}
use Rattle.walks.proofs.FedBelow.{few_within}
use Rattle.segment_reader.specs.SegmentReaders.{max_doc_of}
use Rattle.segment_reader.specs.declared.segment_reader.SegmentReader.{SegmentReader}
use Rattle.walks.proofs.EntryCuts.{docs_in as documents}

-- ---- lists of the best scores

module _ {X : Type 0} (entries : X → List Entry) (rising : (x : X) → Rising 0 (entries x)) where
  -- no score is above the sum of the greatest of each
  pub complete_best : (tie : ℕ) → tie ≤ 1000 → (xs : List X) (es : List Entry) → Rising 0 es → ((d : ℕ) → d < terminated → scores_of d es ≡ by_best tie (map entries xs) d) → HasBest tie (map entries xs) es
  complete_best tie small xs es rises scores = record { rises = rises; scores = scores; bounded = bounded_best entries rising tie small xs es rises scores }

  -- there is one, if the scores fit together
  pub has_best : (tie : ℕ) → tie ≤ 1000 → (xs : List X) → greatest_sum (map entries xs) ≤ max_score → HasBest tie (map entries xs) (at_least 1 (combining (best_and_tie tie)) (map entries xs))
  has_best tie small xs fits =
      let ess = map entries xs in
      let list : List Entry = at_least 1 (combining (best_and_tie tie)) ess in
      complete_best tie small xs list (best_rises entries rising (best_and_tie tie) tie small (λ ys. refl) xs fits list refl)
      (λ d l. combined (best_and_tie tie) (best_and_tie tie) 1 list list ess refl refl (λ ys. refl) d l)

-- ---- what the best of several queries answers

-- lists with the same entries of a document have the same best score of it
same_best : (tie d : ℕ) (ess fss : List (List Entry)) → entries_at d ess ≡ entries_at d fss → by_best tie ess d ≡ by_best tie fss d
same_best tie d ess fss same = ap (λ es. if nat_le 1 (length es) then best_and_tie tie (scores_in es) ∷ [] else []) same

-- equal lists have the same
pub have_equal : (ess fss gss : List (List Entry)) → ess ≡ fss → HaveSame fss gss → HaveSame ess gss
have_equal ess fss gss is same = subst (λ xs. HaveSame xs gss) (sym is) same

module _ (sim : Similarity) (b : ℕ) (r : SegmentReader) (few : max_doc_of r ≤ terminated) (qs : Queries) (tie other : ℤ) (same : other ≡ tie) (ess lists : List (List Entry)) (are : HaveSame lists ess) (all : AllScore sim b r (queries_list qs) ess) where
  pub best_answered : (es : List Entry) → HasBest (natural other) lists es → Scores sim b (disjunction_max qs tie) r es
  best_answered es has =
      let bounded = has.bounded in
      let greatest = are.greatest in
      best_scores sim b r few qs tie ess es all (λ d l. has.scores d l ∙ (ap (λ z. by_best (natural z) lists d) same ∙ same_best (natural tie) d lists ess (are.entries d))) (omega (arith, bounded, greatest)) has.rises

  -- and has no more documents than the segment
  pub few_best : (es : List Entry) → HasBest (natural other) lists es → length es ≤ max_doc_of r
  few_best es has = (let many = few_within 0 (max_doc_of r) es has.rises (best_answered es has).within in omega (arith, many))

  -- a sink that was fed such a list was fed what they answer
  pub fed_best : {S : Type 0} (limit : S → ℤ) (taken : S → ℕ × ℕ → S) (before after : S) → IsFedSuch limit taken before (HasBest (natural other) lists) after → IsFedBy limit taken before sim b (disjunction_max qs tie) r after
  fed_best limit taken before after is = record { entries = is.entries; scores = best_answered is.entries is.has; rises = is.has.rises; fed = is.fed }

-- scores fit together that are within the bounds of accepted queries
pub bounds_fit : (sim : Similarity) (b : ℕ) (r : SegmentReader) (qs : Queries) (ess lists : List (List Entry)) → HaveSame lists ess → queries_bound sim.weight b qs ≤ max_score → AllScore sim b r (queries_list qs) ess → greatest_sum lists ≤ max_score
bounds_fit sim b r qs ess lists are most all =
    let same = are.greatest in
    let total = queries_total sim.weight b qs in
    let first = greatest_within sim b r (queries_list qs) ess all in
    omega (arith, most, total, first, same)

-- the count of any is that of what the best of the queries match, whatever share of the others is added
pub counts_best : (sim : Similarity) (b : ℕ) (r : SegmentReader) → max_doc_of r ≤ terminated → (qs : Queries) (ess lists : List (List Entry)) → HaveSame lists ess → AllScore sim b r (queries_list qs) ess → (n : ℕ) → ((tie : ℕ) → tie ≤ 1000 → IsCountBy r (HasBest tie lists) n) → (tie : ℤ) → IsCountIn r sim.weight b (disjunction_max qs tie) n
counts_best sim b r few qs ess lists are all n is tie schema analyze rows has passes =
    is (natural tie) (accepted_tie schema sim.weight b qs tie passes).1 sim.weight b (disjunction_max qs tie)
    (λ es best. scores_match sim b (disjunction_max qs tie) r es (best_answered sim b r few qs tie tie refl ess lists are all es best))
    schema analyze rows has passes

-- ---- which documents any of several scorers has, whatever is made of its scores

any_documents : (make other : ℕ → List Entry → Entry) (ess : List (List Entry)) (es : List Entry) → es ≡ at_least 1 make ess → documents es ≡ documents (at_least 1 other ess)
any_documents make other ess es is = ap documents is ∙ documents_listed (enough 1 ess) (λ d. make d (entries_at d ess)) (λ d. other d (entries_at d ess))

module _ {X : Type 0} (entries : X → List Entry) (rising : (x : X) → Rising 0 (entries x)) (xs : List X) (fits : greatest_sum (map entries xs) ≤ max_score) (make : ℕ → List Entry → Entry) (es : List Entry) (is : es ≡ at_least 1 make (map entries xs)) where
  -- no document is behind the last
  pub any_within : (n : ℕ) → ((tie : ℕ) (fs : List Entry) → HasBest tie (map entries xs) fs → from n fs ≡ []) → from n es ≡ []
  any_within n within = none_from n es (at_least 1 (combining (best_and_tie 0)) (map entries xs)) (any_documents make (combining (best_and_tie 0)) (map entries xs) es is) (within 0 _ (has_best entries rising 0 (omega arith) xs fits))

  -- the queries that the best match are matched
  pub any_matches : (r : SegmentReader) (tie : ℕ) → tie ≤ 1000 → (weight : List ℕ → ℕ) (b : ℕ) (q : Query) → ((fs : List Entry) → HasBest tie (map entries xs) fs → Matches weight b q r fs) → Matches weight b q r es
  any_matches r tie small weight b q are = same_matches weight b q r es (at_least 1 (combining (best_and_tie tie)) (map entries xs)) (any_documents make (combining (best_and_tie tie)) (map entries xs) es is) (are _ (has_best entries rising tie small xs fits))
