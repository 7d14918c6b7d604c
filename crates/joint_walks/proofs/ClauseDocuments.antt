-- Which documents clauses have, whatever their scores.
use Rattle.std.proofs.Common.{[], Bool, List, ap, arith, false, filter, if◌then◌else◌, length, map, nat_le, not, refl, subst, suc, sum, sym, true, zero, ◌+◌, ◌-◌, ◌<◌, ◌∙◌, ◌∷◌, ◌≡◌, ◌≤◌, ℕ}
use Rattle.any_scorer.proofs.ByScores.{joined}
use Rattle.any_scorer.specs.Clauses.{by_number, scores_of}
use Rattle.definitions.specs.Postings.{terminated}
use Rattle.definitions.specs.Query.{Query}
use Rattle.definitions.specs.Scoring.{max_score}
use Rattle.docsets.specs.Entries.{Entry, Rising, from}
use Rattle.docsets.specs.Members.{at_document, at_least, enough, greatest_sum, listed, walk}
use Rattle.docsets.specs.ScoredEntries.{greatest_score}
use Rattle.intersections.specs.Differences.{without}
use Rattle.intersections.specs.Optionals.{score_with, with_optional}
use Rattle.walks.specs.Unions.{union}
use Rattle.joint_walks.proofs.ClauseLists.{complete, has_union, have_both, have_without}
use Rattle.joint_walks.specs.Counted.{IsCountBy}
use Rattle.joint_walks.specs.Together.{HasClauses}
use Rattle.scorer_answers.specs.Matching.{Matches}
use Rattle.segment_reader.specs.declared.segment_reader.SegmentReader.{SegmentReader}
use Rattle.walks.proofs.EntryCuts.{docs_in as documents}
use Rattle.walks.proofs.ScorerBlocks.{docs_rescored as documents_rescored}

-- ---- documents of lists that are made of others

none_documents : (es : List Entry) → documents es ≡ [] → es ≡ []
none_documents [] h = refl
none_documents (e ∷ es) h = cc

documents_from : (n : ℕ) (es : List Entry) → documents (from n es) ≡ filter (nat_le n) (documents es)
documents_from n [] = refl
documents_from n (e ∷ es) = go (nat_le n e.doc) (documents_from n es)
  where
    go : (t : Bool) → documents (from n es) ≡ filter (nat_le n) (documents es) → documents (if t then e ∷ from n es else from n es) ≡ (if t then e.doc ∷ filter (nat_le n) (documents es) else filter (nat_le n) (documents es))
    go true rest = ap (λ ds. e.doc ∷ ds) rest
    go false rest = rest

documents_without : (f : ℕ → Bool) (es : List Entry) → documents (without f es) ≡ filter (λ d. not (f d)) (documents es)
documents_without f [] = refl
documents_without f (e ∷ es) = go (f e.doc) (documents_without f es)
  where
    go : (t : Bool) → documents (without f es) ≡ filter (λ d. not (f d)) (documents es) → documents (if t then without f es else e ∷ without f es) ≡ (if not t then e.doc ∷ filter (λ d. not (f d)) (documents es) else filter (λ d. not (f d)) (documents es))
    go true rest = rest
    go false rest = ap (λ ds. e.doc ∷ ds) rest

documents_walked : (f : ℕ → Bool) (s t : ℕ → Entry) (low n : ℕ) → documents (walk f s low n) ≡ documents (walk f t low n)
unfolding walk
documents_walked f s t low zero = refl
documents_walked f s t low (suc n) =
    let ih = documents_walked f s t (low + 1) n in
    elim (f low) as (λ b. documents (if b then at_document low (s low) ∷ walk f s (low + 1) n else walk f s (low + 1) n) ≡ documents (if b then at_document low (t low) ∷ walk f t (low + 1) n else walk f t (low + 1) n)) [
      | true ↦ ap (λ ds. low ∷ ds) ih
      | false ↦ ih
    ]

-- whatever their entries make
pub documents_listed : (f : ℕ → Bool) (s t : ℕ → Entry) → documents (listed f s 0) ≡ documents (listed f t 0)
unfolding listed
documents_listed f s t = documents_walked f s t 0 (terminated - 0)

-- ---- lists with the same documents

-- they end where the others do
pub none_from : (n : ℕ) (es fs : List Entry) → documents es ≡ documents fs → from n fs ≡ [] → from n es ≡ []
none_from n es fs same none = none_documents (from n es) (documents_from n es ∙ (ap (filter (nat_le n)) same ∙ (sym (documents_from n fs) ∙ ap documents none)))

-- they have the same without what a set has
same_without : (f : ℕ → Bool) (es fs : List Entry) → documents es ≡ documents fs → documents (without f es) ≡ documents (without f fs)
same_without f es fs same = documents_without f es ∙ (ap (filter (λ d. not (f d))) same ∙ sym (documents_without f fs))

-- they match the same queries
pub same_matches : (weight : List ℕ → ℕ) (b : ℕ) (q : Query) (r : SegmentReader) (es fs : List Entry) → documents es ≡ documents fs → Matches weight b q r fs → Matches weight b q r es
same_matches weight b q r es fs same are = record { documents_are = λ schema analyze docs stands passes. same ∙ are.documents_are schema analyze docs stands passes }

-- ---- lists with the documents of clauses

-- some list that clauses have has the same documents
pub record HasDocuments (musts shoulds must_nots : List (List Entry)) (es : List Entry) : Type 0 where
  pub entries : List Entry
  pub has : HasClauses 0 musts shoulds must_nots entries
  pub same : documents es ≡ documents entries

module _ {X : Type 0} (entries : X → List Entry) (rising : (x : X) → Rising 0 (entries x)) where
  -- the union of what should match, whatever is made of its scores
  any_documents : (shoulds : List X) (must_nots : List (List Entry)) (make : ℕ → List Entry → Entry) → greatest_sum (map entries shoulds) ≤ max_score → HasDocuments [] (map entries shoulds) must_nots (without (enough 1 must_nots) (at_least 1 make (map entries shoulds)))
  any_documents shoulds must_nots make fits =
      let ess = map entries shoulds in
      let has = has_union entries rising shoulds fits in
      record {
        entries = without (enough 1 must_nots) (union ess);
        has = complete entries rising 0 [] shoulds must_nots _ (have_without 0 [] ess must_nots (union ess) (has.rises, has.scores));
        same = same_without (enough 1 must_nots) _ _ (documents_listed (enough 1 ess) _ _);
      }

  -- so has a list that is this union
  pub any_entries : (shoulds : List X) (must_nots : List (List Entry)) (make : ℕ → List Entry → Entry) (es : List Entry) → greatest_sum (map entries shoulds) ≤ max_score → es ≡ at_least 1 make (map entries shoulds) → HasDocuments [] (map entries shoulds) must_nots (without (enough 1 must_nots) es)
  any_entries shoulds must_nots make es fits is = subst (λ (xs : List Entry). HasDocuments [] (map entries shoulds) must_nots (without (enough 1 must_nots) xs)) (sym is) (any_documents shoulds must_nots make fits)

  -- what all have that must match, whatever should match beside them
  pub all_documents : (musts shoulds : List X) (must_nots : List (List Entry)) (es : List Entry) → 1 ≤ length (map entries musts) → greatest_sum (map entries musts) + greatest_sum (map entries shoulds) ≤ max_score → Rising 0 es → greatest_score es ≤ greatest_sum (map entries musts) → ((d : ℕ) → d < terminated → scores_of d es ≡ by_number (length (map entries musts)) (map entries musts) d) → HasDocuments (map entries musts) (map entries shoulds) must_nots (without (enough 1 must_nots) es)
  all_documents musts shoulds must_nots es some fits rises bounded scores =
      let ess = map entries shoulds in
      let any = has_union entries rising shoulds (omega (arith, fits)) in
      let most : greatest_score (union ess) ≤ 0 + greatest_sum ess = any.bounded in
      let both = have_both (map entries musts) ess es (union ess) some rises any.rises (omega (arith, bounded, most, fits)) scores (λ d l. joined 1 (union ess) (union ess) ess refl refl d l) in
      record {
        entries = without (enough 1 must_nots) (with_optional sum es (union ess));
        has = complete entries rising 0 musts shoulds must_nots _ (have_without 0 (map entries musts) ess must_nots _ both);
        same = same_without (enough 1 must_nots) _ _ (sym (documents_rescored (score_with sum (union ess)) es));
      }

-- what is counted of such a list is what clauses have
pub counts_clauses : (r : SegmentReader) (musts shoulds must_nots : List (List Entry)) (es : List Entry) (n : ℕ) → HasDocuments musts shoulds must_nots es → IsCountBy r (λ xs. xs ≡ es) n → IsCountBy r (HasClauses 0 musts shoulds must_nots) n
counts_clauses r musts shoulds must_nots es n has is weight b q are = is weight b q (λ xs same. subst (Matches weight b q r) (sym same) (same_matches weight b q r es has.entries has.same (are has.entries has.has)))

-- and its documents are within the segment
pub within_clauses : (n : ℕ) (musts shoulds must_nots : List (List Entry)) (es : List Entry) → HasDocuments musts shoulds must_nots es → ((xs : List Entry) → HasClauses 0 musts shoulds must_nots xs → from n xs ≡ []) → from n es ≡ []
within_clauses n musts shoulds must_nots es has within = none_from n es has.entries has.same (within has.entries has.has)
