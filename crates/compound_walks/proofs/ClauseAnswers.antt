-- What scorers of clauses have together, the clauses answer.
use Rattle.std.proofs.Common.{[], List, ap, ap₂, arith, if◌then◌else◌, length, nat_le, not, sum, sym, ◌&&◌, ◌++◌, ◌+◌, ◌<◌, ◌∙◌, ◌∷◌, ◌≡◌, ◌≤◌, ℕ, ℤ}
use Rattle.any_scorer.proofs.ByClauses.{entries_both}
use Rattle.any_scorer.specs.Clauses.{by_clauses, scores_of}
use Rattle.definitions.specs.Postings.{terminated}
use Rattle.definitions.specs.Query.{Clauses, boolean, must, must_not, should}
use Rattle.definitions.specs.Scoring.{Similarity}
use Rattle.docsets.specs.Entries.{Entry}
use Rattle.docsets.specs.Members.{enough, entries_at, scores_in}
use Rattle.query_scorers.proofs.Combined.{clauses_score}
use Rattle.query_scorers.specs.Asked.{asked}
use Rattle.query_scorers.specs.Scores.{AllScore, Scores}
use Rattle.walks.proofs.FedBelow.{few_within}
use Rattle.joint_walks.specs.Together.{HasClauses, IsFedSuch}
use Rattle.compound_walks.specs.Fed.{IsFedBy}
use Rattle.compound_walks.specs.Same.{HaveSame}
use Rattle.segment_reader.specs.SegmentReaders.{max_doc_of}
use Rattle.segment_reader.specs.declared.segment_reader.SegmentReader.{SegmentReader}

-- lists with the same entries of a document have the same together
same_lists : (minimum d : ℕ) (musts shoulds other_shoulds must_nots other_nots : List (List Entry)) → entries_at d shoulds ≡ entries_at d other_shoulds → entries_at d must_nots ≡ entries_at d other_nots → by_clauses minimum musts shoulds must_nots d ≡ by_clauses minimum musts other_shoulds other_nots d
same_lists minimum d musts shoulds other_shoulds must_nots other_nots some none =
    let made : List Entry → List Entry → List Entry → List ℕ = λ es fs gs. if enough (length musts) musts d && nat_le minimum (length es) && nat_le 1 (length fs) && not (nat_le 1 (length gs)) then sum (scores_in fs) ∷ [] else [] in
    let both : entries_at d (musts ++ shoulds) ≡ entries_at d (musts ++ other_shoulds) = entries_both d musts shoulds ∙ (ap (λ xs. entries_at d musts ++ xs) some ∙ sym (entries_both d musts other_shoulds)) in
    ap₂ (λ es fs. made es fs (entries_at d must_nots)) some both ∙ ap (made (entries_at d other_shoulds) (entries_at d (musts ++ other_shoulds))) none

module _ (sim : Similarity) (b : ℕ) (r : SegmentReader) (cs : Clauses) (minimum : ℕ) (musts all_shoulds all_nots : List (List Entry)) (musts_score : AllScore sim b r (asked must cs) musts) (shoulds_score : AllScore sim b r (asked should cs) all_shoulds) (nots_score : AllScore sim b r (asked must_not cs) all_nots) (few : max_doc_of r ≤ terminated) (shoulds must_nots : List (List Entry)) (same : HaveSame shoulds all_shoulds) (same_nots : HaveSame must_nots all_nots) where
  -- a list of what the clauses have is what they answer
  pub answered : (es : List Entry) → HasClauses minimum musts shoulds must_nots es → Scores sim b (boolean cs minimum) r es
  answered es has =
      let are : (d : ℕ) → d < terminated → scores_of d es ≡ by_clauses minimum musts all_shoulds all_nots d = λ d l. has.scores d l ∙ same_lists minimum d musts shoulds all_shoulds must_nots all_nots (same.entries d) (same_nots.entries d) in
      let bounded = has.bounded in
      let greatest = same.greatest in
      clauses_score sim b r few cs minimum musts all_shoulds all_nots es musts_score shoulds_score nots_score are (omega (arith, bounded, greatest)) has.rises

  -- and has no more documents than the segment
  pub few_answered : (es : List Entry) → HasClauses minimum musts shoulds must_nots es → length es ≤ max_doc_of r
  few_answered es has = (let many = few_within 0 (max_doc_of r) es has.rises (answered es has).within in omega (arith, many))

  -- a sink that was fed such a list was fed what they answer
  pub fed_answered : {S : Type 0} (limit : S → ℤ) (taken : S → ℕ × ℕ → S) (before after : S) → IsFedSuch limit taken before (HasClauses minimum musts shoulds must_nots) after → IsFedBy limit taken before sim b (boolean cs minimum) r after
  fed_answered limit taken before after is = record { entries = is.entries; scores = answered is.entries is.has; rises = is.has.rises; fed = is.fed }
