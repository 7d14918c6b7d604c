-- Cursors of several queries together.
use Rattle.std.proofs.Common.{[], List, None, Some, ap, arith, flat_map, length, refl, slice_get, sym, ◌++◌, ◌+◌, ◌∙◌, ◌∷◌, ◌≡◌, ◌≤◌, ℕ}
use Rattle.std.proofs.lemmas.List.{length-map}
use Rattle.std.specs.List.{AllByRecursion}
use Rattle.any_scorer.specs.Clauses.{scores_at}
use Rattle.docsets.specs.Entries.{Entry}
use Rattle.definitions.specs.Analyzers.{Analyzer}
use Rattle.definitions.specs.Query.{Query}
use Rattle.definitions.specs.Refusing.{bound, tree_fault}
use Rattle.definitions.specs.Schema.{Schema}
use Rattle.definitions.specs.Scoring.{Similarity}
use Rattle.definitions.specs.Values.{Document}
use Rattle.docsets.proofs.MemberLaws.{entries-kept, scores-append}
use Rattle.docsets.specs.Members.{entries_at, entries_of, greatest_sum}
use Rattle.segment_reader.specs.SegmentReaders.{StandsFor, max_doc_of}
use Rattle.segment_reader.specs.declared.segment_reader.SegmentReader.{SegmentReader}
use Rattle.query_scorers.proofs.Earned.{earned, earned_there}
use Rattle.query_scorers.specs.Scores.{AllScore, Scores}

-- the bounds of several queries added up
abbrev pub total_bound : (List ℕ → ℕ) → ℕ → List Query → ℕ
total_bound weight b [] = 0
total_bound weight b (q ∷ qs) = bound weight b q + total_bound weight b qs

module _ (sim : Similarity) (b : ℕ) (r : SegmentReader) where
  -- one more
  pub all_then : (qs : List Query) (ess : List (List Entry)) (q : Query) (es : List Entry) → AllScore sim b r qs ess → Scores sim b q r es → AllScore sim b r (qs ++ q ∷ []) (ess ++ es ∷ [])
  all_then [] [] q es all one = (one, tt)
  all_then [] (fs ∷ ess) q es all one = absurd all
  all_then (p ∷ qs) [] q es all one = absurd all
  all_then (p ∷ qs) (fs ∷ ess) q es all one = (all.0, all_then qs ess q es all.1 one)

  pub as_many : (qs : List Query) (ess : List (List Entry)) → AllScore sim b r qs ess → length ess ≡ length qs
  as_many [] [] all = refl
  as_many [] (es ∷ ess) all = absurd all
  as_many (q ∷ qs) [] all = absurd all
  as_many (q ∷ qs) (es ∷ ess) all = let ih = as_many qs ess all.1 in omega (arith, ih)

  pub greatest_within : (qs : List Query) (ess : List (List Entry)) → AllScore sim b r qs ess → greatest_sum ess ≤ total_bound sim.weight b qs
  greatest_within [] [] all = omega arith
  greatest_within [] (es ∷ ess) all = absurd all
  greatest_within (q ∷ qs) [] all = absurd all
  greatest_within (q ∷ qs) (es ∷ ess) all = let ih = greatest_within qs ess all.1 in let one = all.0.bounded in omega (arith, ih, one)

  -- none of them has a document behind the segment's last
  pub none_behind : (d : ℕ) → max_doc_of r ≤ d → (qs : List Query) (ess : List (List Entry)) → AllScore sim b r qs ess → entries_at d ess ≡ []
  none_behind d l [] [] all = refl
  none_behind d l [] (es ∷ ess) all = absurd all
  none_behind d l (q ∷ qs) [] all = absurd all
  none_behind d l (q ∷ qs) (es ∷ ess) all =
      ap (λ xs. xs ++ entries_at d ess) (sym (entries-kept d (max_doc_of r) es l) ∙ ap (entries_of d) all.0.within)
      ∙ none_behind d l qs ess all.1

  -- what a document earns from each
  pub all_earned : (schema : Schema) (analyze : Analyzer) (docs : List Document) → StandsFor schema analyze docs r → (d : ℕ) (doc : Document) → slice_get docs d ≡ Some doc → (qs : List Query) (ess : List (List Entry)) → AllByRecursion (λ q. tree_fault schema sim.weight b q ≡ None) qs → AllScore sim b r qs ess → scores_at d ess ≡ flat_map (earned schema analyze sim b doc) qs
  all_earned schema analyze docs stands d doc is [] [] passed all = refl
  all_earned schema analyze docs stands d doc is [] (es ∷ ess) passed all = absurd all
  all_earned schema analyze docs stands d doc is (q ∷ qs) [] passed all = absurd all
  all_earned schema analyze docs stands d doc is (q ∷ qs) (es ∷ ess) passed all =
      scores-append (entries_of d es) (entries_at d ess)
      ∙ (ap (λ xs. xs ++ scores_at d ess) (earned_there schema analyze sim b q docs es (all.0.answers_are schema analyze docs stands passed.0) d doc is)
      ∙ ap (λ xs. earned schema analyze sim b doc q ++ xs) (all_earned schema analyze docs stands d doc is qs ess passed.1 all.1))

-- as many scores as entries
pub as_many_scores : (d : ℕ) (ess : List (List Entry)) → length (entries_at d ess) ≡ length (scores_at d ess)
as_many_scores d ess = sym (length-map (entries_at d ess) (λ e. e.score))
