-- The best of the living documents of any segments, one segment after the other, and hits that show them.
use Rattle.segment.specs.declared.segment.Segment as code
use Rattle.std.proofs.Common.{[], Bool, List, Some, ap, ap₂, arith, get_or, length, length-append, option_map, pos, slice_get, subst, suc, sym, take, ◌+◌, ◌++◌, ◌<◌, ◌∙◌, ◌∷◌, ◌≡◌, ◌≤◌, ℕ, ℤ}
use Rattle.std.proofs.Math.Seq.{take-suc}
use Rattle.std.proofs.lemmas.List.{append-nil, append_assoc}
use Rattle.std.proofs.lemmas.Option.{slice_get-get_or, slice_get-map}
use Rattle.std.specs.List.{AllZip}
use Rattle.best_k.proofs.Bests.{best_with_more}
use Rattle.best_k.specs.Kept.{Best, ScoredAddress, best_by, living_in, score_of}
use Rattle.definitions.proofs.Lists.{all_push, take_whole}
use Rattle.definitions.specs.Schema.{Schema}
use Rattle.definitions.specs.ScoredLists.{AreScoredFrom, ScoredList}
use Rattle.definitions.specs.Stored.{Named, stored_values}
use Rattle.definitions.specs.Values.{Document}
use Rattle.leaf_weights.proofs.PrefixWeighed.{long_taken as length_taken}
use Rattle.segment.specs.Opened.{blocks_of}
use Rattle.segment.specs.SlotDocuments.{HoldsDocument}
use Rattle.segment_search.proofs.Places.{zip_more}
use Rattle.segment_search.specs.Answered.{AreBest, IsBestWithMore, Shows, living_from}
use Rattle.segment_search.specs.Hits.{KeepsSegments}

-- one element more
take_next : {X : Type 0} (xs : List X) (i : ℕ) (other : X) → i < length xs → take (i + 1) xs ≡ take i xs ++ get_or xs i other ∷ []
take_next xs i other inside = let next : i + 1 ≡ suc i = omega arith in ap (λ n. take n xs) next ∙ take-suc xs i other inside

-- ---- the best

-- the living documents with those of one segment more
more_living : (ord : ℕ) (sets : List (List Bool)) (lists : List ScoredList) (flags : List Bool) (ps : ScoredList) → length lists ≡ length sets → living_from ord (sets ++ flags ∷ []) (lists ++ ps ∷ []) ≡ living_from ord sets lists ++ living_in (ord + length sets) flags ps
more_living ord [] [] flags ps e = let same : ord ≡ ord + 0 = omega arith in append-nil (living_in ord flags ps) ∙ ap (λ n. living_in n flags ps) same
more_living ord [] (l ∷ lists) flags ps e = absurd (omega (arith, e))
more_living ord (s ∷ sets) [] flags ps e = absurd (omega (arith, e))
more_living ord (s ∷ sets) (l ∷ lists) flags ps e =
    let same : ord + 1 + length sets ≡ ord + suc (length sets) = omega arith in
    let first = living_in ord s l in
    let rest = living_from (ord + 1) sets lists in
    ap (λ more. first ++ more) (more_living (ord + 1) sets lists flags ps (omega (arith, e)))
    ∙ sym (append_assoc first rest (living_in (ord + 1 + length sets) flags ps))
    ∙ ap (λ n. (first ++ rest) ++ living_in n flags ps) same

-- after one segment more
pub best_next : (sets : List (List Bool)) (i k : ℕ) (flags : List Bool) (old entered new : Best) → i < length sets → flags ≡ get_or sets i flags → entered ≡ record old { segment = i; alive = flags } → old.wanted ≡ k → IsBestWithMore entered new → AreBest (take i sets) k old.hits → AreBest (take (i + 1) sets) k new.hits
best_next sets i k flags old entered new inside at is wanted more so_far =
    let here : take (i + 1) sets ≡ take i sets ++ flags ∷ [] = take_next sets i flags inside ∙ ap (λ f. take i sets ++ f ∷ []) (sym at) in
    let long = length_taken sets i (omega (arith, inside)) in
    let index : i ≡ 0 + length (take i sets) = omega (arith, long) in
    let ps = more.pairs in
    let before = living_from 0 (take i sets) so_far.lists in
    let counted = so_far.counted in
    let lists_long = length-append so_far.lists (ps ∷ []) in
    let sets_long = length-append (take i sets) (flags ∷ []) in
    subst (λ s. AreBest s k new.hits) (sym here) (record {
      lists = so_far.lists ++ ps ∷ [];
      counted = omega (arith, counted, lists_long, sets_long);
      ascend = all_push (AreScoredFrom 0) so_far.lists ps so_far.ascend more.ascend;
      best = more.best
          ∙ ap (λ (b : Best). best_by score_of b.wanted (b.hits ++ living_in b.segment b.alive ps)) is
          ∙ ap₂ (λ (n : ℕ) (hits : List ScoredAddress). best_by score_of n (hits ++ living_in i flags ps)) wanted so_far.best
          ∙ best_with_more score_of k before (living_in i flags ps)
          ∙ ap (best_by score_of k) (ap (λ n. before ++ living_in n flags ps) index ∙ sym (more_living 0 (take i sets) so_far.lists flags ps counted));
    })

-- after the last
pub best_whole : (sets : List (List Bool)) (i k : ℕ) (hits found : List ScoredAddress) → length sets ≤ i → found ≡ hits → AreBest (take i sets) k hits → AreBest sets k found
best_whole sets i k hits found over is best = subst (λ (s : List (List Bool)). AreBest s k found) (take_whole i sets over) (subst (AreBest (take i sets) k) (sym is) best)

-- ---- hits

module _ (schema : Schema) where
  -- a hit of a segment that is there shows what was read of its slot
  pub shows_read : (segments : List code.Segment) (found : ScoredAddress) (hit : ℤ × Named) (other : code.Segment) (read : Document) → found.1 < length segments → HoldsDocument schema (blocks_of (get_or segments found.1 other)) found.2 read → hit ≡ (pos found.0, stored_values schema read) → Shows schema segments found hit
  shows_read segments found hit other read inside holds shown = record {
    blocks = blocks_of (get_or segments found.1 other);
    there = slice_get-map blocks_of segments found.1 ∙ ap (option_map blocks_of) (slice_get-get_or segments found.1 other inside);
    read = read;
    holds = holds;
    shown = shown;
  }

  -- what is read of segments that keep their blocks is stored in these
  shows_kept : (old new : List code.Segment) (found : ScoredAddress) (hit : ℤ × Named) → KeepsSegments old new → Shows schema new found hit → Shows schema old found hit
  shows_kept old new found hit kept shows = record {
    blocks = shows.blocks;
    there = subst (λ each. slice_get each found.1 ≡ Some shows.blocks) kept.blocks shows.there;
    read = shows.read;
    holds = shows.holds;
    shown = shows.shown;
  }

  -- a hit more
  pub shows_next : (old new : List code.Segment) (best : List ScoredAddress) (i : ℕ) (other : ScoredAddress) (hits more : List (ℤ × Named)) (hit : ℤ × Named) → i < length best → more ≡ hits ++ hit ∷ [] → KeepsSegments old new → Shows schema new (get_or best i other) hit → AllZip (Shows schema old) (take i best) hits → AllZip (Shows schema old) (take (i + 1) best) more
  shows_next old new best i other hits more hit inside pushed kept shows so_far =
      subst (λ found. AllZip (Shows schema old) found more) (sym (take_next best i other inside))
      (subst (AllZip (Shows schema old) (take i best ++ get_or best i other ∷ [])) (sym pushed)
      (zip_more (Shows schema old) (take i best) (get_or best i other ∷ []) hits (hit ∷ []) so_far (shows_kept old new (get_or best i other) hit kept shows, tt)))

  -- all of them
  pub shows_whole : (old : List code.Segment) (best : List ScoredAddress) (i : ℕ) (hits : List (ℤ × Named)) → length best ≤ i → AllZip (Shows schema old) (take i best) hits → AllZip (Shows schema old) best hits
  shows_whole old best i hits over so_far = subst (λ found. AllZip (Shows schema old) found hits) (take_whole i best over) so_far
