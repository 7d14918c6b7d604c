-- The sets of a commit where nothing is deleted: those before, and behind them sets in which all documents are alive.
use Rattle.std.proofs.Common.{[], ◌++◌, ◌+◌, ◌∙◌, ◌∷◌, ◌≡◌, ◌≤◌, Bool, List, ap, ap₂, arith, drop, length, length-append, map, refl, replicate, subst, suc, sym, true, zero, ℕ}
use Rattle.std.proofs.lemmas.List.{drop_at, length-map}
use Rattle.std.specs.List.{AllZip}
use Rattle.definitions.proofs.Lists.{zip_length}
use Rattle.definitions.specs.Alive.{Segment}
use Rattle.definitions.specs.Analyzers.{Analyzer}
use Rattle.definitions.specs.Recorded.{holds}
use Rattle.definitions.specs.Schema.{Schema}
use Rattle.definitions.specs.Values.{Document}
use Rattle.segment.specs.Opened.{StandsFor, num_docs_of}
use Rattle.segment.specs.declared.segment.Segment as code
use Rattle.segment_definitions.proofs.Deletings.{left_end}
use Rattle.segment_definitions.specs.Rows.{flagged, left_rows}
use Rattle.segment_definitions.specs.Waiting.{numbered_rows, pending_rows}
use Rattle.segment_search.proofs.RowsRead.{docs_counted}
use Rattle.index_state.proofs.MergedGroups.{flagged_alive, flagged_both}
use Rattle.index_state.proofs.MergedLists.{zip_drop}
use Rattle.index_state.specs.CommitRecords.{LeavesRows}
use Rattle.index_state.specs.Deletions.{numbered, term_of}
use Rattle.index_state.specs.Flags.{AreFlagged, flagged_each}
use Rattle.index_state.specs.Merges.{all_alive}
use Rattle.index_state.specs.declared.deletions.Deletion.{Deletion}

-- ---- nothing is deleted

-- rows stay as they are
rows_kept : (has : List ℕ → Document → Bool) (rows : List Segment) → map (left_rows has []) rows ≡ rows
rows_kept has [] = refl
rows_kept has (row ∷ rows) = ap₂ (λ (one : Segment) more. one ∷ more) (left_end has row) (rows_kept has rows)

-- all documents of a segment are alive
numbered_all : (has : List ℕ → Document → Bool) (i n : ℕ) (docs : List Document) → n ≡ length docs → flagged docs (replicate n true) ≡ numbered_rows has [] i docs
numbered_all has i n [] e = refl
numbered_all has i zero (doc ∷ docs) e = absurd (omega (arith, e))
numbered_all has i (suc n) (doc ∷ docs) e = ap (λ rows. (doc, true) ∷ rows) (numbered_all has (suc i) n docs (omega (arith, e)))

-- and of segments
pending_all : (schema : Schema) (analyze : Analyzer) (has : List ℕ → Document → Bool) (n i : ℕ) (docs : List (List Document)) (segments : List code.Segment) → AllZip (StandsFor schema analyze) docs segments → flagged_each docs (map all_alive segments) ≡ pending_rows has [] n i docs
pending_all schema analyze has n i [] [] h = refl
pending_all schema analyze has n i [] (s ∷ segments) h = absurd h
pending_all schema analyze has n i (ds ∷ docs) [] h = absurd h
pending_all schema analyze has n i (ds ∷ docs) (s ∷ segments) h = ap₂ (λ (row : Segment) rows. row ∷ rows) (numbered_all has i (num_docs_of s) ds (sym (docs_counted schema analyze ds s h.0))) (pending_all schema analyze has n (i + n) docs segments h.1)

-- the rows of segments, and of those behind them
each_both : (docs : List (List Document)) (sets others : List (List Bool)) → length sets ≤ length docs → flagged_each docs (sets ++ others) ≡ flagged_each docs sets ++ flagged_each (drop (length sets) docs) others
each_both docs [] others l = refl
each_both [] (flags ∷ sets) others l = absurd (omega (arith, l))
each_both (ds ∷ docs) (flags ∷ sets) others l = ap (λ rows. flagged ds flags ∷ rows) (each_both docs sets others (omega (arith, l)))

-- ---- the sets

module _ (old more new : List code.Segment) (alive sets : List (List Bool)) (behind : new ≡ old ++ more) (each : length old ≡ length alive) (are : sets ≡ alive ++ map all_alive (drop (length alive) new)) where
  -- the segments behind
  later : drop (length alive) new ≡ more
  later = ap (drop (length alive)) behind ∙ drop_at old more (length alive) each

  sets_are : sets ≡ alive ++ map all_alive more
  sets_are = are ∙ ap (λ ss. alive ++ map all_alive ss) later

  -- there is a flag for each document
  pub all_flagged : AreFlagged old alive → AreFlagged new sets
  all_flagged f = subst (λ ss. AreFlagged ss sets) (sym behind) (subst (AreFlagged (old ++ more)) (sym sets_are) (flagged_both old more alive (map all_alive more) each f (flagged_alive more)))

  -- and a set for each segment
  pub all_counted : length sets ≡ length new
  all_counted =
      let whole = ap length behind in
      let segments = length-append old more in
      let same = ap length sets_are in
      let both = length-append alive (map all_alive more) in
      let last = length-map more all_alive in
      omega (arith, whole, segments, same, both, last, each)

  -- they leave all rows as they are
  pub all_left : (deletions : List Deletion) → deletions ≡ [] → LeavesRows alive deletions new sets
  all_left deletions none schema analyze n docs stands few small =
      let has = holds schema analyze in
      let k = length alive in
      let counted = zip_length (StandsFor schema analyze) docs new stands in
      let whole = ap length behind in
      let segments = length-append old more in
      let within : length alive ≤ length docs = omega (arith, counted, whole, segments, each) in
      ap (flagged_each docs) are
      ∙ each_both docs alive (map all_alive (drop k new)) within
      ∙ ap₂ (λ (olds news : List Segment). olds ++ news) (sym (rows_kept has (flagged_each docs alive))) (pending_all schema analyze has n 0 (drop k docs) (drop k new) (zip_drop (StandsFor schema analyze) docs new k stands))
      ∙ ap (λ ds. map (left_rows has (map term_of ds)) (flagged_each docs alive) ++ pending_rows has (map (numbered n) ds) n 0 (drop k docs)) (sym none)
