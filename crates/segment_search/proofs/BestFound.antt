-- The best documents that are found, as a scan of the living documents has them.
use Rattle.std.proofs.Common.{[], ◌++◌, ◌<◌, ◌∙◌, ◌∷◌, ◌≡◌, Bool, List, ap, ap₂, append_assoc, arith, false, get_or, if◌then◌else◌, length, length-append, map, refl, subst, suc, sym, true, zero, ℕ, ℤ}
use Rattle.std.proofs.Math.Seq.{get_or-append_seam}
use Rattle.std.specs.List.{AllByRecursion, AllZip}
use Rattle.definitions.proofs.Ranking.{All-ranked}
use Rattle.definitions.specs.Alive.{Segment, live}
use Rattle.definitions.specs.Analyzers.{Analyzer}
use Rattle.definitions.specs.Answers.{answers, living_answers}
use Rattle.definitions.specs.Merging.{documents_in, flags_of}
use Rattle.definitions.specs.Query.{Query}
use Rattle.definitions.specs.Scanning.{scan}
use Rattle.definitions.specs.Schema.{Schema}
use Rattle.definitions.specs.Scoring.{Similarity}
use Rattle.definitions.specs.Stored.{Named, stored_values}
use Rattle.definitions.specs.Values.{Document}
use Rattle.best_k.specs.Kept.{ScoredAddress}
use Rattle.common.proofs.FirstBits.{set_inside as set_there}
use Rattle.definitions.proofs.Lists.{all_append as all_both, all_take as All_take}
use Rattle.segment.specs.Opened.{StandsFor}
use Rattle.segment.specs.declared.segment.Segment as code
use Rattle.segment_definitions.proofs.FoundLive.{best_is_scan}
use Rattle.segment_definitions.specs.Found.{Place, places_from, places_in, shown_at}
use Rattle.segment_definitions.specs.Rows.{flagged}
use Rattle.segment_search.proofs.RowsRead.{docs_counted}
use Rattle.segment_search.specs.Flags.{AreFlagged, flagged_each}
use Rattle.segment_search.specs.Hits.{IsWithin, scored, shown_of}
use Rattle.segment_search.specs.Best.{IsFound, address_of, best_addresses}

-- ---- addresses are of documents that are there

-- living answers are at indices with flags
living_within : (flags : List Bool) (ps : List (ℕ × ℕ)) → AllByRecursion (λ p. p.0 < length flags) (living_answers flags ps)
living_within flags [] = tt
living_within flags (p ∷ ps) = go (get_or flags p.0 false) refl (living_within flags ps)
  where
    go : (b : Bool) → get_or flags p.0 false ≡ b → AllByRecursion (λ p. p.0 < length flags) (living_answers flags ps) → AllByRecursion (λ p. p.0 < length flags) (if b then p ∷ living_answers flags ps else living_answers flags ps)
    go true e rest = (set_there flags p.0 e, rest)
    go false e rest = rest

length-flags : (rows : Segment) → length (flags_of rows) ≡ length rows
length-flags [] = refl
length-flags (row ∷ rows) = ap suc (length-flags rows)

-- there is a document at the address
abbrev IsThere : List Segment → Place → Type 0
IsThere full p = p.doc < length (get_or full p.segment [])

addresses_there : (full before more : List Segment) (rows : Segment) (ps : List (ℕ × ℕ)) → full ≡ before ++ rows ∷ more → AllByRecursion (λ p. p.0 < length rows) ps → AllByRecursion (IsThere full) (map (λ p. record { segment = length before; doc = p.0; score = p.1 }) ps)
addresses_there full before more rows [] e h = tt
addresses_there full before more rows (p ∷ ps) e h =
    let here : get_or full (length before) [] ≡ rows = ap (λ xs. get_or xs (length before) []) e ∙ get_or-append_seam before rows more [] in
    (subst (λ (r : Segment). p.0 < length r) (sym here) h.0, addresses_there full before more rows ps e h.1)

module _ (schema : Schema) (analyze : Analyzer) (sim : Similarity) (q : Query) where
  all_there : (full before more : List Segment) → full ≡ before ++ more → AllByRecursion (IsThere full) (places_from schema analyze sim q (length before) more)
  all_there full before [] e = tt
  all_there full before (rows ∷ more) e =
      let n = length before in
      let found = answers schema analyze sim 1 q (documents_in rows) in
      let ps = living_answers (flags_of rows) found in
      let inside = subst (λ k. AllByRecursion (λ p. p.0 < k) ps) (length-flags rows) (living_within (flags_of rows) found) in
      let next : length (before ++ rows ∷ []) ≡ suc n = length-append before (rows ∷ []) ∙ omega arith in
      let others = all_there full (before ++ rows ∷ []) more (e ∙ sym (append_assoc before (rows ∷ []) more)) in
      all_both (IsThere full) (places_in schema analyze sim q n rows) (places_from schema analyze sim q (suc n) more) (addresses_there full before more rows ps e inside) (subst (λ m. AllByRecursion (IsThere full) (places_from schema analyze sim q m more)) next others)

  -- the best too
  pub best_there : (rows : List Segment) (k : ℕ) → AllByRecursion (IsThere rows) (best_addresses k (places_from schema analyze sim q 0 rows))
  best_there rows k =
      let addresses = places_from schema analyze sim q 0 rows in
      All_take (IsThere rows) k _ (All-ranked (IsThere rows) (λ p. p.score) addresses (all_there rows [] rows refl))

-- ---- documents of rows

-- rows as long as their documents
row_document : (docs : List Document) (flags : List Bool) (j : ℕ) → length flags ≡ length docs → (get_or (flagged docs flags) j ([], false)).0 ≡ get_or docs j []
row_document [] flags j e = refl
row_document (doc ∷ docs) [] j e = absurd (omega (arith, e))
row_document (doc ∷ docs) (flag ∷ flags) zero e = refl
row_document (doc ∷ docs) (flag ∷ flags) (suc j) e = row_document docs flags j (omega (arith, e))

length-flagged : (docs : List Document) (flags : List Bool) → length flags ≡ length docs → length (flagged docs flags) ≡ length docs
length-flagged [] flags e = refl
length-flagged (doc ∷ docs) [] e = absurd (omega (arith, e))
length-flagged (doc ∷ docs) (flag ∷ flags) e = ap suc (length-flagged docs flags (omega (arith, e)))

module _ (schema : Schema) (analyze : Analyzer) where
  -- the document of a row of one of the segments with flags
  each_document : (docs : List (List Document)) (segments : List code.Segment) (sets : List (List Bool)) (i j : ℕ) → AllZip (StandsFor schema analyze) docs segments → AreFlagged segments sets → i < length sets → (get_or (get_or (flagged_each docs sets) i []) j ([], false)).0 ≡ get_or (get_or docs i []) j []
  each_document docs segments [] i j h f l = absurd (omega (arith, l))
  each_document docs [] (flags ∷ sets) i j h f l = absurd f
  each_document [] (s ∷ segments) (flags ∷ sets) i j h f l = absurd h
  each_document (ds ∷ docs) (s ∷ segments) (flags ∷ sets) zero j h f l = row_document ds flags j (f.0 ∙ sym (docs_counted schema analyze ds s h.0))
  each_document (ds ∷ docs) (s ∷ segments) (flags ∷ sets) (suc i) j h f l = each_document docs segments sets i j h.1 f.1 (omega (arith, l))

  each_length : (docs : List (List Document)) (segments : List code.Segment) (sets : List (List Bool)) (i : ℕ) → AllZip (StandsFor schema analyze) docs segments → AreFlagged segments sets → i < length sets → length (get_or (flagged_each docs sets) i []) ≡ length (get_or docs i [])
  each_length docs segments [] i h f l = absurd (omega (arith, l))
  each_length docs [] (flags ∷ sets) i h f l = absurd f
  each_length [] (s ∷ segments) (flags ∷ sets) i h f l = absurd h
  each_length (ds ∷ docs) (s ∷ segments) (flags ∷ sets) zero h f l = length-flagged ds flags (f.0 ∙ sym (docs_counted schema analyze ds s h.0))
  each_length (ds ∷ docs) (s ∷ segments) (flags ∷ sets) (suc i) h f l = each_length docs segments sets i h.1 f.1 (omega (arith, l))

  module _ (docs : List (List Document)) (segments : List code.Segment) (sets : List (List Bool)) (stands : AllZip (StandsFor schema analyze) docs segments) (flagged_are : AreFlagged segments sets) where
    -- what is shown of documents is what is shown of their addresses
    each_shown : (best : List ScoredAddress) → AllByRecursion (IsFound sets) best → map (shown_of schema docs) best ≡ map scored (map (shown_at schema (flagged_each docs sets)) (map address_of best))
    each_shown [] found = refl
    each_shown (m ∷ best) found =
        let same = each_document docs segments sets m.1 m.2 stands flagged_are found.0.0 in
        ap₂ (λ (doc : Document) (hits : List (ℤ × Named)). scored (m.0, stored_values schema doc) ∷ hits) (sym same) (each_shown best found.1)

    -- there are such documents
    each_within : (best : List ScoredAddress) → AllByRecursion (IsFound sets) best → AllByRecursion (IsThere (flagged_each docs sets)) (map address_of best) → AllByRecursion (IsWithin docs) best
    each_within [] found there = tt
    each_within (m ∷ best) found there =
        let same = each_length docs segments sets m.1 stands flagged_are found.0.0 in
        (subst (λ n. m.2 < n) same there.0, each_within best found.1 there.1)

    module _ (sim : Similarity) (q : Query) (k : ℕ) (best : List ScoredAddress) (found : AllByRecursion (IsFound sets) best) (is : map address_of best ≡ best_addresses k (places_from schema analyze sim q 0 (flagged_each docs sets))) where
      -- the best documents, shown, are a scan of the living ones
      pub best_scanned : map (shown_of schema docs) best ≡ map scored (scan schema analyze sim (live (flagged_each docs sets)) q k)
      best_scanned = each_shown best found ∙ ap (λ ps. map scored (map (shown_at schema (flagged_each docs sets)) ps)) is ∙ ap (map scored) (best_is_scan schema analyze sim q (flagged_each docs sets) k)

      -- and they are there
      pub best_within : AllByRecursion (IsWithin docs) best
      best_within = each_within best found (subst (AllByRecursion (IsThere (flagged_each docs sets))) (sym is) (best_there schema analyze sim q (flagged_each docs sets) k))
