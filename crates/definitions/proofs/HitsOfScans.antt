-- Facts about the hits of a scan.
use Rattle.std.proofs.Common.{[], ◌+◌, ◌<◌, ◌∙◌, ◌∷◌, ◌≡◌, ◌≤◌, Bool, List, None, Option, Some, ap, arith, cond, false, filter_map, le_refl, length, map, min, option_map, refl, slice_get, suc, sym, take, true, ℕ}
use Rattle.std.specs.List.{AllByRecursion, cons_option, enumerate_from}
use Rattle.definitions.specs.Analyzers.{Analyzer}
use Rattle.definitions.specs.Matching.{matches}
use Rattle.definitions.specs.Query.{Query}
use Rattle.definitions.specs.NumberedHits.{IsOfItsDocument, IsOfOneDocument, NeverRises, PlacedHit, StandInOrder, place_of, placed_found, placed_hit, placed_scan, without_place}
use Rattle.definitions.specs.Scanning.{Hit, found, hit_of, ranked, scan, scan_count}
use Rattle.definitions.specs.Schema.{Schema}
use Rattle.definitions.specs.Scoring.{Similarity, score}
use Rattle.definitions.specs.Stored.{stored_values}
use Rattle.definitions.specs.Values.{Document}
use Rattle.definitions.proofs.Ranking.{All-ranked, All_weaker, NeverRises-ranked, NeverRises-take, PlacesRise, StandInOrder-ranked, StandInOrder-take, length-ranked, map-ranked}
use Rattle.std.proofs.lemmas.List.{length-take, take-map}
use Rattle.std.proofs.lemmas.List.Recursion.{is_count_by}
use Rattle.definitions.proofs.Lists.{all_take as All_take}

-- each document that matches gives one hit
pub length-found : (schema : Schema) (analyze : Analyzer) (sim : Similarity) (docs : List Document) (q : Query) → length (found schema analyze sim docs q) ≡ scan_count schema analyze docs q
length-found schema analyze sim docs q = is_count_by (λ docs. length (found schema analyze sim docs q)) (λ doc. matches schema analyze doc q) refl (λ doc docs. one_more (matches schema analyze doc q) (score schema analyze sim doc 1 q, stored_values schema doc) (found schema analyze sim docs q)) docs
  where
    one_more : (b : Bool) (h : Hit) (hits : List Hit) → length (cons_option (cond b (Some h) None) hits) ≡ cond b (1 + length hits) (length hits)
    one_more true h hits = omega arith
    one_more false h hits = refl

-- a scan has `k` hits, or as many as match
pub length-scan : (schema : Schema) (analyze : Analyzer) (sim : Similarity) (docs : List Document) (q : Query) (k : ℕ) → length (scan schema analyze sim docs q k) ≡ min k (scan_count schema analyze docs q)
length-scan schema analyze sim docs q k = length-take k (ranked (λ h. h.0) (found schema analyze sim docs q)) ∙ ap (λ n. min k n) (length-ranked (λ h. h.0) (found schema analyze sim docs q) ∙ length-found schema analyze sim docs q)

-- where no more match than the limit, all are hits
pub scan-all : (schema : Schema) (analyze : Analyzer) (sim : Similarity) (docs : List Document) (q : Query) (k : ℕ) → scan_count schema analyze docs q ≤ k → length (scan schema analyze sim docs q k) ≡ scan_count schema analyze docs q
scan-all schema analyze sim docs q k l = rw (length-scan schema analyze sim docs q k) (omega arith)

-- scores never rise along a scan
pub scan-never_rises : (schema : Schema) (analyze : Analyzer) (sim : Similarity) (docs : List Document) (q : Query) (k : ℕ) → NeverRises (λ h. h.0) (scan schema analyze sim docs q k)
scan-never_rises schema analyze sim docs q k = NeverRises-take (λ h. h.0) k (ranked (λ h. h.0) (found schema analyze sim docs q)) (NeverRises-ranked (λ h. h.0) (found schema analyze sim docs q))

-- ---- places

-- the places of hits are at least that of the first document
placed_after : (schema : Schema) (analyze : Analyzer) (sim : Similarity) (q : Query) (n : ℕ) (docs : List Document) → AllByRecursion (λ h. n ≤ place_of h) (filter_map (placed_hit schema analyze sim q) (enumerate_from n docs))
placed_after schema analyze sim q n [] = tt
placed_after schema analyze sim q n (doc ∷ docs) =
    let rest = All_weaker (λ h. n + 1 ≤ place_of h) (λ h. n ≤ place_of h) (λ h l. omega arith) (filter_map (placed_hit schema analyze sim q) (enumerate_from (n + 1) docs)) (placed_after schema analyze sim q (n + 1) docs) in
    elim (hit_of schema analyze sim q doc) as (λ o. AllByRecursion (λ h. n ≤ place_of h) (cons_option (option_map (λ h. (h.0, (n, h.1))) o) (filter_map (placed_hit schema analyze sim q) (enumerate_from (n + 1) docs)))) [ None ↦ rest | Some h ↦ (le_refl n, rest) ]

-- places rise in the order of the documents
places_rise : (schema : Schema) (analyze : Analyzer) (sim : Similarity) (q : Query) (n : ℕ) (docs : List Document) → PlacesRise place_of (filter_map (placed_hit schema analyze sim q) (enumerate_from n docs))
places_rise schema analyze sim q n [] = tt
places_rise schema analyze sim q n (doc ∷ docs) =
    let rest = places_rise schema analyze sim q (n + 1) docs in
    let after = All_weaker (λ h. n + 1 ≤ place_of h) (λ h. n < place_of h) (λ h l. omega arith) (filter_map (placed_hit schema analyze sim q) (enumerate_from (n + 1) docs)) (placed_after schema analyze sim q (n + 1) docs) in
    elim (hit_of schema analyze sim q doc) as (λ o. PlacesRise place_of (cons_option (option_map (λ h. (h.0, (n, h.1))) o) (filter_map (placed_hit schema analyze sim q) (enumerate_from (n + 1) docs)))) [ None ↦ rest | Some h ↦ (after, rest) ]

-- hits with one score stand in order
pub scan-in_order : (schema : Schema) (analyze : Analyzer) (sim : Similarity) (docs : List Document) (q : Query) (k : ℕ) → StandInOrder (λ h. h.0) place_of (placed_scan schema analyze sim docs q k)
scan-in_order schema analyze sim docs q k = StandInOrder-take (λ h. h.0) place_of k (ranked (λ h. h.0) (placed_found schema analyze sim docs q)) (StandInOrder-ranked (λ h. h.0) place_of (placed_found schema analyze sim docs q) (places_rise schema analyze sim q 0 docs))

-- without the places it is what was found
found_without_places : (schema : Schema) (analyze : Analyzer) (sim : Similarity) (q : Query) (n : ℕ) (docs : List Document) → map without_place (filter_map (placed_hit schema analyze sim q) (enumerate_from n docs)) ≡ found schema analyze sim docs q
found_without_places schema analyze sim q n [] = refl
found_without_places schema analyze sim q n (doc ∷ docs) =
    let rest = found_without_places schema analyze sim q (n + 1) docs in
    elim (hit_of schema analyze sim q doc) as (λ o. map without_place (cons_option (option_map (λ h. (h.0, (n, h.1))) o) (filter_map (placed_hit schema analyze sim q) (enumerate_from (n + 1) docs))) ≡ cons_option o (found schema analyze sim docs q)) [ None ↦ rest | Some h ↦ ap (λ hits. h ∷ hits) rest ]

-- without the places it is the scan
pub scan-without_places : (schema : Schema) (analyze : Analyzer) (sim : Similarity) (docs : List Document) (q : Query) (k : ℕ) → map without_place (placed_scan schema analyze sim docs q k) ≡ scan schema analyze sim docs q k
scan-without_places schema analyze sim docs q k = sym (take-map without_place k (ranked (λ h. h.0) (placed_found schema analyze sim docs q))) ∙ ap (take k) (map-ranked without_place (λ h. h.0) (λ h. h.0) (λ h. refl) (placed_found schema analyze sim docs q) ∙ ap (ranked (λ h. h.0)) (found_without_places schema analyze sim q 0 docs))

-- ---- a hit's own document

-- some element of the list gives y
abbrev GivesIt : {X Y : Type 0} → (X → Option Y) → List X → Y → Type 0
GivesIt {X} f xs y = (place : ℕ) × (x : X) × (slice_get xs place ≡ Some x) × (f x ≡ Some y)

-- each thing that a list gives is given by an element of it
all_given : {X Y : Type 0} (f : X → Option Y) (xs : List X) → AllByRecursion (GivesIt f xs) (filter_map f xs)
all_given f [] = tt
all_given {X} {Y} f (x ∷ xs) =
    let rest = All_weaker (GivesIt f xs) (GivesIt f (x ∷ xs)) (λ y g. (suc g.0, g.1, g.2, g.3)) (filter_map f xs) (all_given f xs) in
    (elim (f x) as (λ o. f x ≡ o → AllByRecursion (GivesIt f (x ∷ xs)) (cons_option o (filter_map f xs))) [ None ↦ (λ e. rest) | Some y ↦ (λ e. ((0, x, refl, e), rest)) ]) refl

-- each hit is what a document gives by itself
pub scan-of_one_document : (schema : Schema) (analyze : Analyzer) (sim : Similarity) (docs : List Document) (q : Query) (k : ℕ) → AllByRecursion (IsOfOneDocument schema analyze sim docs q) (scan schema analyze sim docs q k)
scan-of_one_document schema analyze sim docs q k = All_take _ k (ranked (λ h. h.0) (found schema analyze sim docs q)) (All-ranked _ (λ h. h.0) (found schema analyze sim docs q) (All_weaker (GivesIt (hit_of schema analyze sim q) docs) (IsOfOneDocument schema analyze sim docs q) (λ h g. (g.0, g.1, g.2, ap (λ o. take 1 (ranked (λ h. h.0) (cons_option o []))) g.3)) (found schema analyze sim docs q) (all_given (hit_of schema analyze sim q) docs)))

-- what is known of a hit among documents that are numbered from n
abbrev StandsAt : Schema → Analyzer → Similarity → Query → ℕ → List Document → PlacedHit → Type 0
StandsAt schema analyze sim q n docs h = (j : ℕ) × (doc : Document) × (place_of h ≡ n + j) × (slice_get docs j ≡ Some doc) × (hit_of schema analyze sim q doc ≡ Some (without_place h))

-- each hit stands at the place of its document
all_placed : (schema : Schema) (analyze : Analyzer) (sim : Similarity) (q : Query) (n : ℕ) (docs : List Document) → AllByRecursion (StandsAt schema analyze sim q n docs) (filter_map (placed_hit schema analyze sim q) (enumerate_from n docs))
all_placed schema analyze sim q n [] = tt
all_placed schema analyze sim q n (doc ∷ docs) =
    let left = filter_map (placed_hit schema analyze sim q) (enumerate_from (n + 1) docs) in
    let rest = All_weaker (StandsAt schema analyze sim q (n + 1) docs) (StandsAt schema analyze sim q n (doc ∷ docs)) (λ h g. let e = g.2 in (suc g.0, g.1, omega arith, g.3, g.4)) left (all_placed schema analyze sim q (n + 1) docs) in
    (elim (hit_of schema analyze sim q doc) as (λ o. hit_of schema analyze sim q doc ≡ o → AllByRecursion (StandsAt schema analyze sim q n (doc ∷ docs)) (cons_option (option_map (λ h. (h.0, (n, h.1))) o) left)) [ None ↦ (λ e. rest) | Some h ↦ (λ e. ((0, doc, omega arith, refl, e), rest)) ]) refl

-- such a hit is what its document gives by itself
alone_at_its_place : (schema : Schema) (analyze : Analyzer) (sim : Similarity) (docs : List Document) (q : Query) (h : PlacedHit) → StandsAt schema analyze sim q 0 docs h → IsOfItsDocument schema analyze sim docs q h
alone_at_its_place schema analyze sim docs q h g = let e = g.2 in let at : place_of h ≡ g.0 = omega arith in (g.1, rw at g.3, ap (λ o. take 1 (ranked (λ h. h.0) (cons_option o []))) g.4)

-- each hit's place is that of a document which gives it by itself
pub scan-of_its_document : (schema : Schema) (analyze : Analyzer) (sim : Similarity) (docs : List Document) (q : Query) (k : ℕ) → AllByRecursion (IsOfItsDocument schema analyze sim docs q) (placed_scan schema analyze sim docs q k)
scan-of_its_document schema analyze sim docs q k = All_take _ k (ranked (λ h. h.0) (placed_found schema analyze sim docs q)) (All-ranked _ (λ h. h.0) (placed_found schema analyze sim docs q) (All_weaker (StandsAt schema analyze sim q 0 docs) (IsOfItsDocument schema analyze sim docs q) (alone_at_its_place schema analyze sim docs q) (placed_found schema analyze sim docs q) (all_placed schema analyze sim q 0 docs)))
