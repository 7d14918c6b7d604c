-- The best addresses, from the best that a sink keeps.
use Rattle.std.proofs.Common.{[], Bool, List, Some, ap, arith, false, filter, get_or, if◌then◌else◌, length, map, option_map, refl, slice_get, slice_index_or, subst, suc, sym, take, true, ◌+◌, ◌++◌, ◌∙◌, ◌∷◌, ◌≡◌, ◌≤◌, ℕ}
use Rattle.std.proofs.lemmas.List.{append-nil, append_assoc, map-append, take-map}
use Rattle.std.proofs.lemmas.Option.{get_or_from_slice_get, slice_get-map, slice_get_within}
use Rattle.std.specs.List.{AllByRecursion}
use Rattle.best_k.proofs.Bests.{best_with_more}
use Rattle.best_k.proofs.Feeding.{best_falling, fed_best, fed_wanted}
use Rattle.best_k.specs.Kept.{Best, ScoredAddress, best_by, limit, living_in, score_of, taken}
use Rattle.definitions.proofs.Lists.{all_append as all_both, all_take as All_take}
use Rattle.definitions.proofs.Ranking.{All-ranked, map-ranked}
use Rattle.definitions.specs.Alive.{Segment}
use Rattle.definitions.specs.Analyzers.{Analyzer}
use Rattle.definitions.specs.Answers.{answers, living_answers}
use Rattle.definitions.specs.Merging.{documents_in}
use Rattle.definitions.specs.Query.{Query}
use Rattle.definitions.specs.NumberedHits.{NeverRises}
use Rattle.definitions.specs.Scanning.{ranked}
use Rattle.definitions.specs.Schema.{Schema}
use Rattle.definitions.specs.ScoredLists.{AreScoredFrom, ScoredList}
use Rattle.definitions.specs.Scoring.{Similarity}
use Rattle.definitions.specs.Sinks.{fed}
use Rattle.scorer_answers.specs.Rows.{HasRows, flags_in}
use Rattle.segment_definitions.specs.Found.{Place, places_from, places_in}
use Rattle.segment_reader.specs.declared.segment_reader.SegmentReader.{SegmentReader}
use Rattle.segment_search.specs.Best.{IsFound, address_of, best_addresses}

-- ---- one segment

-- the addresses of its living documents
living_addresses : (ord : ℕ) (flags : List Bool) (ps : ScoredList) → map address_of (living_in ord flags ps) ≡ map (λ p. record { segment = ord; doc = p.0; score = p.1 }) (living_answers flags ps)
living_addresses ord flags ps = each (living_answers flags ps)
  where
    each : (qs : ScoredList) → map address_of (map (λ p. (p.1, ord, p.0)) qs) ≡ map (λ p. record { segment = ord; doc = p.0; score = p.1 }) qs
    each [] = refl
    each (q ∷ qs) = ap (λ addresses. record { segment = ord; doc = q.0; score = q.1 } ∷ addresses) (each qs)

-- the addresses of the best
addresses_of_best : (k : ℕ) (hits : List ScoredAddress) → map address_of (best_by score_of k hits) ≡ best_addresses k (map address_of hits)
addresses_of_best k hits = sym (take-map address_of k (ranked score_of hits)) ∙ ap (take k) (map-ranked address_of score_of (λ p. p.score) (λ hit. refl) hits)

-- what is kept after the answers of a segment
pub segment_addresses : (schema : Schema) (analyze : Analyzer) (sim : Similarity) (q : Query) (rows : Segment) (r : SegmentReader) (b new : Best) → NeverRises score_of b.hits → length b.hits ≤ b.wanted → b.alive ≡ flags_in r → HasRows schema analyze rows r → new ≡ fed limit taken b (answers schema analyze sim 1 q (documents_in rows)) → map address_of new.hits ≡ best_addresses b.wanted (map address_of b.hits ++ places_in schema analyze sim q b.segment rows)
segment_addresses schema analyze sim q rows r b new falls few alive has is =
    let ps = answers schema analyze sim 1 q (documents_in rows) in
    let flags = alive ∙ sym has.flags_are in
    let addresses = living_addresses b.segment b.alive ps ∙ ap (λ fs. map (λ p. record { segment = b.segment; doc = p.0; score = p.1 }) (living_answers fs ps)) flags in
    ap (λ (c : Best). map address_of c.hits) is
    ∙ ap (map address_of) (fed_best b ps (record { falls = falls; few = few }))
    ∙ addresses_of_best b.wanted (b.hits ++ living_in b.segment b.alive ps)
    ∙ ap (best_addresses b.wanted) (map-append address_of b.hits (living_in b.segment b.alive ps) ∙ ap (λ more. map address_of b.hits ++ more) addresses)

-- ---- what is among the best

-- living documents of a segment are found there, with scores in range
living_found : (ord low : ℕ) (sets : List (List Bool)) (flags : List Bool) (ps : ScoredList) → slice_get sets ord ≡ Some flags → AreScoredFrom low ps → AllByRecursion (IsFound sets) (living_in ord flags ps)
living_found ord low sets flags [] at ascend = tt
living_found ord low sets flags (p ∷ ps) at ascend = go (slice_index_or flags p.0 false) refl (living_found ord (p.0 + 1) sets flags ps at ascend.3)
  where
    go : (b : Bool) → slice_index_or flags p.0 false ≡ b → AllByRecursion (IsFound sets) (living_in ord flags ps) → AllByRecursion (IsFound sets) (map (λ q. (q.1, ord, q.0)) (if b then p ∷ filter (λ q. slice_index_or flags q.0 false) ps else filter (λ q. slice_index_or flags q.0 false) ps))
    go true alive rest = ((slice_get_within sets ord flags at, ascend.2, ap (λ set. slice_index_or set p.0 false) (get_or_from_slice_get sets ord flags [] at) ∙ alive), rest)
    go false dead rest = rest

-- so is all that is kept after any documents of the segment
pub all_found : (sets : List (List Bool)) (b new : Best) (ps : ScoredList) → NeverRises score_of b.hits → length b.hits ≤ b.wanted → slice_get sets b.segment ≡ Some b.alive → AreScoredFrom 0 ps → new ≡ fed limit taken b ps → AllByRecursion (IsFound sets) b.hits → AllByRecursion (IsFound sets) new.hits
all_found sets b new ps falls few at ascend is found =
    let hits = b.hits ++ living_in b.segment b.alive ps in
    let kept : new.hits ≡ best_by score_of b.wanted hits = ap (λ (c : Best). c.hits) is ∙ fed_best b ps (record { falls = falls; few = few }) in
    subst (AllByRecursion (IsFound sets)) (sym kept) (All_take (IsFound sets) b.wanted (ranked score_of hits) (All-ranked (IsFound sets) score_of hits (all_both (IsFound sets) b.hits (living_in b.segment b.alive ps) found (living_found b.segment 0 sets b.alive ps at ascend))))

-- as many are wanted as before
pub still_wanted : (b new : Best) (ps : ScoredList) → new ≡ fed limit taken b ps → new.wanted ≡ b.wanted
still_wanted b new ps is = ap (λ (c : Best). c.wanted) is ∙ fed_wanted b ps

-- ---- segments, one by one

-- the flags at an index are those of the reader there
pub flags_there : (readers : List SegmentReader) (sets : List (List Bool)) (i : ℕ) (r : SegmentReader) (set : List Bool) → map flags_in readers ≡ sets → slice_get readers i ≡ Some r → set ≡ get_or sets i set → set ≡ flags_in r
flags_there readers sets i r set same there is =
    let told = slice_get-map flags_in readers i ∙ ap (option_map flags_in) there in
    is ∙ ap (λ all. get_or all i set) (sym same) ∙ get_or_from_slice_get (map flags_in readers) i (flags_in r) set told

-- the best so far and a segment and the rest
more_segments : (k : ℕ) (old new here rest all : List Place) → new ≡ best_addresses k (old ++ here) → best_addresses k (old ++ (here ++ rest)) ≡ best_addresses k all → best_addresses k (new ++ rest) ≡ best_addresses k all
more_segments k old new here rest all is whole = ap (λ ps. best_addresses k (ps ++ rest)) is ∙ best_with_more (λ p. p.score) k (old ++ here) rest ∙ ap (best_addresses k) (append_assoc old here rest) ∙ whole

-- the best after one segment more, with those of the segments that are left
pub after_segment : (schema : Schema) (analyze : Analyzer) (sim : Similarity) (q : Query) (k i : ℕ) (rows : Segment) (left more : List Segment) (old new all : List Place) → left ≡ rows ∷ more → new ≡ best_addresses k (old ++ places_in schema analyze sim q i rows) → best_addresses k (old ++ places_from schema analyze sim q i left) ≡ best_addresses k all → best_addresses k (new ++ places_from schema analyze sim q (i + 1) more) ≡ best_addresses k all
after_segment schema analyze sim q k i rows left more old new all is collected whole =
    let next : i + 1 ≡ suc i = omega arith in
    ap (λ n. best_addresses k (new ++ places_from schema analyze sim q n more)) next
    ∙ more_segments k old new (places_in schema analyze sim q i rows) (places_from schema analyze sim q (suc i) more) all collected (ap (λ ss. best_addresses k (old ++ places_from schema analyze sim q i ss)) (sym is) ∙ whole)

-- the best, once no segment is left
pub all_segments : (schema : Schema) (analyze : Analyzer) (sim : Similarity) (q : Query) (i k : ℕ) (left : List Segment) (b : Best) (all : List Place) → NeverRises score_of b.hits → length b.hits ≤ b.wanted → b.wanted ≡ k → left ≡ [] → best_addresses k (map address_of b.hits ++ places_from schema analyze sim q i left) ≡ best_addresses k all → map address_of b.hits ≡ best_addresses k all
all_segments schema analyze sim q i k left b all falls few wanted none whole =
    ap (map address_of) (sym (best_falling score_of b.wanted b.hits falls few))
    ∙ addresses_of_best b.wanted b.hits
    ∙ ap (λ n. best_addresses n (map address_of b.hits)) wanted
    ∙ ap (best_addresses k) (sym (append-nil (map address_of b.hits)))
    ∙ ap (λ ss. best_addresses k (map address_of b.hits ++ places_from schema analyze sim q i ss)) (sym none)
    ∙ whole
