-- What documents that are fed leave among the best.
use Rattle.std.proofs.Common.{[], Bool, List, ap, arith, false, if◌then◌else◌, le-leb, le_refl, le_trans, length, map, nat_lt, refl, slice_index_or, subst, suc, sym, take, true, zero, ◌++◌, ◌∙◌, ◌∷◌, ◌≡◌, ◌≤◌, ℕ}
use Rattle.std.specs.Prelude.{filter, int_lt, negsuc, pos}
use Rattle.std.specs.List.{AllByRecursion}
use Rattle.std.proofs.lemmas.Bool.Decides.{nat_tests}
use Rattle.std.proofs.lemmas.List.{append-nil, append_assoc}
use Rattle.definitions.specs.Blocks.{least_of}
use Rattle.definitions.specs.NumberedHits.{NeverRises}
use Rattle.definitions.specs.ScoredLists.{ScoredList}
use Rattle.definitions.specs.Sinks.{fed}
use Rattle.best_k.proofs.Bests.{best_falls, best_inserted, best_with_more, insert_last}
use Rattle.best_k.specs.Kept.{Best, best_by, ScoredAddress, hits_with, least_kept, limit, living_in, score_of, taken}
use Rattle.definitions.proofs.Lists.{take_whole}
use Rattle.definitions.proofs.Ranking.{ranked_falling}

-- ---- what is not better than `k` others isn't among the best

pub take_at_most : {X : Type 0} (k : ℕ) (xs : List X) → length (take k xs) ≤ k
take_at_most zero xs = omega arith
take_at_most (suc k) [] = omega arith
take_at_most (suc k) (x ∷ xs) = (let ih = take_at_most k xs in omega (arith, ih))

goes_last : {X : Type 0} (key : X → ℕ) (t : ℕ) (y : X) → key y ≤ t → (zs : List X) → AllByRecursion (λ z. t ≤ key z) zs → take (length zs) (insert_last key y zs) ≡ zs
goes_last key t y l [] h = refl
goes_last key t y l (z ∷ zs) h = rw (le-leb (key y) (key z) (le_trans l h.0)) (ap (λ ws. z ∷ ws) (goes_last key t y l zs h.1))

-- what falls, and isn't more than `k`, is its own best
pub best_falling : {X : Type 0} (key : X → ℕ) (k : ℕ) (xs : List X) → NeverRises key xs → length xs ≤ k → best_by key k xs ≡ xs
best_falling key k xs falls few = ap (take k) (ranked_falling key xs falls) ∙ take_whole k xs few

pub not_better : {X : Type 0} (key : X → ℕ) (t : ℕ) (y : X) (xs : List X) → NeverRises key xs → AllByRecursion (λ z. t ≤ key z) xs → key y ≤ t → best_by key (length xs) (xs ++ y ∷ []) ≡ xs
not_better key t y xs falls all l =
    let whole = best_falling key (length xs) xs falls (omega arith) in
    best_inserted key (length xs) xs y ∙ (ap (λ ws. take (length xs) (insert_last key y ws)) whole ∙ goes_last key t y l xs all)

-- ---- the least that is kept

above_least : (m : ℕ) (hs : List ScoredAddress) → m ≤ least_of (map score_of hs) → AllByRecursion (λ h. m ≤ score_of h) hs
above_least m [] l = tt
above_least m (h ∷ []) l = (l, tt)
above_least m (h ∷ g ∷ hs) l = (omega (arith, l), above_least m (g ∷ hs) (omega (arith, l)))

pub all_kept : (hs : List ScoredAddress) → AllByRecursion (λ h. least_kept hs ≤ score_of h) hs
all_kept [] = tt
all_kept (h ∷ hs) = above_least (least_of (map score_of (h ∷ hs))) (h ∷ hs) (le_refl (least_of (map score_of (h ∷ hs))))

-- ---- one document

-- what is kept stays `wanted` at most, the best first
pub record IsBest (b : Best) : Type 0 where
  pub falls : NeverRises score_of b.hits
  pub few : length b.hits ≤ b.wanted

kept_best : (b : Best) (p : ℕ × ℕ) → IsBest (record b { hits = hits_with b p })
kept_best b p = record { falls = best_falls score_of b.wanted (b.hits ++ (p.1, b.segment, p.0) ∷ []); few = take_at_most b.wanted _ }

taken_best : (b : Best) (p : ℕ × ℕ) → IsBest b → IsBest (taken b p)
taken_best b p is = elim (slice_index_or b.alive p.0 false) as (λ a. IsBest (if a then record b { hits = hits_with b p } else b)) [ true ↦ kept_best b p | false ↦ is ]

-- a score up to the limit changes nothing
passed_over : (b : Best) (p : ℕ × ℕ) → IsBest b → int_lt (limit b) (pos p.1) ≡ false → taken b p ≡ b
passed_over b p is low = go (slice_index_or b.alive p.0 false)
  where
    full : (more : Bool) → nat_lt (length b.hits) b.wanted ≡ more → int_lt (if more then negsuc 0 else pos (least_kept b.hits)) (pos p.1) ≡ false → hits_with b p ≡ b.hits
    full true e l = absurd (cc)
    full false e l =
        let few = is.few in
        let many : length b.hits ≡ b.wanted = grind (arith, nat_tests) in
        let test : nat_lt (least_kept b.hits) p.1 ≡ false = l in
        let low : p.1 ≤ least_kept b.hits = grind (arith, nat_tests) in
        ap (λ k. best_by score_of k (b.hits ++ (p.1, b.segment, p.0) ∷ [])) (sym many) ∙ not_better score_of (least_kept b.hits) (p.1, b.segment, p.0) b.hits is.falls (all_kept b.hits) low

    go : (a : Bool) → (if a then record b { hits = hits_with b p } else b) ≡ b
    go true = ap (λ hs. record b { hits = hs }) (full (nat_lt (length b.hits) b.wanted) refl low)
    go false = refl

one_more : (b : Best) (p : ℕ × ℕ) (ps : ScoredList) → IsBest b → best_by score_of b.wanted ((taken b p).hits ++ living_in b.segment b.alive ps) ≡ best_by score_of b.wanted (b.hits ++ living_in b.segment b.alive (p ∷ ps))
one_more b p ps is = go (slice_index_or b.alive p.0 false)
  where
    go : (a : Bool) → best_by score_of b.wanted ((if a then record b { hits = hits_with b p } else b).hits ++ living_in b.segment b.alive ps) ≡ best_by score_of b.wanted (b.hits ++ map (λ q. (q.1, b.segment, q.0)) (if a then p ∷ filter (λ q. slice_index_or b.alive q.0 false) ps else filter (λ q. slice_index_or b.alive q.0 false) ps))
    go false = refl
    go true = best_with_more score_of b.wanted (b.hits ++ (p.1, b.segment, p.0) ∷ []) (living_in b.segment b.alive ps) ∙ ap (best_by score_of b.wanted) (append_assoc b.hits ((p.1, b.segment, p.0) ∷ []) (living_in b.segment b.alive ps))

same_sink : (b : Best) (p : ℕ × ℕ) → ((taken b p).wanted ≡ b.wanted) × ((taken b p).segment ≡ b.segment) × ((taken b p).alive ≡ b.alive)
same_sink b p = go (slice_index_or b.alive p.0 false)
  where
    go : (a : Bool) → ((if a then record b { hits = hits_with b p } else b).wanted ≡ b.wanted) × ((if a then record b { hits = hits_with b p } else b).segment ≡ b.segment) × ((if a then record b { hits = hits_with b p } else b).alive ≡ b.alive)
    go true = (refl, refl, refl)
    go false = (refl, refl, refl)

abbrev after : Best → ScoredList → Best
after b ps = fed limit taken b ps

-- likewise whether it was taken or passed over
step : (b : Best) (p : ℕ × ℕ) (ps : ScoredList) → IsBest b → (after (taken b p) ps).hits ≡ best_by score_of (taken b p).wanted ((taken b p).hits ++ living_in (taken b p).segment (taken b p).alive ps) → (after b (p ∷ ps)).hits ≡ best_by score_of b.wanted (b.hits ++ living_in b.segment b.alive (p ∷ ps))
step b p ps is ih = go (int_lt (limit b) (pos p.1)) refl
  where
    on : (after (taken b p) ps).hits ≡ best_by score_of b.wanted (b.hits ++ living_in b.segment b.alive (p ∷ ps))
    on =
        let it = same_sink b p in
        ih ∙ (ap (λ k. best_by score_of k ((taken b p).hits ++ living_in (taken b p).segment (taken b p).alive ps)) it.0
        ∙ (ap (λ n. best_by score_of b.wanted ((taken b p).hits ++ living_in n (taken b p).alive ps)) it.1
        ∙ (ap (λ fs. best_by score_of b.wanted ((taken b p).hits ++ living_in b.segment fs ps)) it.2
        ∙ one_more b p ps is)))

    go : (a : Bool) → int_lt (limit b) (pos p.1) ≡ a → (after (if a then taken b p else b) ps).hits ≡ best_by score_of b.wanted (b.hits ++ living_in b.segment b.alive (p ∷ ps))
    go true e = on
    go false e = subst (λ (c : Best). (after c ps).hits ≡ best_by score_of b.wanted (b.hits ++ living_in b.segment b.alive (p ∷ ps))) (passed_over b p is e) on

-- ---- documents in order

-- what a sink keeps that was fed is the best of what it kept and of the living documents
pub fed_best : (b : Best) (ps : ScoredList) → IsBest b → (fed limit taken b ps).hits ≡ best_by score_of b.wanted (b.hits ++ living_in b.segment b.alive ps)
fed_best b [] is = sym (ap (best_by score_of b.wanted) (append-nil b.hits) ∙ best_falling score_of b.wanted b.hits is.falls is.few)
fed_best b (p ∷ ps) is = step b p ps is (fed_best (taken b p) ps (taken_best b p is))

pub fed_wanted : (b : Best) (ps : ScoredList) → (fed limit taken b ps).wanted ≡ b.wanted
fed_wanted b [] = refl
fed_wanted b (p ∷ ps) = go (int_lt (limit b) (pos p.1)) (fed_wanted (taken b p) ps) (fed_wanted b ps)
  where
    go : (a : Bool) → (fed limit taken (taken b p) ps).wanted ≡ (taken b p).wanted → (fed limit taken b ps).wanted ≡ b.wanted → (fed limit taken (if a then taken b p else b) ps).wanted ≡ b.wanted
    go true one other = one ∙ (same_sink b p).0
    go false one other = other
