-- Hits that are sorted, and the best of them.
use Rattle.std.proofs.Common.{IsSortedBy, List, ap, map, nat_lt, refl, sym, take, ◌∙◌, ◌≡◌, ℕ}
use Rattle.std.specs.Borrow.{Bor}
use Rattle.std.specs.List.Sorted.{IsStableBy}
use Rattle.std.proofs.lemmas.List.{take-map}
use Rattle.definitions.proofs.Ranking.{map-ranked}
use Rattle.definitions.proofs.StableSorts.{sorted_is_ranked}
use Rattle.definitions.specs.Scanning.{ranked}
use Rattle.serde_json.specs.View.{view}
use Rattle.serde_json.specs.declared.value.Value.{Value}
use Rattle.shards.specs.Hits.{hits_of}
use Rattle.shards.specs.Replies.{Scored, best_of}

-- a hit that is lent
abbrev Lent : Type 0
Lent = ℕ × Bor Value

-- the first of a list that is sorted by falling scores
pub best_of_sorted : (k : ℕ) (old sorted new : List Lent) → IsSortedBy (λ a b. nat_lt b.0 a.0) sorted → IsStableBy (λ a b. nat_lt b.0 a.0) old sorted → new ≡ take k sorted → hits_of new ≡ best_of k (hits_of old)
best_of_sorted k old sorted new falls stable first =
    let score : Lent → ℕ = λ h. h.0 in
    let same : sorted ≡ ranked score old = sorted_is_ranked score old sorted falls stable in
    let seen : Lent → Scored = λ h. (h.0, view h.1.now) in
    ap (map seen) (first ∙ ap (take k) same)
    ∙ sym (take-map seen k (ranked score old))
    ∙ ap (take k) (map-ranked seen score (λ h. h.0) (λ h. refl) old)
