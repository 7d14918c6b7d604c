-- Counts of look-ups.
use Rattle.std.proofs.Common.{ℕ, ◌≡◌, ◌+◌, ◌<◌, ◌^◌, ◌∷◌, Bool, true, false, cond, ap, ap₂, ◌∙◌, arith}
use Rattle.store.specs.Caches.{Kept, is_kept, looked_up, others, plus, summed}
use Rattle.store.specs.declared.cache_stats.CacheStats.{CacheStats}

pub counted : (at : ℕ) (k : Kept) → k.hits + 1 < 2 ^ 64 → k.misses + 1 < 2 ^ 64 → (looked_up at k).hits + (looked_up at k).misses ≡ k.hits + k.misses + 1
counted at k f1 f2 = go (is_kept at k.numbers)
  where
    hit : Kept
    hit = record { numbers = at ∷ others at k.numbers; capacity = k.capacity; hits = plus k.hits 1; misses = k.misses }

    miss : Kept
    miss = record { numbers = k.numbers; capacity = k.capacity; hits = k.hits; misses = plus k.misses 1 }

    go : (b : Bool) → (cond b hit miss).hits + (cond b hit miss).misses ≡ k.hits + k.misses + 1
    go true = omega arith
    go false = omega arith

abbrev stats_with : ℕ → ℕ → ℕ → CacheStats
stats_with l m n = record { num_entries = l; cache_hits = m; cache_misses = n }

same_stats : {a b c x y z : ℕ} → a ≡ x → b ≡ y → c ≡ z → stats_with a b c ≡ stats_with x y z
same_stats {c = c} {x = x} {y = y} e f g = ap₂ (λ l m. stats_with l m c) e f ∙ ap (stats_with x y) g

plus_order : (a b : ℕ) → plus a b ≡ plus b a
plus_order a b = omega arith

plus_groups : (a b c : ℕ) → plus (plus a b) c ≡ plus a (plus b c)
plus_groups a b c = omega arith

pub in_order : (a b : CacheStats) → summed a b ≡ summed b a
in_order a b = same_stats (plus_order a.num_entries b.num_entries) (plus_order a.cache_hits b.cache_hits) (plus_order a.cache_misses b.cache_misses)

pub in_groups : (a b c : CacheStats) → summed (summed a b) c ≡ summed a (summed b c)
in_groups a b c = same_stats (plus_groups a.num_entries b.num_entries c.num_entries) (plus_groups a.cache_hits b.cache_hits c.cache_hits) (plus_groups a.cache_misses b.cache_misses c.cache_misses)
