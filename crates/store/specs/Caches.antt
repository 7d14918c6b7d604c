-- What a cache of opened blocks keeps, and how its look-ups are counted.
use Rattle.std.specs.Prelude.{[], ◌+◌, ◌-◌, ◌<◌, ◌^◌, ◌∷◌, ◌||◌, Bool, List, None, Option, Some, false, if◌then◌else◌, length, min, nat_eq, take, ℕ}
use Rattle.std.specs.Map.{keys_of}
use Rattle.lru.specs.LruCache.{LruCache}
use Rattle.store.specs.declared.block_cache.BlockCache.{BlockCache}
use Rattle.store.specs.declared.cache_stats.CacheStats.{CacheStats}

-- a sum, or the greatest number where that is less
abbrev pub plus : ℕ → ℕ → ℕ
plus a b = min (a + b) (2 ^ 64 - 1)

-- nothing was counted
abbrev pub no_stats : CacheStats
no_stats = record { num_entries = 0; cache_hits = 0; cache_misses = 0 }

-- the counts of two caches together
abbrev pub summed : CacheStats → CacheStats → CacheStats
summed a b = record { num_entries = plus a.num_entries b.num_entries; cache_hits = plus a.cache_hits b.cache_hits; cache_misses = plus a.cache_misses b.cache_misses }

-- the numbers of the blocks that are kept, the last looked up first, how many may be kept, and how many look-ups found
-- their block and how many didn't
pub record Kept : Type 0 where
  pub numbers : List ℕ
  pub capacity : ℕ
  pub hits : ℕ
  pub misses : ℕ

-- no block is kept yet
abbrev pub none_kept : ℕ → Kept
none_kept capacity = record { numbers = []; capacity = capacity; hits = 0; misses = 0 }

-- whether a block is kept
abbrev pub is_kept : ℕ → List ℕ → Bool
is_kept at [] = false
is_kept at (p ∷ ps) = nat_eq at p || is_kept at ps

-- the other numbers
abbrev pub others : ℕ → List ℕ → List ℕ
others at [] = []
others at (p ∷ ps) = if nat_eq at p then ps else p ∷ others at ps

-- a look-up is counted, and a block that is found goes to the front
abbrev pub looked_up : ℕ → Kept → Kept
looked_up at k = if is_kept at k.numbers then record { numbers = at ∷ others at k.numbers; capacity = k.capacity; hits = plus k.hits 1; misses = k.misses } else record { numbers = k.numbers; capacity = k.capacity; hits = k.hits; misses = plus k.misses 1 }

-- a block that was opened is kept, and those that are one too many go
abbrev pub opened : ℕ → Kept → Kept
opened at k = if is_kept at k.numbers then k else record { numbers = take k.capacity (at ∷ k.numbers); capacity = k.capacity; hits = k.hits; misses = k.misses }

-- what is told of them
abbrev pub stats_of : Kept → CacheStats
stats_of k = record { num_entries = length k.numbers; cache_hits = k.hits; cache_misses = k.misses }

-- ---- the fields of a cache

-- the kept blocks with their numbers
abbrev pub entries_in : Option (LruCache ℕ (List ℕ)) → List (ℕ × List ℕ)
entries_in None = []
entries_in (Some c) = c.entries

-- how many may be kept
abbrev pub capacity_in : Option (LruCache ℕ (List ℕ)) → ℕ
capacity_in None = 0
capacity_in (Some c) = c.cap

-- where there is a cache, it has room for a block
abbrev pub HasRoomIn : Option (LruCache ℕ (List ℕ)) → Type 0
HasRoomIn None = Unit {0}
HasRoomIn (Some c) = 0 < c.cap

-- the entries of a cache
abbrev pub entries_of : BlockCache → List (ℕ × List ℕ)
entries_of c = entries_in c.cache

-- where blocks may be kept, at least one may
abbrev pub HasRoom : BlockCache → Type 0
HasRoom c = HasRoomIn c.cache

-- a kept block more
abbrev pub kept_entries : ℕ → List ℕ → BlockCache → List (ℕ × List ℕ)
kept_entries at block c = take (capacity_in c.cache) ((at, block) ∷ entries_of c)

-- what a cache keeps
abbrev pub kept_of : BlockCache → Kept
kept_of c = record { numbers = keys_of (entries_of c); capacity = capacity_in c.cache; hits = c.hits; misses = c.misses }
