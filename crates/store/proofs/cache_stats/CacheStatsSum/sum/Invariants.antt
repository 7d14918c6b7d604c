use Rattle.std.proofs.Common.{◌≡◌, fold}
use Rattle.store.specs.Caches.{no_stats, summed}
use Rattle.store.proofs.cache_stats.CacheStatsSum.sum.Given as goal

-- the counts of those that came
abbrev pub invariant-loop-stats : goal.invariant-loop-stats
invariant-loop-stats g l = l.sum ≡ fold summed no_stats l.yielded
