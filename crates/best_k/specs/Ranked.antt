-- What ranked hits are, and for how many they have room.
use Rattle.std.specs.Prelude.{◌++◌, List, vec_capacity, ℕ}
use Rattle.best_k.specs.Kept.{ScoredAddress, score_of}
use Rattle.best_k.specs.declared.ranked_hits.RankedHits.{RankedHits}
use Rattle.definitions.specs.Scanning.{ranked}

-- the hits, the best first
abbrev pub hits_in : RankedHits → List ScoredAddress
hits_in h = ranked score_of (h.older.items ++ h.newer.items)

-- how many fit in all without memory
abbrev pub room_for_hits : RankedHits → ℕ
room_for_hits h = vec_capacity h.older
