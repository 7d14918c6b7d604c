-- What a `BestK` keeps, and how much more it has room for.
use Rattle.std.specs.Prelude.{[], ◌+◌, ◌-◌, ◌^◌, if◌then◌else◌, length, nat_le, ℕ}
use Rattle.std.specs.Option.{option_map_or}
use Rattle.best_k.specs.Kept.{Best}
use Rattle.best_k.specs.Ranked.{hits_in, room_for_hits}
use Rattle.best_k.specs.declared.best_k.BestK.{BestK}

-- what it keeps; before the first segment no document is alive
abbrev pub best_in : BestK → Best
best_in b = record { hits = hits_in b.hits; wanted = b.wanted; segment = b.segment; alive = option_map_or (λ flags. flags.now) b.alive [] }

-- how many more are taken without memory: any number, once there is room for all that are wanted
abbrev pub room_left : ℕ → ℕ → ℕ → ℕ
room_left wanted capacity len = if nat_le wanted capacity then 2 ^ 64 + wanted else capacity - len

-- the room for more documents
abbrev pub room_in : BestK → ℕ
room_in b = room_left b.wanted (room_for_hits b.hits) (length (hits_in b.hits))
