use Rattle.std.proofs.Common.{◌++◌, ◌≡◌, flat_map, take}
use Rattle.layouts.specs.Stores.{extent_bytes}
use Rattle.store.proofs.groups.put_extents.Given as goal

abbrev pub invariant-loop-reach : goal.invariant-loop-reach
invariant-loop-reach l = l.out.items ≡ l.fn.out.items ++ flat_map extent_bytes (take l.reach-index l.group)
