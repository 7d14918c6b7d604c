use Rattle.std.proofs.Common.{map, take, ◌++◌, ◌≡◌}
use Rattle.store.specs.Stacking.{shifted}
use Rattle.store.proofs.stacked_blocks.put_shifted.Given as goal

-- those that came were put
abbrev pub invariant-loop-reach : goal.invariant-loop-reach
invariant-loop-reach l = l.out.items ≡ l.fn.out.items ++ map (shifted l.docs l.bytes) (take l.reach-index l.reaches)
