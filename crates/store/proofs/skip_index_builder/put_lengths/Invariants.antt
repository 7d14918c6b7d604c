use Rattle.std.proofs.Common.{◌++◌, ◌≡◌, flat_map, length, take}
use Rattle.definitions.specs.NumberCodes.{vint_bytes}
use Rattle.store.proofs.skip_index_builder.put_lengths.Given as goal

abbrev pub invariant-loop-length : goal.invariant-loop-length
invariant-loop-length l = l.out.items ≡ l.fn.out.items ++ (vint_bytes (length l.lengths) ++ flat_map vint_bytes (take l.length-index l.lengths))
