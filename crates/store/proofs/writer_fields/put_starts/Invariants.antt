use Rattle.std.proofs.Common.{◌++◌, ◌≡◌, flat_map, take}
use Rattle.definitions.specs.NumberCodes.{u32_bytes}
use Rattle.store.proofs.writer_fields.put_starts.Given as goal

abbrev pub invariant-loop-start : goal.invariant-loop-start
invariant-loop-start l = l.out.items ≡ l.fn.out.items ++ flat_map u32_bytes (take l.start-index l.starts)
