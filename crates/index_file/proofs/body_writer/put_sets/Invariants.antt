-- What is written and what is left make the whole, and nothing is taken away.
use Rattle.std.proofs.Common.{◌++◌, ◌≡◌, ◌≤◌, flat_map, drop, length}
use Rattle.layouts.specs.AliveSets.{alive_bytes}
use Rattle.index_file.proofs.body_writer.put_sets.Given as goal

abbrev pub invariant-loop-set : goal.invariant-loop-set
invariant-loop-set l = (l.out.items ++ flat_map alive_bytes (drop l.set-index l.alive) ≡ l.fn.out.items ++ flat_map alive_bytes l.alive) × (length l.fn.out.items ≤ length l.out.items)
