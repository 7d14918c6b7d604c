-- What was read and what is left make the whole.
use Rattle.std.proofs.Common.{◌++◌, ◌≡◌, flat_map, length}
use Rattle.std.specs.List.{AllByRecursion}
use Rattle.layouts.specs.AliveSets.{alive_bytes}
use Rattle.index_file.specs.Bodies.{IsShort}
use Rattle.index_file.proofs.alive_sets_reader.take_sets.Given as goal

abbrev pub invariant-loop-i : goal.invariant-loop-i
invariant-loop-i l = record {
  each : length l.sets.items ≡ l._i;
  short : AllByRecursion IsShort l.sets.items;
  whole : l.bytes ≡ flat_map alive_bytes l.sets.items ++ l.rest;
}
