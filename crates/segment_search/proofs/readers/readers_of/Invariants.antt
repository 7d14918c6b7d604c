use Rattle.std.proofs.Common.{List, length, map, take, ◌≡◌}
use Rattle.std.specs.List.{AllZip}
use Rattle.definitions.specs.Analyzers.{Analyzer}
use Rattle.definitions.specs.Schema.{Schema}
use Rattle.definitions.specs.Values.{Document}
use Rattle.scorer_answers.specs.Rows.{HasRows, flags_in}
use Rattle.segment.specs.Opened.{StandsFor}
use Rattle.segment_search.specs.Flags.{flagged_each}
use Rattle.segment_search.proofs.readers.readers_of.Given as goal

-- the readers so far have the rows of the first segments
abbrev pub invariant-loop-index : goal.invariant-loop-index
invariant-loop-index l = record {
  rows : (schema : Schema) (analyze : Analyzer) (docs : List (List Document)) → AllZip (StandsFor schema analyze) docs l.segments → AllZip (HasRows schema analyze) (flagged_each docs (take l.index l.alive)) l.readers.items;
  flags : map flags_in l.readers.items ≡ take l.index l.alive;
  len : length l.readers.items ≡ length (take l.index l.alive);
}
