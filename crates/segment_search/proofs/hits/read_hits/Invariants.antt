use Rattle.std.proofs.Common.{List, drop, map, take, ◌++◌, ◌≡◌}
use Rattle.std.specs.List.{AllZip}
use Rattle.definitions.specs.Analyzers.{Analyzer}
use Rattle.definitions.specs.Values.{Document}
use Rattle.segment.specs.Opened.{StandsFor}
use Rattle.segment_search.specs.Answered.{Shows}
use Rattle.segment_search.specs.Hits.{KeepsSegments, shown_hit, shown_of}
use Rattle.segment_search.proofs.hits.read_hits.Given as goal

-- the hits so far, and behind them those of the documents that are left, are all; those so far show what is stored
abbrev pub invariant-loop-found : goal.invariant-loop-found
invariant-loop-found l = record {
  hits : (analyze : Analyzer) (docs : List (List Document)) → AllZip (StandsFor l.schema analyze) docs l.fn.segments → map (shown_hit l.schema) l.hits.items ++ map (shown_of l.schema docs) (drop l.found-index l.best) ≡ map (shown_of l.schema docs) l.best;
  shown : AllZip (Shows l.schema l.fn.segments) (take l.found-index l.best) (map (shown_hit l.schema) l.hits.items);
  kept : KeepsSegments l.fn.segments l.segments;
}
