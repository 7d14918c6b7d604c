use Rattle.std.proofs.Common.{List, None, drop, map, min, take, ◌+◌, ◌++◌, ◌≡◌, ◌≤◌, ℕ}
use Rattle.std.specs.List.{AllByRecursion, AllZip}
use Rattle.best_k.specs.Contents.{best_in}
use Rattle.definitions.specs.Alive.{Segment}
use Rattle.definitions.specs.Analyzers.{Analyzer}
use Rattle.definitions.specs.Query.{term}
use Rattle.definitions.specs.Refusing.{tree_fault}
use Rattle.definitions.specs.Schema.{IndexRecordOption, Schema}
use Rattle.definitions.specs.Scoring.{Similarity}
use Rattle.scorer_answers.specs.Rows.{HasRows}
use Rattle.segment_definitions.specs.Found.{places_from}
use Rattle.segment_search.specs.Answered.{AreBest}
use Rattle.segment_search.specs.Best.{IsFound, address_of, best_addresses}
use Rattle.segment_search.specs.Counted.{IsTermQuery, blocks_decoded, greatest_count, nothing_kept}
use Rattle.segment_search.specs.CountedWeights.{CountedScoresBy, counted_query}
use Rattle.segment_search.proofs.best_of_segments.best_of_each.Given as goal

-- the best so far with those of the segments that are left
abbrev pub invariant-loop-segment_ord : goal.invariant-loop-segment_ord
invariant-loop-segment_ord g l = record {
  best : (schema : Schema) (analyze : Analyzer) (sim : Similarity) (rows : List Segment) → AllZip (HasRows schema analyze) rows l.fn.readers → CountedScoresBy g.W.LeafWeights.similarity l.fn.weight sim → tree_fault schema sim.weight 1 (counted_query l.fn.weight) ≡ None → best_addresses l.fn.limit (map address_of (best_in l.best).hits ++ places_from schema analyze sim (counted_query l.fn.weight) l.segment_ord (drop l.segment_ord rows)) ≡ best_addresses l.fn.limit (places_from schema analyze sim (counted_query l.fn.weight) 0 rows);
  limit : (best_in l.best).wanted ≡ l.fn.limit;
  found : AllByRecursion (IsFound l.fn.alive) (best_in l.best).hits;
  any : AreBest (take l.segment_ord l.fn.alive) l.fn.limit (best_in l.best).hits;
  counted : (schema : Schema) (analyze : Analyzer) (sim : Similarity) (rows : List Segment) (t : List ℕ) (option : IndexRecordOption) → AllZip (HasRows schema analyze) rows l.fn.readers → CountedScoresBy g.W.LeafWeights.similarity l.fn.weight sim → tree_fault schema sim.weight 1 (counted_query l.fn.weight) ≡ None → counted_query l.fn.weight ≡ term t option → min greatest_count (l.decoded_blocks + blocks_decoded schema analyze sim t option (best_in l.best) l.segment_ord (drop l.segment_ord rows)) ≡ min greatest_count (blocks_decoded schema analyze sim t option (nothing_kept l.fn.limit) 0 rows);
  few : l.decoded_blocks ≤ greatest_count;
  uncounted : (¬ IsTermQuery (counted_query l.fn.weight)) → l.decoded_blocks ≡ 0;
}
