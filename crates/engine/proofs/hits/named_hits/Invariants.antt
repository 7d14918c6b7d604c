use Rattle.std.proofs.Common.{drop, map, ◌++◌, ◌≡◌}
use Rattle.engine.specs.Hits.{hit_of}
use Rattle.index_state.specs.Hits.{shown_hit}
use Rattle.engine.proofs.hits.named_hits.Given as goal

-- the hits so far, and behind them what those that are left show, are all
abbrev pub invariant-loop-hit : goal.invariant-loop-hit
invariant-loop-hit l = map hit_of l.hits.items ++ map (shown_hit l.schema) (drop l.hit-index l.found) ≡ map (shown_hit l.schema) l.found
