-- What was copied and what is left make the whole.
use Rattle.std.proofs.Common.{◌++◌, ◌≡◌, drop, map}
use Rattle.serde_json.specs.View.{view}
use Rattle.shards.specs.Hits.{hits_of}
use Rattle.shards.proofs.hits.copies_of.Given as goal

abbrev pub invariant-loop-hit : goal.invariant-loop-hit
invariant-loop-hit l = map view l.copies.items ++ map (λ h. h.1) (hits_of (drop l.hit-index l.hits)) ≡ map (λ h. h.1) (hits_of l.hits)
