-- What is listed, and what is left.
use Rattle.std.proofs.Common.{◌++◌, ◌+◌, ◌∷◌, ◌≡◌, List, length, map, ℕ}
use Rattle.inspect.proofs.Listed.{IsListedTo}
use Rattle.inspect.proofs.records.records_before.Given as goal
use Rattle.inspect.specs.Records.{gate_and_body}
use Rattle.layouts.specs.RecordFiles.{AreShort, records}

abbrev pub invariant-loop-gate : goal.invariant-loop-gate
invariant-loop-gate l = record {
  listed : (bodies : List (List ℕ)) (byte : ℕ) (tail : List ℕ) → l.bytes ≡ records bodies ++ byte ∷ tail → AreShort bodies → l.end ≡ length (records bodies) → IsListedTo bodies byte tail l.gate (map gate_and_body l.records.items) l.rest;
  within : l.gate + length l.rest ≡ length l.bytes;
}

abbrev pub decreases-loop-gate : goal.decreases-loop-gate
decreases-loop-gate l = length l.rest
