-- No part so far is the segment.
use Rattle.std.proofs.Common.{map, take, ◌≡◌}
use Rattle.std.specs.List.{AllByRecursion}
use Rattle.index_file.specs.Parts.{part_of}
use Rattle.segment_definitions.specs.ListBodies.{fresh}
use Rattle.inspect.proofs.document_damage.has_fresh.Given as goal

abbrev pub invariant-loop-part : goal.invariant-loop-part
invariant-loop-part l = AllByRecursion (λ p. ¬ (p ≡ fresh l.segment)) (take l.part-index (map part_of l.parts))
