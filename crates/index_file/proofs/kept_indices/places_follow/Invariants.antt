-- The indices that are left decide.
use Rattle.std.proofs.Common.{◌≡◌, drop, map}
use Rattle.index_file.specs.Parts.{part_of}
use Rattle.index_file.specs.Places.{places_rise}
use Rattle.index_file.proofs.kept_indices.places_follow.Given as goal

abbrev pub invariant-loop-part : goal.invariant-loop-part
invariant-loop-part l = places_rise l.least l.len_before (map part_of (drop l.part-index l.parts)) ≡ places_rise 0 l.len_before (map part_of l.parts)
