use Rattle.std.proofs.Common.{◌∷◌, ◌≡◌, flat_map, take}
use Rattle.terms.specs.Steps.{in_path}
use Rattle.terms.proofs.facet.path_bytes.Given as goal

abbrev pub invariant-loop-byte : goal.invariant-loop-byte
invariant-loop-byte l = l.bytes.items ≡ 47 ∷ flat_map in_path (take l.byte-index l.byte-items)
