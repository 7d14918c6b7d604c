use Rattle.std.proofs.Common.{◌++◌, ◌≡◌, map, take}
use Rattle.definitions.specs.Terms.{path_of_keys}
use Rattle.terms.proofs.json_path.push_keys.Given as goal

abbrev pub invariant-loop-i : goal.invariant-loop-i
invariant-loop-i l = l.bytes.items ≡ l.fn.bytes.items ++ path_of_keys l.expand_dots (map (λ key. key.now) (take l.i l.keys))
