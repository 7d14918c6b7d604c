-- What was appended, and the path of what follows, make the whole.
use Rattle.std.proofs.Common.{◌++◌, ◌≡◌, drop}
use Rattle.definitions.specs.Terms.{path_of_keys}
use Rattle.terms.specs.JsonPaths.{keys_from, keys_in}
use Rattle.terms.proofs.json_path.push_path.Given as goal

abbrev pub invariant-loop-byte : goal.invariant-loop-byte
invariant-loop-byte l = l.bytes.items ++ path_of_keys l.expand_dots (keys_from l.escaped (drop l.byte-index l.byte-items)) ≡ l.fn.bytes.items ++ path_of_keys l.expand_dots (keys_in l.path)
