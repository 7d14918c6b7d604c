use Rattle.std.proofs.Common.{◌++◌, ◌≡◌, take}
use Rattle.definitions.specs.Terms.{key_bytes}
use Rattle.terms.proofs.json_path.push_key.Given as goal

abbrev pub invariant-loop-byte : goal.invariant-loop-byte
invariant-loop-byte l = l.bytes.items ≡ l.fn.bytes.items ++ key_bytes l.expand_dots (take l.byte-index l.byte-items)
