-- What is left decides.
use Rattle.std.proofs.Common.{◌≡◌, bytes_eq, drop, map}
use Rattle.std.specs.List.{list_any}
use Rattle.schema.proofs.json_keys.is_one_of.Given as goal

abbrev pub invariant-loop-other : goal.invariant-loop-other
invariant-loop-other l = list_any (bytes_eq l.key) (map (λ k. k.now) (drop l.other-index l.keys)) ≡ list_any (bytes_eq l.key) (map (λ k. k.now) l.keys)
