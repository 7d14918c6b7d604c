-- What is written and what is left make the whole.
use Rattle.std.proofs.Common.{◌++◌, ◌≡◌, drop, map}
use Rattle.serde_json.specs.Data.{string}
use Rattle.serde_json.specs.View.{view}
use Rattle.settings.proofs.paths_to_json.keys_to_json.Given as goal

abbrev pub invariant-loop-key : goal.invariant-loop-key
invariant-loop-key l = map view l.items.items ++ map (λ k. string k.now) (drop l.key-index l.keys) ≡ map (λ k. string k.now) l.keys
