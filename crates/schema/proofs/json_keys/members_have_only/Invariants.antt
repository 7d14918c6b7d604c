-- What is left decides.
use Rattle.std.proofs.Common.{◌++◌, ◌≡◌, map}
use Rattle.definitions.specs.Json.{members_have_only}
use Rattle.serde_json.specs.View.{members_view}
use Rattle.schema.proofs.json_keys.members_have_only.Given as goal

abbrev pub invariant-loop-key : goal.invariant-loop-key
invariant-loop-key l = members_have_only (map (λ k. k.now) l.keys ++ map (λ k. k.now) l.further) (members_view l.key-iterator) ≡ members_have_only (map (λ k. k.now) l.keys ++ map (λ k. k.now) l.further) (members_view l.members.entries)
