-- What is written and what is left make the whole.
use Rattle.std.proofs.Common.{◌++◌, ◌≡◌, drop, map}
use Rattle.definitions.specs.Replies.{number_data}
use Rattle.serde_json.specs.View.{view}
use Rattle.settings.proofs.json_settings.norms_to_json.Given as goal

abbrev pub invariant-loop-norm : goal.invariant-loop-norm
invariant-loop-norm l = map view l.items.items ++ map number_data (drop l.norm-index l.norms) ≡ map number_data l.norms
