-- The pair of the object is the one that is added.
use Rattle.std.proofs.lemmas.Result.{on_ok_weaker}
use Rattle.definitions.specs.Reading.{json_members}
use Rattle.definitions.specs.Values.{object}
use Rattle.serde_json.specs.View.{members_view}
use Rattle.document.proofs.json_reader.add_object.Goals as goal

pub add-requires : goal.add-requires
add-requires c = ((c.args.field, object (json_members (members_view c.args.members.now.entries))), c.in_ok-pair.ensures.good, c.in_ok-pair.ensures.pair)

pub returns-clause-ok : goal.returns-clause-ok
returns-clause-ok c = on_ok_weaker c.add.result (λ added. added (c.args.field, object (json_members (members_view c.args.members.now.entries))) c.in_ok-pair.ensures.good c.in_ok-pair.ensures.pair) c.add.ensures.ok
