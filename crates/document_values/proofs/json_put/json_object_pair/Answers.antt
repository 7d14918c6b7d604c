use Rattle.std.proofs.Common.{arith, length, rules, ◌<◌, ◌^◌, ◌≡◌}
use Rattle.definitions.specs.Reading.{json_members}
use Rattle.definitions.specs.Values.{object}
use Rattle.document_values.specs.Held.{held_pair}
use Rattle.document_values.proofs.WholePairs.{whole_pair}
use Rattle.serde_json.specs.View.{members_view}
use Rattle.document_values.proofs.json_put.json_object_pair.Goals as goal

pub returns-clause-good : goal.returns-clause-good
returns-clause-good c =
    let pair = c.put_object.new.out in
    let value = object (json_members (members_view c.args.members.now.entries)) in
    let is : pair.items ≡ held_pair (c.args.field, value) = search rules in
    let field : c.args.field < 2 ^ 32 = search rules in
    let same = pair.ok.0 in
    let room = pair.ok.1 in
    let small = pair.small in
    let short : length pair.items < 2 ^ 64 = omega (arith, same, room, small) in
    whole_pair c.args.field value pair.items field c.in_ok-put_object.ensures.held is short
