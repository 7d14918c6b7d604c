use Rattle.std.proofs.Common.{arith, length, rules, ◌<◌, ◌^◌, ◌≡◌}
use Rattle.definitions.specs.Values.{object}
use Rattle.document_values.specs.Held.{held_pair}
use Rattle.document_values.specs.Owned.{owned_members}
use Rattle.layouts.specs.DocumentReading.{to_members}
use Rattle.document_values.proofs.WholePairs.{whole_pair}
use Rattle.document_values.proofs.pairs.object_pair.Goals as goal

pub returns-clause-good : goal.returns-clause-good
returns-clause-good c =
    let pair = c.put_owned_members.new.out in
    let is : pair.items ≡ held_pair (c.args.field, object (to_members (owned_members c.args.members.now))) = search rules in
    let field : c.args.field < 2 ^ 32 = search rules in
    let same = pair.ok.0 in
    let room = pair.ok.1 in
    let small = pair.small in
    let short : length pair.items < 2 ^ 64 = omega (arith, same, room, small) in
    whole_pair c.args.field (object (to_members (owned_members c.args.members.now))) pair.items field c.in_ok-put_owned_members.ensures.held is short
