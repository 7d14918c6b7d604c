use Rattle.std.proofs.Common.{arith, length, rules, ◌<◌, ◌^◌, ◌≡◌}
use Rattle.document_values.specs.Held.{held_pair}
use Rattle.document_values.specs.Owned.{owned_value}
use Rattle.document_values.proofs.WholePairs.{whole_pair}
use Rattle.document_values.proofs.pairs.owned_pair.Goals as goal

pub returns-clause-good : goal.returns-clause-good
returns-clause-good c =
    let pair = c.put_owned.new.out in
    let is : pair.items ≡ held_pair (c.args.field, owned_value c.args.value.now) = search rules in
    let field : c.args.field < 2 ^ 32 = search rules in
    let same = pair.ok.0 in
    let room = pair.ok.1 in
    let small = pair.small in
    let short : length pair.items < 2 ^ 64 = omega (arith, same, room, small) in
    whole_pair c.args.field (owned_value c.args.value.now) pair.items field c.in_ok-put_owned.ensures.held is short
