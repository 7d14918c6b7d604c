use Rattle.std.proofs.Common.{Some, rules, ◌++◌, ◌<◌, ◌^◌, ◌≡◌}
use Rattle.common.proofs.TakenBack.{u64_put}
use Rattle.definitions.specs.NumberCodes.{AreBytes, take_u64, u64_bytes}
use Rattle.inspect.proofs.records.take_length.Goals as goal

pub returns-clause-ok : goal.returns-clause-ok
returns-clause-ok c =
    let bytes = c.args.bytes.now in
    let n = c.in_ok-len.len in
    let rest = c.in_ok-len.behind.now in
    let taken : take_u64 bytes ≡ Some (n, rest) = search rules in
    let are : AreBytes bytes = search rules in
    let put : (n < 2 ^ 64) × (bytes ≡ u64_bytes n ++ rest) = u64_put bytes n rest are taken in
    (put.1, search rules)
