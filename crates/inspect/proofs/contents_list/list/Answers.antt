use Rattle.std.proofs.Common.{arith, subst}
use Rattle.inspect.proofs.Damages.{long_records}
use Rattle.inspect.specs.Contents.{AreRecords}
use Rattle.inspect.proofs.contents_list.list.Goals as goal

pub damage_at-requires : goal.damage_at-requires
damage_at-requires g c =
    let (damaged, are) = subst (AreRecords c.args.bytes.now c.in_ok-records.field-0.records.items) c.in-DamagedAt.is c.in_ok-records.ensures in
    let long = long_records c.in_ok-records.field-0.records.items damaged.bodies are in
    (damaged, omega (arith, c.len-number.ensures, c.in_ok-records.field-0.records.ok, long))
