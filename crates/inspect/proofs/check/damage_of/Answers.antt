use Rattle.std.proofs.Common.{arith, subst, sym}
use Rattle.inspect.proofs.Damages.{long_records}
use Rattle.inspect.specs.Contents.{AreRecords}
use Rattle.inspect.specs.declared.contents.Opened.TheVariants.{Whole}
use Rattle.inspect.proofs.check.damage_of.Goals as goal

pub document_damage-requires : goal.document_damage-requires
document_damage-requires c =
    (c.args.bytes.now, subst (λ rs. AreRecords c.args.bytes.now rs (Whole c.in-Whole.file)) (sym c.deref.ensures.value) (subst (AreRecords c.args.bytes.now c.in_ok-records.field-0.records.items) c.in-Whole.is c.in_ok-records.ensures))

pub returns-in-Whole-clause-some : goal.returns-in-Whole-clause-some
returns-in-Whole-clause-some c =
    c.document_damage.ensures.some c.args.bytes.now (subst (λ rs. AreRecords c.args.bytes.now rs (Whole c.in-Whole.file)) (sym c.deref.ensures.value) (subst (AreRecords c.args.bytes.now c.in_ok-records.field-0.records.items) c.in-Whole.is c.in_ok-records.ensures))

pub returns-in-Whole-clause-none : goal.returns-in-Whole-clause-none
returns-in-Whole-clause-none c =
    let are = subst (AreRecords c.args.bytes.now c.in_ok-records.field-0.records.items) c.in-Whole.is c.in_ok-records.ensures in
    c.document_damage.ensures.none c.args.bytes.now are.0

pub damage_at-requires : goal.damage_at-requires
damage_at-requires c =
    let (damaged, are) = subst (AreRecords c.args.bytes.now c.in_ok-records.field-0.records.items) c.in-DamagedAt.is c.in_ok-records.ensures in
    let long = long_records c.in_ok-records.field-0.records.items damaged.bodies are in
    (damaged, omega (arith, c.len.ensures, c.in_ok-records.field-0.records.ok, long))
