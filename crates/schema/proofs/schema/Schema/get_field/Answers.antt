-- Names are distinct, so the field that is found is the one of that name.
use Rattle.std.proofs.Common.{◌≡◌, ok_or, rules, subst}
use Rattle.definitions.specs.Schema.{AreDistinct, field_named}
use Rattle.definitions.specs.declared.fault.Fault.TheVariants.{FieldNotFound}
use Rattle.schema.proofs.FieldNames.{answer-exact}
use Rattle.schema.proofs.schema.Schema.get_field.Goals as goal

pub returns-clause-exact : goal.returns-clause-exact
returns-clause-exact c =
    let distinct : AreDistinct c.args.self.now = subst AreDistinct c.self.view_is c.self.invariant.distinct in
    let value : c.ok_or.result ≡ ok_or (field_named c.args.self.now c.args.name.now) FieldNotFound = search rules in
    answer-exact c.args.self.now c.args.name.now FieldNotFound c.ok_or.result distinct value
