-- The kind and the option of the field's type are those of its entry.
use Rattle.std.proofs.Common.{rules, ◌≡◌}
use Rattle.definitions.specs.Reading as reading
use Rattle.terms.specs.Kinds.{kind_of}
use Rattle.serde_json.specs.View.{view}
use Rattle.document.proofs.json_reader.read_plain.Goals as goal

pub returns-clause-err : goal.returns-clause-err
returns-clause-err c =
    let same : reading.read_value c.args.entry.now (view c.args.json.now) ≡ reading.read_kind (kind_of c.value_type.result) c.coerces.result (view c.args.json.now) = search rules in
    rw same c.read_leaf.ensures.err
