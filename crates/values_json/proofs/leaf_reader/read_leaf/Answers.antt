-- What these types read doesn't depend on whether the field coerces. A JSON field takes objects alone.
use Rattle.std.proofs.Common.{Bool, Err, None, ap, refl, rules, sym, ◌∙◌, ◌≡◌}
use Rattle.std.proofs.lemmas.Option.{none-some}
use Rattle.definitions.specs.Reading.{read_kind}
use Rattle.definitions.specs.Schema.{json_kind}
use Rattle.definitions.specs.declared.fault.Fault.TheVariants.{TypeError}
use Rattle.terms.specs.Kinds.{kind_of}
use Rattle.serde_json.specs.Data as json
use Rattle.serde_json.specs.Find.{as_object}
use Rattle.serde_json.specs.View.{view}
use Rattle.values_json.proofs.leaf_reader.read_leaf.Goals as goal

pub returns-in-Date-clause-ok : goal.returns-in-Date-clause-ok
returns-in-Date-clause-ok c = (let at = c.read_date_or_number.ensures c.args.coerce in search rules)

pub returns-in-Date-clause-err : goal.returns-in-Date-clause-err
returns-in-Date-clause-err c = (let at = c.read_date_or_number.ensures c.args.coerce in search rules)

pub returns-in-Facet-clause-ok : goal.returns-in-Facet-clause-ok
returns-in-Facet-clause-ok c = (let at = c.read_facet_path.ensures.ok c.args.coerce in search rules)

pub returns-in-Facet-clause-err : goal.returns-in-Facet-clause-err
returns-in-Facet-clause-err c = (let at = c.read_facet_path.ensures.err c.args.coerce in search rules)

pub returns-in-Bytes-clause-ok : goal.returns-in-Bytes-clause-ok
returns-in-Bytes-clause-ok c = (let at = c.read_base64.ensures.ok c.args.coerce in search rules)

pub returns-in-Bytes-clause-err : goal.returns-in-Bytes-clause-err
returns-in-Bytes-clause-err c = (let at = c.read_base64.ensures.err c.args.coerce in search rules)

pub returns-in-IpAddr-clause-ok : goal.returns-in-IpAddr-clause-ok
returns-in-IpAddr-clause-ok c = (let at = c.read_ip_addr.ensures c.args.coerce in search rules)

pub returns-in-IpAddr-clause-err : goal.returns-in-IpAddr-clause-err
returns-in-IpAddr-clause-err c = (let at = c.read_ip_addr.ensures c.args.coerce in search rules)

no_object : (coerce : Bool) (d : json.Data) → as_object d ≡ None → read_kind json_kind coerce d ≡ Err TypeError
no_object coerce json.null none = refl
no_object coerce (json.boolean b) none = refl
no_object coerce (json.number n) none = refl
no_object coerce (json.string s) none = refl
no_object coerce (json.array ds) none = refl
no_object coerce (json.object ms) none = absurd (none-some ms (sym none))

pub returns-in-Json-clause-err : goal.returns-in-Json-clause-err
returns-in-Json-clause-err c = (let is = no_object c.args.coerce (view c.args.json.now) (c.requires.leaf (ap kind_of c.in-Json.is)) in λ other. ap (λ kind. read_kind (kind_of kind) c.args.coerce (view c.args.json.now)) c.in-Json.is ∙ is)
