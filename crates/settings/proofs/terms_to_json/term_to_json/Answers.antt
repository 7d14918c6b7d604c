-- A schema has nothing past its fields.
use Rattle.std.proofs.Common.{◌∙◌, ◌≤◌, ap, length, rules, sym}
use Rattle.std.specs.Option.{option_map_or}
use Rattle.std.proofs.lemmas.Option.{slice_get_past}
use Rattle.definitions.specs.TermData.{term_of_entry}
use Rattle.definitions.specs.Terms.{field_of}
use Rattle.serde_json.specs.Data.{null}
use Rattle.settings.proofs.JsonValues.{view-null}
use Rattle.settings.proofs.terms_to_json.term_to_json.Goals as goal

pub returns-then-field_id-num_fields : goal.returns-then-field_id-num_fields
returns-then-field_id-num_fields c =
    let schema = c.args.schema.now in
    let term = c.args.term.now in
    let past : length schema ≤ field_of term = search rules in
    view-null ∙ sym (ap (λ o. option_map_or (term_of_entry term) o null) (slice_get_past schema (field_of term) past))
