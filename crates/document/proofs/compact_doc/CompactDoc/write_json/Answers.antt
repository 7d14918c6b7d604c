-- The fields with a list that isn't empty are those that the definition names.
use Rattle.std.proofs.Common.{OnOk, ap, subst, ◌++◌, ◌∙◌, ◌≡◌}
use Rattle.definitions.specs.Printed.{printed_fields}
use Rattle.definitions.specs.Stored.{stored_pairs}
use Rattle.document.specs.NamedDocs.{named_lists}
use Rattle.document.proofs.NamedParts.{named-by_field}
use Rattle.json.specs.Tree.{json_tokens}
use Rattle.serde_json.specs.Data.{object}
use Rattle.serde_json.specs.Written.{outline}
use Rattle.document.proofs.compact_doc.CompactDoc.write_json.Goals as goal

pub returns-clause-ok : goal.returns-clause-ok
returns-clause-ok c =
    let schema = c.args.schema.now in
    let named = ap (named_lists schema) c.in_ok-lists.ensures.lists ∙ named-by_field schema (stored_pairs schema c.args.self.now) in
    subst (λ ms. OnOk c.write_fields.result (c.write_fields.new.out.tokens ≡ c.args.out.now.tokens ++ json_tokens (outline (object ms)))) (c.in_ok-by_name.ensures ∙ ap printed_fields named) c.write_fields.ensures.ok
