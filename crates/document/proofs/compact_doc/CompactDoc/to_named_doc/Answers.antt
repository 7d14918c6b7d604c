use Rattle.std.proofs.Common.{ap, ◌∙◌}
use Rattle.definitions.specs.Stored.{stored_pairs}
use Rattle.document.specs.NamedDocs.{named_lists}
use Rattle.document.proofs.NamedParts.{named-by_field}
use Rattle.document.proofs.compact_doc.CompactDoc.to_named_doc.Goals as goal

pub returns : goal.returns
returns c =
    let schema = c.args.schema.now in
    c.in_ok-fields.ensures ∙ ap (named_lists schema) c.in_ok-lists.ensures.lists ∙ named-by_field schema (stored_pairs schema c.args.self.now)
