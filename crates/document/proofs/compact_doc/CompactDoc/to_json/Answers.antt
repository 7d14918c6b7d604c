-- What is written is the object of the stored fields alone.
use Rattle.std.proofs.Common.{◌∙◌, ap}
use Rattle.definitions.specs.Printed.{printed_named}
use Rattle.definitions.specs.Stored.{stored_values}
use Rattle.document.proofs.WrittenTokens.{whole_text}
use Rattle.document.proofs.compact_doc.CompactDoc.to_json.Goals as goal

pub returns : goal.returns
returns c =
    let written = c.write_json.new.out in
    ap (λ v. v.items) c.from_utf8_unchecked.ensures.value
    ∙ whole_text c.into_inner.result.items written.before c.new-out.result.tokens written.tokens (printed_named (stored_values c.args.schema.now c.args.self.now)) c.into_inner.ensures.items (c.write_json.ensures.before ∙ c.new-out.ensures.before ∙ c.new.ensures.items) c.in_ok-write_json.ensures.ok c.new-out.ensures.tokens
