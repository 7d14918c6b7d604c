use Rattle.std.proofs.Common.{Some, ap, codes, option_map, sym, ◌++◌, ◌∙◌}
use Rattle.std.proofs.lemmas.Option.{same_Some}
use Rattle.std.specs.Prelude.{slice_get}
use Rattle.definitions.specs.Stored.{stored_values}
use Rattle.inspect.proofs.Mapped.{mapped}
use Rattle.inspect.proofs.ReadBack.Documents.{document_back}
use Rattle.inspect.specs.Lines.{add_line, document_text}
use Rattle.inspect.proofs.dump.line_of.Goals as goal

pub returns-clause-line : goal.returns-clause-line
returns-clause-line c analyze docs stands =
    let begun = c.in_ok-line.ensures.ok in
    let values = c.deref.ensures ∙ c.in_ok-values.ensures in
    let text = c.in_ok-push_str-2.ensures.bytes ∙ ap (λ b. b ++ codes "}") (c.in_ok-push_str.ensures.bytes ∙ ap (λ b. b ++ c.deref.result.now) begun ∙ ap (λ v. codes "{\"op\":\"add\",\"doc\":" ++ v) values) in
    mapped (stored_values c.args.schema.now) add_line (slice_get docs c.args.doc) _ (c.in_ok-stored.ensures.shown analyze docs stands) ∙ ap Some (sym text)

pub returns-clause-read : goal.returns-clause-read
returns-clause-read c analyze docs stands d at given =
    let schema = c.args.schema.now in
    let back = document_back schema d given in
    let line = ap (option_map (λ d. add_line (stored_values schema d))) (sym at) ∙ returns-clause-line c analyze docs stands in
    (document_text (stored_values schema d), back.0, sym (same_Some _ _ line), back.1, back.2)
