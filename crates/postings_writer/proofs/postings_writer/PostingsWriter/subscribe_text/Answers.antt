use Rattle.std.proofs.Common.{◌++◌, ◌≡◌, ◌∙◌, ap, arith, length}
use Rattle.definitions.specs.Terms.{field_of}
use Rattle.postings_writer.proofs.Standing.{field_before, payload_behind}
use Rattle.postings_writer.proofs.postings_writer.PostingsWriter.subscribe_text.Goals as goal

pub record-requires-clause-known : goal.record-requires-clause-known
record-requires-clause-known c =
    let prefix = c.args.term_buffer.now.items in
    let five : length prefix ≡ 5 = (let same = c.if-prefix_len-eq-HEADER_LEN.true in let len = c.len-prefix_len.ensures in omega (arith, same, len)) in
    (prefix ++ c.args.text.now, c.requires.known, c.field_of.ensures ∙ ap field_of c.deref.ensures.value ∙ field_before prefix c.args.text.now five, payload_behind prefix c.args.text.now five)

pub returns-then-prefix_len-eq-HEADER_LEN-clause-ok : goal.returns-then-prefix_len-eq-HEADER_LEN-clause-ok
returns-then-prefix_len-eq-HEADER_LEN-clause-ok c os stands =
    let prefix = c.args.term_buffer.now.items in
    let five : length prefix ≡ 5 = (let same = c.if-prefix_len-eq-HEADER_LEN.true in let len = c.len-prefix_len.ensures in omega (arith, same, len)) in
    c.record.ensures.ok (prefix ++ c.args.text.now) os c.requires.known (c.field_of.ensures ∙ ap field_of c.deref.ensures.value ∙ field_before prefix c.args.text.now five) (payload_behind prefix c.args.text.now five) stands

pub returns-then-prefix_len-eq-HEADER_LEN-clause-err : goal.returns-then-prefix_len-eq-HEADER_LEN-clause-err
returns-then-prefix_len-eq-HEADER_LEN-clause-err c os stands =
    let prefix = c.args.term_buffer.now.items in
    let five : length prefix ≡ 5 = (let same = c.if-prefix_len-eq-HEADER_LEN.true in let len = c.len-prefix_len.ensures in omega (arith, same, len)) in
    c.record.ensures.err (prefix ++ c.args.text.now) os c.requires.known (c.field_of.ensures ∙ ap field_of c.deref.ensures.value ∙ field_before prefix c.args.text.now five) (payload_behind prefix c.args.text.now five) stands
