use Rattle.std.proofs.Common.{[], IsTrue, arith, ap, rules, sym, ◌++◌, ◌≡◌, ◌∙◌, ◌∷◌}
use Rattle.definitions.proofs.TermsReadBack.{first_text_term as spelled}
use Rattle.definitions.specs.Schema.{Kind}
use Rattle.definitions.specs.Terms.{term_bytes}
use Rattle.postings_tests.proofs.recorded_texts.next_start.Goals as goal

pub index_text-requires-clause-made : goal.index_text-requires-clause-made
index_text-requires-clause-made c = c.in_ok-writer.ensures.nothing.fields_are

pub index_text-requires-clause-known : goal.index_text-requires-clause-known
index_text-requires-clause-known c = λ text.
    let begins : IsTrue c.begins_with_a_text_field.result = search rules in
    let e = c.begins_with_a_text_field.ensures begins in
    let items : c.extend_from_slice.new.self.items ≡ 0 ∷ 0 ∷ 0 ∷ 0 ∷ 115 ∷ [] = search rules in
    record {
      field = 0;
      entry = e.0;
      key = text;
      fits = omega arith;
      entry_is = e.1;
      indexed = e.2;
      term_is = ap (λ xs. xs ++ text) items ∙ spelled text ∙ ap (λ (k : Kind). term_bytes 0 k text) (sym e.3);
    }
