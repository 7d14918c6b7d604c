use Rattle.std.proofs.Common.{[], IsTrue, List, arith, ap, length, refl, rules, sym, ◌++◌, ◌≡◌, ◌≤◌, ◌∙◌, ◌∷◌, ℕ}
use Rattle.std.specs.List.{AllByRecursion}
use Rattle.definitions.proofs.TermsReadBack.{first_text_term as spelled}
use Rattle.definitions.specs.Schema.{Kind}
use Rattle.definitions.specs.Terms.{term_bytes}
use Rattle.postings_tests.proofs.written_terms.sections.Goals as goal

pub index_text-requires-clause-made : goal.index_text-requires-clause-made
index_text-requires-clause-made c = c.in_ok-writer.ensures.nothing.fields_are

pub index_text-requires-clause-known : goal.index_text-requires-clause-known
index_text-requires-clause-known c = λ text.
    let begins : IsTrue c.begins_with_a_text_field.result = search rules in
    let e = c.begins_with_a_text_field.ensures begins in
    let items : c.extend_from_slice.new.self.items ≡ 0 ∷ 0 ∷ 0 ∷ 0 ∷ 115 ∷ [] = search rules in
    record {
      field = 0;
      entry = e.0;
      key = text;
      fits = omega arith;
      entry_is = e.1;
      indexed = e.2;
      term_is = ap (λ xs. xs ++ text) items ∙ spelled text ∙ ap (λ (k : Kind). term_bytes 0 k text) (sym e.3);
    }

pub serialize-requires-clause-stands : goal.serialize-requires-clause-stands
serialize-requires-clause-stands c = ∣ (_, c.in_ok-index_text.ensures.ok [] 0 c.in_ok-writer.ensures.nothing refl) ∣₁

-- one length for each document
long : (n : ℕ) (norms : List (ℕ × List ℕ)) → n ≤ 1 → AllByRecursion (λ (p : ℕ × List ℕ). length p.1 ≡ 1) norms → AllByRecursion (λ (p : ℕ × List ℕ). n ≤ length p.1) norms
long n [] few all = tt
long n (p ∷ norms) few all = ((let one = all.0 in omega arith), long n norms few all.1)

pub serialize-requires-clause-lengths : goal.serialize-requires-clause-lengths
serialize-requires-clause-lengths c = long c.index_text.new.self.num_docs c.in_ok-readers.readers (let same = c.in_ok-index_text.ensures.same in omega arith) c.in_ok-readers.ensures.ok.counts
