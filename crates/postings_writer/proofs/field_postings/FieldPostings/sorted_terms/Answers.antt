use Rattle.std.proofs.Common.{rules}
use Rattle.std.proofs.lemmas.List.Sorted.{answers_always}
use Rattle.postings_writer.proofs.SortedTerms.{keys_ascend, sorted_all, sorted_apart, sorted_found}
use Rattle.postings_writer.proofs.field_postings.FieldPostings.sorted_terms.Goals as goal

pub returns-clause-ascend : goal.returns-clause-ascend
returns-clause-ascend c =
    let k = c.in_ok-terms.ensures in
    let s = c.sort_unstable_by_key.ensures in
    keys_ascend (λ t. t.0.now) c.sort_unstable_by_key.new.self.items
    (s.sorted (λ t. t.0) (answers_always _ _ _ (λ f a r g called. search rules)))
    (sorted_apart (λ t. (t.0.now, t.1.now)) c.in_ok-terms.terms.items c.sort_unstable_by_key.new.self.items c.args.self.now k.terms s.permutation k.distinct)

pub returns-clause-each : goal.returns-clause-each
returns-clause-each c = sorted_found (λ t. (t.0.now, t.1.now)) c.in_ok-terms.terms.items c.sort_unstable_by_key.new.self.items c.args.self.now c.in_ok-terms.ensures.terms c.sort_unstable_by_key.ensures.permutation c.in_ok-terms.ensures.distinct

pub returns-clause-all : goal.returns-clause-all
returns-clause-all c = sorted_all (λ t. (t.0.now, t.1.now)) c.in_ok-terms.terms.items c.sort_unstable_by_key.new.self.items c.args.self.now c.in_ok-terms.ensures.terms c.sort_unstable_by_key.ensures.permutation c.in_ok-terms.ensures.distinct
