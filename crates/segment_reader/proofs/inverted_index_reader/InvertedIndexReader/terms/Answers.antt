use Rattle.std.proofs.Common.{length, subst, sym, ◌∙◌, ◌≤◌}
use Rattle.segment_reader.proofs.ReaderCalls.{dictionary_is, dictionary_lent, few_terms, found_index, lent_dictionary, no_dictionary, none_index}
use Rattle.segment_reader.proofs.inverted_index_reader.InvertedIndexReader.terms.Goals as goal

pub new-requires : goal.new-requires
new-requires c = lent_dictionary c.args.self.now _ c.args.field c.in-Some.index.now c.as_slice-section.result.now c.deref.result.now c.self.view_is c.as_slice-section.ensures c.deref.ensures.value (found_index c.args.self.now c.args.field c.index_of.result c.in-Some.index c.index_of.ensures.index c.in-Some.is) c.self.invariant

pub returns-in-Some-clause-ok : goal.returns-in-Some-clause-ok
returns-in-Some-clause-ok c contents = dictionary_lent c.args.self.now _ c.args.field c.in-Some.index.now c.as_slice-section.result.now c.new.result c.self.view_is c.as_slice-section.ensures (found_index c.args.self.now c.args.field c.index_of.result c.in-Some.index c.index_of.ensures.index c.in-Some.is) c.new.ensures ∙ dictionary_is c.args.self.now c.args.field contents

pub returns-in-None-clause-ok : goal.returns-in-None-clause-ok
returns-in-None-clause-ok c contents = no_dictionary c.args.self.now c.args.field c.without_terms.result (none_index c.args.self.now c.args.field c.index_of.result c.index_of.ensures.index c.in-None.is) c.without_terms.ensures ∙ dictionary_is c.args.self.now c.args.field contents

pub returns-in-Some-clause-few : goal.returns-in-Some-clause-few
returns-in-Some-clause-few c = subst (λ ts. length ts ≤ 4294967295) (sym (dictionary_lent c.args.self.now _ c.args.field c.in-Some.index.now c.as_slice-section.result.now c.new.result c.self.view_is c.as_slice-section.ensures (found_index c.args.self.now c.args.field c.index_of.result c.in-Some.index c.index_of.ensures.index c.in-Some.is) c.new.ensures)) (few_terms c.args.self.now c.args.field c.index_of.ensures.known)

pub returns-in-None-clause-few : goal.returns-in-None-clause-few
returns-in-None-clause-few c = subst (λ ts. length ts ≤ 4294967295) (sym (no_dictionary c.args.self.now c.args.field c.without_terms.result (none_index c.args.self.now c.args.field c.index_of.result c.index_of.ensures.index c.in-None.is) c.without_terms.ensures)) (few_terms c.args.self.now c.args.field c.index_of.ensures.known)
