use Rattle.std.proofs.lemmas.Option.{IfSome_then}
use Rattle.leaf_weights.proofs.TermsRead.{found_within, term_found, term_missing}
use Rattle.leaf_weights.proofs.read_terms.read_term.Goals as goal

pub returns-clause-some : goal.returns-clause-some
returns-clause-some c schema analyze docs stands = term_found schema analyze docs c.args.reader.now stands c.args.term.now c.inverted_index-index.result.now c.read_postings.result c.inverted_index-index.ensures (λ contents. IfSome_then c.read_postings.result (c.read_postings.ensures.some contents) (λ p is. is.entries))

pub returns-clause-none : goal.returns-clause-none
returns-clause-none c schema analyze docs stands = term_missing schema analyze docs c.args.reader.now stands c.args.term.now c.inverted_index-index.result.now c.read_postings.result c.inverted_index-index.ensures c.read_postings.ensures.none

pub returns-clause-within : goal.returns-clause-within
returns-clause-within c = found_within c.args.reader.now c.inverted_index-index.result.now c.max_doc-max_doc.result c.read_postings.result c.inverted_index-index.ensures c.max_doc-max_doc.ensures.value (λ contents. IfSome_then c.read_postings.result (c.read_postings.ensures.some contents) (λ p is. is.within))
