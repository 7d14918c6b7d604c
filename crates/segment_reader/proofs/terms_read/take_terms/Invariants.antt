use Rattle.layouts.specs.TermSections.{block_size}
use Rattle.segment_reader.proofs.TermsLoop.{Reading}
use Rattle.segment_reader.proofs.terms_read.take_terms.Given as goal

abbrev pub invariant-loop-number : goal.invariant-loop-number
invariant-loop-number l = Reading (block_size l.fn.front_coded) l.fn.section l.fn.start l.fn.lengths.postings l.fn.lengths.positions l.fn.num_terms l.number l.key.items l.starts.items l.end l.longest
