use Rattle.front_coding.proofs.BlockLoop.{Looks}
use Rattle.layouts.specs.TermSections.{block_size}
use Rattle.front_coding.proofs.look_ups.search_block.Given as goal

abbrev pub invariant-loop-number : goal.invariant-loop-number
invariant-loop-number l = Looks (block_size l.front_coded) l.key l.section l.num_terms l.fn.start l.number l.alike l.rest l.postings l.positions
