use Rattle.std.proofs.Common.{◌+◌, ◌≡◌, ◌≤◌, length}
use Rattle.postings_writer.specs.Writers.{HasFields}
use Rattle.postings_writer.proofs.TextRuns.{Indexed}
use Rattle.postings_writer.proofs.postings_writer.PostingsWriter.index_tokens.Given as goal

-- the tokens so far were recorded
abbrev pub invariant-loop-self : goal.invariant-loop-self
invariant-loop-self g l = record {
  indexed : Indexed l.schema l.fn.self l.self l.doc l.fn.term_buffer.items l.gap l.start l.end l.num_tokens (g.T.TokenStream.rest l.fn.stream) (g.T.TokenStream.rest l.stream);
  made : HasFields l.schema l.self;
  docs : l.self.num_docs ≤ l.doc + 1;
  buffer : l.term_buffer.items ≡ l.fn.term_buffer.items;
}

abbrev pub decreases-loop-self : goal.decreases-loop-self
decreases-loop-self g l = length (g.T.TokenStream.rest l.stream)
