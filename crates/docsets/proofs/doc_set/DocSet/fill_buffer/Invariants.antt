use Rattle.std.proofs.Common.{drop, length, map, take, ◌≡◌, ◌≤◌}
use Rattle.docsets.specs.Entries.{first}
use Rattle.docsets.proofs.doc_set.DocSet.fill_buffer.Given as goal

-- the documents so far stand in the buffer
abbrev pub invariant-loop-filled : goal.invariant-loop-filled
invariant-loop-filled g l = record {
  at : l.doc ≡ first (g.Self.DocSet.entries l.self);
  some : l.filled ≤ length (g.Self.DocSet.entries l.fn.self);
  rest : g.Self.DocSet.entries l.self ≡ drop l.filled (g.Self.DocSet.entries l.fn.self);
  written : take l.filled l.buffer ≡ map (λ e. e.doc) (take l.filled (g.Self.DocSet.entries l.fn.self));
  long : length l.buffer ≡ 64;
}
