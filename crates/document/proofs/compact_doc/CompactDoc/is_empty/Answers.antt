use Rattle.std.proofs.Common.{ap, length, nat_eq, ◌∙◌}
use Rattle.document.proofs.HeldPairs.{heap_count}
use Rattle.document.proofs.compact_doc.CompactDoc.is_empty.Goals as goal

pub returns : goal.returns
returns c = ap (λ n. nat_eq n 0) (heap_count c.self.inside.heap.items c.self.inside.count c.self.invariant ∙ ap length c.self.view_is)
