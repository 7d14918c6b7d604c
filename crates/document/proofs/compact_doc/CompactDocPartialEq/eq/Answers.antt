use Rattle.std.proofs.Common.{ap, ap₂, bytes_eq, false, nat_eq, rules, sym, true, ◌&&◌, ◌∙◌, ◌≡◌}
use Rattle.document.proofs.SameDocuments.{heap_spelled}
use Rattle.document.proofs.compact_doc.CompactDocPartialEq.eq.Goals as goal

pub returns-then-self-other : goal.returns-then-self-other
returns-then-self-other c =
    let a = c.self.inside in
    let b = c.other.inside in
    let same : nat_eq a.count b.count ≡ true = search rules in
    let slices : c.eq.result ≡ bytes_eq a.heap.items b.heap.items = search rules in
    slices ∙ ap (λ t. t && bytes_eq a.heap.items b.heap.items) (sym same)
    ∙ ap₂ bytes_eq (heap_spelled a.heap.items a.count c.args.self.now c.self.invariant c.self.view_is) (heap_spelled b.heap.items b.count c.args.other.now c.other.invariant c.other.view_is)

pub returns-else-self-other : goal.returns-else-self-other
returns-else-self-other c =
    let a = c.self.inside in
    let b = c.other.inside in
    let differ : nat_eq a.count b.count ≡ false = search rules in
    differ ∙ ap (λ t. t && bytes_eq a.heap.items b.heap.items) (sym differ)
    ∙ ap₂ bytes_eq (heap_spelled a.heap.items a.count c.args.self.now c.self.invariant c.self.view_is) (heap_spelled b.heap.items b.count c.args.other.now c.other.invariant c.other.view_is)
