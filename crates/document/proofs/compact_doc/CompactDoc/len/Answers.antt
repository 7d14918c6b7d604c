use Rattle.std.proofs.Common.{ap, length, subst, sym, true, ◌∙◌}
use Rattle.std.specs.List.{AllByRecursion}
use Rattle.document_values.specs.Docs.{IsGoodPair}
use Rattle.layouts.specs.DocumentReading.{deepest}
use Rattle.document.proofs.HeldPairs.{heap_count, pairs_held}
use Rattle.document.proofs.compact_doc.CompactDoc.len.Goals as goal

pub returns-clause-count : goal.returns-clause-count
returns-clause-count c = heap_count c.self.inside.heap.items c.self.inside.count c.self.invariant ∙ ap length c.self.view_is

pub returns-clause-pairs : goal.returns-clause-pairs
returns-clause-pairs c =
    let held = c.self.invariant in
    subst (AllByRecursion (IsGoodPair true deepest)) (sym (pairs_held c.self.inside.heap.items c.self.inside.count held.0 held.1) ∙ c.self.view_is) held.1.pairs
