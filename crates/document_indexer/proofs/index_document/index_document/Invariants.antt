use Rattle.std.proofs.Common.{flat_map}
use Rattle.document_indexer.specs.Steps.{value_steps}
use Rattle.document_indexer.proofs.CountedLengths.{Counted}
use Rattle.document_indexer.proofs.Seen.{Seen}
use Rattle.document_indexer.proofs.index_document.index_document.Given as goal

-- the values so far were recorded and counted, and those that are left follow
abbrev pub invariant-loop-field : goal.invariant-loop-field
invariant-loop-field g l =
    let analyze = g.A.Analyzer.analyze l.analyzer in
    let own = value_steps l.schema analyze in
    (goal.iterator-loop-field g).can_next l.field-iterator
    × (goal.iterator-loop-field g).is_finite l.field-iterator
    × Seen l.schema l.fn.indexer l.indexer (flat_map own l.field-iterator) (flat_map own l.fn.doc)
    × Counted l.schema analyze l.lengths.items l.field-iterator l.fn.doc
