use Rattle.std.proofs.Common.{[], List, map, take, ◌≡◌}
use Rattle.std.specs.List.{AllByRecursion}
use Rattle.docsets.specs.Entries.{from}
use Rattle.definitions.specs.Analyzers.{Analyzer}
use Rattle.definitions.specs.Postings.{postings}
use Rattle.definitions.specs.Schema.{Schema}
use Rattle.definitions.specs.Values.{Document}
use Rattle.leaf_weights.specs.ReadTerms.{placed_entries, placed_left}
use Rattle.segment_postings.specs.Cursors.{entries_left}
use Rattle.segment_reader.specs.SegmentReaders.{StandsFor, max_doc_of}
use Rattle.leaf_weights.proofs.read_terms.read_terms.Given as goal

-- those so far were read
abbrev pub invariant-loop-offset : goal.invariant-loop-offset
invariant-loop-offset l =
    ((schema : Schema) (analyze : Analyzer) (docs : List Document) → StandsFor schema analyze docs l.fn.reader → placed_left l.read.items ≡ placed_entries (λ t. postings schema analyze t docs) (take l.offset-index l.terms))
    × (map (λ t. t.0) l.read.items ≡ map (λ t. t.0) (take l.offset-index l.terms))
    × AllByRecursion (λ t. from (max_doc_of l.fn.reader) (entries_left t.1) ≡ []) l.read.items
