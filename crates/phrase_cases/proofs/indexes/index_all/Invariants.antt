use Rattle.std.proofs.Common.{List}
use Rattle.definitions.specs.Values.{Document}
use Rattle.document_indexer.specs.Indexers.{HasIndexed}
use Rattle.phrase_cases.proofs.indexes.index_all.Given as goal

abbrev pub invariant-loop-doc : goal.invariant-loop-doc
invariant-loop-doc g l = (all : List Document) × HasIndexed l.schema (g.A.Analyzer.analyze l.analyzer) l.indexer all
