use Rattle.std.proofs.Common.{[], ◌∷◌, drop, map, take}
use Rattle.document_indexer.proofs.FacetSteps.{cuts, text_term}
use Rattle.document_indexer.proofs.Seen.{Seen}
use Rattle.document_indexer.proofs.index_facet.index_prefixes.Given as goal

-- the prefixes that end before this byte were recorded
abbrev pub invariant-loop-end : goal.invariant-loop-end
invariant-loop-end l = Seen l.schema l.fn.indexer l.indexer (map (text_term l.field) (cuts (take l.end l.bytes) (drop l.end l.bytes))) (text_term l.field [] ∷ map (text_term l.field) (cuts [] l.bytes))
