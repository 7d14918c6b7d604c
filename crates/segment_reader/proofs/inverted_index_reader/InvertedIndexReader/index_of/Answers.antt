use Rattle.std.proofs.Common.{List, map, subst, sym}
use Rattle.layouts.specs.Deltas.{IsAscendingFrom}
use Rattle.segment_reader.proofs.ReaderCalls.{indexes_ascend}
use Rattle.segment_reader.specs.Readers.{Contents, Reader}
use Rattle.segment_reader.specs.declared.field_index.FieldIndex.{FieldIndex}
use Rattle.segment_reader.proofs.inverted_index_reader.InvertedIndexReader.index_of.Goals as goal

pub index_of-requires : goal.index_of-requires
index_of-requires c = subst (λ (is : List FieldIndex). IsAscendingFrom 0 (map (λ (i : FieldIndex). i.kind.field) is)) (sym c.deref.ensures.value) (indexes_ascend _ c.self.invariant)

pub returns-clause-known : goal.returns-clause-known
returns-clause-known c = subst (λ (r : Reader). ∥ Contents r ∥₁) c.self.view_is c.self.invariant
