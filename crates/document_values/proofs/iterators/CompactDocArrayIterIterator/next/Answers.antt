use Rattle.std.proofs.Common.{refl}
use Rattle.document_values.proofs.iterators.CompactDocArrayIterIterator.next.Goals as goal

pub invariant_of-self : goal.invariant_of-self
invariant_of-self c = (c.self.inside.bytes.now, refl)
