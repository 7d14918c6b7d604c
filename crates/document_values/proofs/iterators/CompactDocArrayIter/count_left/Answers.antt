use Rattle.std.proofs.Common.{ap, length, ◌∙◌}
use Rattle.layouts.specs.DocumentReading.{take_held}
use Rattle.document_values.proofs.WholeItems.{whole_length}
use Rattle.document_values.proofs.iterators.CompactDocArrayIter.count_left.Goals as goal

pub returns : goal.returns
returns c = whole_length (take_held c.self.inside.tokens c.self.inside.depth) c.self.inside.left c.self.inside.bytes.now c.self.invariant ∙ ap length c.self.view_is
