use Rattle.std.proofs.Common.{subst, sym, ◌∙◌}
use Rattle.document_indexer.proofs.KeptLengths.{fields_ascend}
use Rattle.layouts.specs.Deltas.{IsAscendingFrom}
use Rattle.segment.proofs.section_checks.checked_norms.Goals as goal

pub open-requires : goal.open-requires
open-requires c = subst (IsAscendingFrom 0) (sym (c.deref.ensures.value ∙ c.in_ok-fields.ensures)) (fields_ascend c.args.schema.now)
