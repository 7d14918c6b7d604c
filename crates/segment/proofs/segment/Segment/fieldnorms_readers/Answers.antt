use Rattle.std.proofs.Common.{sym, ◌∙◌}
use Rattle.std.proofs.Math.Logic.{∥∥₁_elim, ∥∥₁_map}
use Rattle.std.proofs.Common.{subst}
use Rattle.std.proofs.Props.{props}
use Rattle.document_indexer.proofs.KeptLengths.{fields_ascend}
use Rattle.layouts.proofs.Lists.{IsAscendingFrom-prop}
use Rattle.layouts.specs.Deltas.{IsAscendingFrom}
use Rattle.segment.proofs.Reading.{opened_lengths, opened_norms}
use Rattle.segment.proofs.segment.Segment.fieldnorms_readers.Goals as goal

pub new-requires-clause-ascend : goal.new-requires-clause-ascend
new-requires-clause-ascend c = ∥∥₁_elim c.args.self.now.opened (IsAscendingFrom-prop 0 c.deref.result.now) (λ o. subst (IsAscendingFrom 0) (sym (c.deref.ensures.value ∙ o.1.fields_are)) (fields_ascend o.0))

pub new-requires-clause-known : goal.new-requires-clause-known
new-requires-clause-known c = ∥∥₁_map c.args.self.now.opened (λ o. (o.1.norms, opened_norms o.0 c.args.self.now o.1 c.deref.result.now c.as_slice.result.now c.deref.ensures.value c.as_slice.ensures))

pub returns : goal.returns
returns c = ∥∥₁_elim c.args.self.now.opened (hlevel props) (λ o. c.new.ensures o.1.norms (opened_norms o.0 c.args.self.now o.1 c.deref.result.now c.as_slice.result.now c.deref.ensures.value c.as_slice.ensures) ∙ sym (opened_lengths o.0 c.args.self.now o.1))
