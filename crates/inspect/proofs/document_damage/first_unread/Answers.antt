use Rattle.std.proofs.Common.{rules, subst, ◌∙◌, ◌≡◌}
use Rattle.definitions.specs.declared.fault.Fault.TheVariants as faults
use Rattle.segment.specs.SlotDocuments.{HoldsDocument}
use Rattle.inspect.proofs.Mapped.{one_more}
use Rattle.inspect.proofs.Unread.{is_unread}
use Rattle.inspect.specs.Documents.{IsReadable}
use Rattle.inspect.proofs.document_damage.first_unread.Goals as goal

pub loop-doc-preserved : goal.loop-doc-preserved
loop-doc-preserved c =
    let so_far = c.loop-doc.invariant in
    let made = c.in-Ok.ensures in
    record {
      blocks = made.same.3 ∙ so_far.blocks;
      bytes = made.same.0 ∙ so_far.bytes;
      end = so_far.end;
      read = one_more (IsReadable c.args.schema.now c.args.segment.now) c.loop-doc.doc so_far.read
          (c.in-Ok.field-0, subst (λ blocks. HoldsDocument c.args.schema.now blocks c.loop-doc.doc c.in-Ok.field-0) so_far.blocks made.ok);
    }

pub returns-in-Err-Damaged-clause-some : goal.returns-in-Err-Damaged-clause-some
returns-in-Err-Damaged-clause-some c =
    let damaged : c.in-Err-Damaged.field-0 ≡ faults.Damaged c.in-Err-Damaged._gate = search rules in
    is_unread c.args.schema.now c.args.segment.now _ _ c.loop-doc.doc c.in-Err-Damaged.field-0 c.in-Err-Damaged._gate c.in_ok-unread-in-Err-Damaged.unread c.loop-doc.invariant.blocks c.in-Err-Damaged.ensures.same.3 damaged c.in-Err-Damaged.ensures.err c.in_ok-unread-in-Err-Damaged.ensures.block c.in_ok-unread-in-Err-Damaged.ensures.slot
