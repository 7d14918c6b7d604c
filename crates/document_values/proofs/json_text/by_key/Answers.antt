-- Each turn puts one member among those before.
use Rattle.std.proofs.Common.{◌∙◌, ap, sym}
use Rattle.definitions.specs.Printed.{printed_onto}
use Rattle.document_values.specs.WrittenJson.{lent_members}
use Rattle.document_values.proofs.LentMembers.{lent-insert}
use Rattle.layouts.specs.DocumentReading.{to_members}
use Rattle.document_values.proofs.json_text.by_key.Goals as goal

pub loop-key-preserved : goal.loop-key-preserved
loop-key-preserved c =
    let left = to_members c.next.new.self in (
      record {},
      record {},
      ap (λ ms. printed_onto (lent_members ms) left) c.in_ok-insert.ensures.entries
          ∙ ap (λ before. printed_onto before left) (lent-insert c.loop-key.sorted.entries c.in-Some.key c.in-Some.value)
          ∙ ap (λ ms. printed_onto (lent_members c.loop-key.sorted.entries) (to_members ms)) (sym c.in-Some.ensures.steps)
          ∙ c.loop-key.invariant.2,
    )
