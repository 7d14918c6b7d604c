-- Each turn writes one value, which is printed as what is stored of it.
use Rattle.std.proofs.Common.{ap, append_assoc, rules, sym, ◌++◌, ◌∙◌, ◌∷◌, ◌≡◌}
use Rattle.definitions.specs.Printed.{printed, printed_list}
use Rattle.document.proofs.PrintedPlain.{printed_plain}
use Rattle.document.specs.FieldLists.{lent_values}
use Rattle.document_values.specs.Shown.{value_of}
use Rattle.json.specs.Tree.{items_tokens, json_tokens}
use Rattle.serde_json.specs.Written.{items_outline, outline}
use Rattle.document.proofs.document_json.write_list.Goals as goal

pub loop-value-preserved : goal.loop-value-preserved
loop-value-preserved c =
    let l = c.loop-value in
    let value = value_of c.in-Some.value in
    let left = items_tokens (items_outline (printed_list (lent_values c.next.new.self.rest.items))) in
    let whole : l.value-iterator.rest.items ≡ c.in-Some.value ∷ c.next.new.self.rest.items = search rules in (
      c.write_value.ensures.before ∙ l.invariant.0,
      ap (λ ts. ts ++ left) c.in_ok-write_value.ensures.ok
          ∙ append_assoc l.out.tokens (json_tokens (outline (printed value))) left
          ∙ ap (λ d. l.out.tokens ++ (json_tokens (outline d) ++ left)) (sym (printed_plain value))
          ∙ ap (λ vs. l.out.tokens ++ items_tokens (items_outline (printed_list (lent_values vs)))) (sym whole)
          ∙ l.invariant.1,
    )
