use Rattle.std.proofs.Common.{[], ◌++◌, ◌∷◌, ◌≡◌, ◌∙◌, OnOk, ap, rules, subst, sym}
use Rattle.definitions.specs.NumberCodes.{sized_bytes}
use Rattle.document_values.specs.Shown.{value_of}
use Rattle.document_values.proofs.Steps.{steps_spelled}
use Rattle.document_values.proofs.WrittenParts.{array_put, object_put}
use Rattle.layouts.specs.DocumentBytes.{value_bytes}
use Rattle.document_values.proofs.value_writer.+put_value.Goals as goal

pub put_array-returns : goal.put_array-returns
put_array-returns t c =
    let none : c.loop-value.value-iterator ≡ [] = search rules in
    array_put c.args.out.now.items c.push.new.self.items c.put_vint.new.out.items c.loop-value.out.items c.count_left.result c.args.values c.loop-value.value-iterator c.in_ok-push.ensures.items c.in_ok-put_vint.ensures.ok c.count_left.ensures c.loop-value.invariant.2 none

pub put_object-returns : goal.put_object-returns
put_object-returns t c =
    let none : c.loop-key.key-iterator ≡ [] = search rules in
    object_put c.args.out.now.items c.push.new.self.items c.put_vint.new.out.items c.loop-key.out.items c.count_left.result c.args.members c.loop-key.key-iterator c.in_ok-push.ensures.items c.in_ok-put_vint.ensures.ok c.count_left.ensures c.loop-key.invariant.2 none

pub put_value-returns-in-Facet : goal.put_value-returns-in-Facet
put_value-returns-in-Facet t c = subst (λ ys. OnOk c.put_sized-in-Facet.result (c.put_sized-in-Facet.new.out.items ≡ c.args.out.now.items ++ ys))
    (ap (λ s. 3 ∷ sized_bytes s) (c.as_bytes-in-Facet.ensures.value ∙ sym (steps_spelled c.in-Facet.steps.now)) ∙ ap (λ v. value_bytes (value_of v)) (sym c.in-Facet.is))
    c.put_sized-in-Facet.ensures
