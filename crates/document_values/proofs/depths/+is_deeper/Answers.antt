use Rattle.std.proofs.Common.{ap, nat_lt, rules, suc, sym, ◌∙◌, ◌≡◌}
use Rattle.definitions.specs.Values.{members_nesting, nesting, object}
use Rattle.document_values.specs.Owned.{owned_members, owned_value}
use Rattle.layouts.specs.DocumentReading.{to_members}
use Rattle.document_values.proofs.OneLevel.{one_level}
use Rattle.document_values.proofs.OwnedParts.{object_seen}
use Rattle.document_values.proofs.depths.+is_deeper.Goals as goal

pub is_deeper-returns-in-Some-checked_sub : goal.is_deeper-returns-in-Some-checked_sub
is_deeper-returns-in-Some-checked_sub t c =
    let inside = c.in-Some-checked_sub.inside in
    let level : suc inside ≡ c.args.levels = search rules in
    let seen : object (to_members (owned_members c.as_slice-in-Some-checked_sub.result.now)) ≡ owned_value c.args.value.now = ap (λ ms. object (to_members (owned_members ms))) c.as_slice-in-Some-checked_sub.ensures.value ∙ sym (object_seen c.in-Object.members) ∙ ap owned_value (sym c.in-Object.is) in
    c.any_member_is_deeper.ensures
    ∙ one_level inside (members_nesting (to_members (owned_members c.as_slice-in-Some-checked_sub.result.now)))
    ∙ ap (λ v. nat_lt (suc inside) (nesting v)) seen
    ∙ ap (λ n. nat_lt n (nesting (owned_value c.args.value.now))) level
