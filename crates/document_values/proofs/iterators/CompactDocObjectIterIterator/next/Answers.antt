use Rattle.std.proofs.Common.{Some, ap, arith, length, refl, rules, suc, ◌<◌, ◌≡◌}
use Rattle.definitions.specs.NumberCodes.{take_text}
use Rattle.document_values.specs.Shown.{value_of}
use Rattle.layouts.specs.DocumentReading.{items_at, take_held, take_member}
use Rattle.document_values.proofs.LastItems.{items_step}
use Rattle.document_values.proofs.Skips.{member_taken}
use Rattle.document_values.proofs.iterators.CompactDocObjectIterIterator.next.Goals as goal

pub invariant_of-self : goal.invariant_of-self
invariant_of-self c = (c.self.inside.bytes.now, refl)

pub returns-clause-goes : goal.returns-clause-goes
returns-clause-goes c =
    let held = take_held c.self.inside.tokens c.self.inside.depth in
    let bytes = c.self.inside.bytes.now in
    let behind = c.in_ok-key.behind.now in
    let after = c.in_ok-value-2.rest.now in
    let left = c.in_ok-left.left in
    let text : take_text bytes ≡ Some (c.in_ok-key.key.now, behind) = search rules in
    let value : held behind ≡ Some (value_of c.in_ok-value-2.value, after) = search rules in
    let count : c.self.inside.left ≡ suc left = search rules in
    let first = items_step (take_member held) c.self.inside.left left bytes after (c.in_ok-key.key.now, value_of c.in_ok-value-2.value) count (member_taken held bytes c.in_ok-key.key.now behind after (value_of c.in_ok-value-2.value) text value) in
    let long : length (items_at (take_member held) c.self.inside.left bytes) ≡ suc (length (items_at (take_member held) left after)) = ap length first in
    let seen : length (items_at (take_member held) c.self.inside.left bytes) ≡ length c.args.self.now = ap length c.self.view_is in
    let fewer : length (items_at (take_member held) left after) < length c.args.self.now = omega arith in
    record { on = λ _. (tt, tt, fewer); keeps = tt; rests = λ _. tt }
