use Rattle.std.proofs.Common.{[], ◌∷◌, Some, ap, rules, ◌≡◌, ◌∙◌, sym}
use Rattle.definitions.specs.Values.{array, object}
use Rattle.document_values.specs.CodeHeads.{head_of}
use Rattle.layouts.specs.DocumentReading.{take_head, to_members, to_values}
use Rattle.document_values.proofs.LastItems.{array_item, array_whole, object_item, object_whole}
use Rattle.document_values.proofs.value_reader.take_last.Goals as goal

pub new-values-requires : goal.new-values-requires
new-values-requires c =
    let head : take_head c.args.tokens c.args.bytes.now ≡ Some (head_of c.in_ok-head.head, c.in_ok-head.rest.now) = search rules in
    array_whole c.args.tokens c.args.depth c.in_ok-depth-in-Array.depth c.in-Array.count c.args.bytes.now c.in_ok-head.rest.now (head ∙ ap (λ h. Some (head_of h, c.in_ok-head.rest.now)) c.in-Array.is) (search rules) c.requires

pub new-members-requires : goal.new-members-requires
new-members-requires c =
    let head : take_head c.args.tokens c.args.bytes.now ≡ Some (head_of c.in_ok-head.head, c.in_ok-head.rest.now) = search rules in
    object_whole c.args.tokens c.args.depth c.in_ok-depth-in-Object.depth c.in-Object.count c.args.bytes.now c.in_ok-head.rest.now (head ∙ ap (λ h. Some (head_of h, c.in_ok-head.rest.now)) c.in-Object.is) (search rules) c.requires

pub returns-in_ok-depth-in-Array : goal.returns-in_ok-depth-in-Array
returns-in_ok-depth-in-Array c =
    let head : take_head c.args.tokens c.args.bytes.now ≡ Some (head_of c.in_ok-head.head, c.in_ok-head.rest.now) = search rules in
    array_item c.args.tokens c.args.depth c.in_ok-depth-in-Array.depth c.in-Array.count c.args.bytes.now c.in_ok-head.rest.now (head ∙ ap (λ h. Some (head_of h, c.in_ok-head.rest.now)) c.in-Array.is) (search rules) c.requires
    ∙ ap (λ vs. array (to_values vs) ∷ []) (sym c.new-values.ensures)

pub returns-in_ok-depth-in-Object : goal.returns-in_ok-depth-in-Object
returns-in_ok-depth-in-Object c =
    let head : take_head c.args.tokens c.args.bytes.now ≡ Some (head_of c.in_ok-head.head, c.in_ok-head.rest.now) = search rules in
    object_item c.args.tokens c.args.depth c.in_ok-depth-in-Object.depth c.in-Object.count c.args.bytes.now c.in_ok-head.rest.now (head ∙ ap (λ h. Some (head_of h, c.in_ok-head.rest.now)) c.in-Object.is) (search rules) c.requires
    ∙ ap (λ ms. object (to_members ms) ∷ []) (sym c.new-members.ensures)
