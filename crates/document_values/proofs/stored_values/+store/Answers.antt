-- The parts that are stored make an array or an object.
use Rattle.std.proofs.Common.{◌∙◌, ap, sym}
use Rattle.definitions.specs.Stored.{plain}
use Rattle.definitions.specs.Values.{array, object}
use Rattle.document_values.specs.Shown.{value_of}
use Rattle.layouts.specs.DocumentReading.{to_members, to_values}
use Rattle.document_values.proofs.OwnedParts.{object_seen}
use Rattle.document_values.proofs.PrintedParts.{array_seen}
use Rattle.document_values.proofs.StoredParts.{plain_keyed, plain_listed}
use Rattle.document_values.proofs.stored_values.+store.Goals as goal

pub stored_value-returns-in_ok-stored_values-in-Array : goal.stored_value-returns-in_ok-stored_values-in-Array
stored_value-returns-in_ok-stored_values-in-Array t c =
    array_seen c.in_ok-stored_values-in-Array.field-0
    ∙ ap array (ap to_values c.in_ok-stored_values-in-Array.ensures ∙ plain_listed c.in-Array.values)
    ∙ ap (λ v. plain (value_of v)) (sym c.in-Array.is)

pub stored_value-returns-in_ok-stored_members-in-Object : goal.stored_value-returns-in_ok-stored_members-in-Object
stored_value-returns-in_ok-stored_members-in-Object t c =
    object_seen c.in_ok-stored_members-in-Object.field-0
    ∙ ap object (ap to_members c.in_ok-stored_members-in-Object.ensures ∙ plain_keyed c.in-Object.members)
    ∙ ap (λ v. plain (value_of v)) (sym c.in-Object.is)
