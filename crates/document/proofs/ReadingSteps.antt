-- Reading goes on behind what was read before.
use Rattle.std.proofs.Common.{[], ◌++◌, ◌∙◌, ◌≡◌, ◌∷◌, Err, List, None, Ok, Option, Result, Some, ap, ok_or, refl, slice_get, sym, ℕ}
use Rattle.std.proofs.lemmas.List.{append_assoc}
use Rattle.std.specs.Option.{option_map_or}
use Rattle.definitions.specs.Reading.{read_field, read_items, read_member, read_members, read_value, then_read}
use Rattle.definitions.specs.Schema.{Entry, Schema, field_named}
use Rattle.definitions.specs.Values.{Document}
use Rattle.definitions.specs.declared.fault.Fault.{Fault}
use Rattle.definitions.specs.declared.fault.Fault.TheVariants.{FieldNotFound}
use Rattle.document.specs.JsonRead.{added_to}
use Rattle.serde_json.specs.Data as json

-- what is refused behind something is refused by itself
pub added_refused : (before : Document) (found : Result Document Fault) (fault : Fault) → added_to before found ≡ Err fault → found ≡ Err fault
added_refused before (Ok doc) fault same = cc
added_refused before (Err other) fault same = same

-- an element that is refused ends the reading
pub item_refused : (field : ℕ) (e : Entry) (before : Document) (d : json.Data) (ds : json.Items) (fault : Fault) → read_value e d ≡ Err fault → added_to before (read_items field e (json.item d ds)) ≡ Err fault
item_refused field e before d ds fault is = ap (λ r. added_to before (then_read (λ v doc. (field, v) ∷ doc) r (read_items field e ds))) is

-- more documents behind one that was added
then_added : (before after : Document) (found more : Result Document Fault) → added_to before found ≡ Ok after → added_to before (then_read ◌++◌ found more) ≡ added_to after more
then_added before after (Ok doc) (Ok rest) is = ap Ok (sym (append_assoc before doc rest)) ∙ ap (λ r. then_read ◌++◌ r (Ok rest)) is
then_added before after (Ok doc) (Err fault) is = refl
then_added before after (Err fault) more is = cc

-- a member that is read stands behind what was read before
pub member_added : (schema : Schema) (before after : Document) (key : List ℕ) (d : json.Data) (ms : json.Members) → added_to before (read_member schema key d) ≡ Ok after → added_to before (read_members schema (json.member key d ms)) ≡ added_to after (read_members schema ms)
member_added schema before after key d ms is = then_added before after (read_member schema key d) (read_members schema ms) is

-- a member that is refused ends the reading
pub member_refused : (schema : Schema) (before : Document) (key : List ℕ) (d : json.Data) (ms : json.Members) (fault : Fault) → read_member schema key d ≡ Err fault → added_to before (read_members schema (json.member key d ms)) ≡ Err fault
member_refused schema before key d ms fault is = ap (λ r. added_to before (then_read ◌++◌ r (read_members schema ms))) is

-- ---- a member's field

-- a name's field, from the answer that gives it
field_from : (o : Option ℕ) (field : ℕ) → Ok field ≡ ok_or o FieldNotFound → o ≡ Some field
field_from (Some other) field is = cc
field_from None field is = cc

-- what is read of a member, by the number of its field
abbrev in_field : Schema → json.Data → Option ℕ → Result Document Fault
in_field schema d o = elim o [ None ↦ Ok [] | Some field ↦ option_map_or (λ e. read_field field e d) (slice_get schema field) (Ok []) ]

-- a member is read by the entry of the field of its name
pub member_of_field : (schema : Schema) (key : List ℕ) (d : json.Data) (field : ℕ) (e : Entry) → Ok field ≡ ok_or (field_named schema key) FieldNotFound → slice_get schema field ≡ Some e → read_member schema key d ≡ read_field field e d
member_of_field schema key d field e found entry = ap (in_field schema d) (field_from (field_named schema key) field found) ∙ ap (λ o. option_map_or (λ e. read_field field e d) o (Ok [])) entry
