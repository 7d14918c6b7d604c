-- Stored values as JSON, field by field.
use Rattle.std.proofs.Common.{[], ◌++◌, ◌∷◌, ◌≡◌, ◌∙◌, Global, List, String, Vec, ap, arith, length, refl, string_bytes, sym, ℕ}
use Rattle.std.proofs.lemmas.List.{map_push}
use Rattle.definitions.specs.Printed.{printed_fields, printed_list}
use Rattle.definitions.specs.Stored.{Named}
use Rattle.definitions.specs.Values.{Value}
use Rattle.document.specs.NamedDocs.{NamedFields, named_field, named_of}
use Rattle.document_values.specs.Owned.{owned_values}
use Rattle.document_values.specs.declared.owned_value.OwnedValue.{OwnedValue}
use Rattle.serde_json.specs.Data.{put}
use Rattle.serde_json.specs.Data as json

-- fields put in their places among the members of later fields
abbrev pub printed_before : Named → json.Members → json.Members
printed_before [] later = later
printed_before ((name, vs) ∷ fields) later = put name (json.array (printed_list vs)) (printed_before fields later)

-- before no members, fields are those of a document
pub before_none : (fields : Named) → printed_before fields json.no_members ≡ printed_fields fields
before_none [] = refl
before_none ((name, vs) ∷ fields) = ap (put name (json.array (printed_list vs))) (before_none fields)

-- the last field is put before the others
pub before_last : (fields : Named) (name : List ℕ) (vs : List Value) (later : json.Members) → printed_before (fields ++ ((name, vs) ∷ [])) later ≡ printed_before fields (put name (json.array (printed_list vs)) later)
before_last [] name vs later = refl
before_last ((first, ws) ∷ fields) name vs later = ap (put first (json.array (printed_list ws))) (before_last fields name vs later)

-- no field is put before the members
pub before_empty : (fields : NamedFields) (later : json.Members) → length fields ≡ 0 → printed_before (named_of fields) later ≡ later
before_empty [] later none = refl
before_empty (f ∷ fields) later none = absurd (omega arith)

-- a field that is taken from the back of those that are left is put before the members
pub put_from_back : (fields : NamedFields) (f : String Global × Vec OwnedValue Global) (later : json.Members) → printed_before (named_of fields) (put (string_bytes f.0) (json.array (printed_list (owned_values f.1.items))) later) ≡ printed_before (named_of (fields ++ (f ∷ []))) later
put_from_back fields f later = sym (before_last (named_of fields) (string_bytes f.0) (owned_values f.1.items) later) ∙ ap (λ fs. printed_before fs later) (sym (map_push named_field fields f))
