-- Fields that are lent, put by their names.
use Rattle.std.proofs.Common.{[], ◌++◌, ◌<◌, ◌∷◌, ◌≡◌, ◌∙◌, Bor, Equal, Global, Greater, Less, List, None, Option, Ordering, Some, Vec, ap, append-nil, append_assoc, arith, length, option_map, refl, slice_get, sym, ℕ}
use Rattle.std.proofs.lemmas.List.{length-map, map-append}
use Rattle.std.specs.BTreeMap.{insert_entry}
use Rattle.std.specs.Ordering.{match_ordering}
use Rattle.definitions.specs.Printed.{printed_list}
use Rattle.definitions.specs.Schema.{Entry, Schema}
use Rattle.definitions.specs.Stored.{Named, plain}
use Rattle.definitions.specs.Values.{Value}
use Rattle.document.proofs.NamedForms.{before_last, printed_before}
use Rattle.document.specs.FieldLists.{lent_fields, lent_lists, lent_values}
use Rattle.document.specs.NamedDocs.{named_list, named_lists}
use Rattle.document_values.proofs.LentMembers.{by_text}
use Rattle.document_values.specs.Shown.{value_of}
use Rattle.document_values.specs.declared.compact_value.CompactDocValue.{CompactDocValue}
use Rattle.serde_json.specs.Data.{put}
use Rattle.serde_json.specs.Data as json

abbrev Fields : Type 0
Fields = List (Bor (List ℕ) × Vec CompactDocValue Global)

fields_match : (o : Ordering) (a b c : Fields) → lent_fields (match_ordering o a b c) ≡ match_ordering o (lent_fields a) (lent_fields b) (lent_fields c)
fields_match Less a b c = refl
fields_match Equal a b c = refl
fields_match Greater a b c = refl

pub fields_insert : (fs : Fields) (name : Bor (List ℕ)) (vs : Vec CompactDocValue Global) → lent_fields (insert_entry by_text fs name vs) ≡ put name.now (json.array (printed_list (lent_values vs.items))) (lent_fields fs)
fields_insert [] name vs = refl
fields_insert (f ∷ fs) name vs = fields_match (by_text name f.0) _ _ _ ∙ rw (fields_insert fs name vs)

-- ---- how many lists and values there are

pub lists_counted : (lists : List (Vec CompactDocValue Global)) → length (lent_lists lists) ≡ length lists
lists_counted lists = length-map lists (λ (l : Vec CompactDocValue Global). lent_values l.items)

pub values_counted : (vs : List CompactDocValue) → length (lent_values vs) ≡ length vs
values_counted vs = length-map vs (λ (v : CompactDocValue). plain (value_of v))

pub lists_more : (lists whole : List (Vec CompactDocValue Global)) (values : Vec CompactDocValue Global) → whole ≡ lists ++ values ∷ [] → lent_lists whole ≡ lent_lists lists ++ lent_values values.items ∷ []
lists_more lists whole values is = ap lent_lists is ∙ map-append (λ (l : Vec CompactDocValue Global). lent_values l.items) lists (values ∷ [])

-- ---- the last list, before the members of later fields

-- no lists name no field
pub named_none : (es : Schema) → named_lists es [] ≡ []
named_none [] = refl
named_none (e ∷ es) = refl

named_last : (es : Schema) (ls : List (List Value)) (vs : List Value) → length ls < length es → named_lists es (ls ++ vs ∷ []) ≡ named_lists es ls ++ named_list (slice_get es (length ls)) vs
named_last [] ls vs l = absurd (omega (arith, l))
named_last (e ∷ es) [] vs l = ap (λ more. named_list (Some e) vs ++ more) (named_none es) ∙ append-nil (named_list (Some e) vs)
named_last (e ∷ es) (xs ∷ ls) vs l =
    ap (λ more. named_list (Some e) xs ++ more) (named_last es ls vs (omega (arith, l)))
    ∙ sym (append_assoc (named_list (Some e) xs) (named_lists es ls) (named_list (slice_get es (length ls)) vs))

nothing_named : (e : Option Entry) → named_list e [] ≡ []
nothing_named None = refl
nothing_named (Some e) = refl

-- an empty one adds nothing
pub empty_before : (es : Schema) (ls : List (List Value)) (vs : List Value) (later : json.Members) → length ls < length es → length vs ≡ 0 → printed_before (named_lists es ls) later ≡ printed_before (named_lists es (ls ++ vs ∷ [])) later
empty_before es ls [] later l none = ap (λ fs. printed_before fs later) (sym (named_last es ls [] l ∙ ap (λ more. named_lists es ls ++ more) (nothing_named (slice_get es (length ls))) ∙ append-nil (named_lists es ls)))
empty_before es ls (v ∷ vs) later l none = absurd (omega (arith, none))

named_at : (e : Option Entry) (name : List ℕ) (v : Value) (vs : List Value) → option_map (λ f. f.name) e ≡ Some name → named_list e (v ∷ vs) ≡ (name, v ∷ vs) ∷ []
named_at None name v vs is = absurd cc
named_at (Some e) name v vs is = cc

-- any other is put at its field's name
pub list_before : (es : Schema) (ls : List (List Value)) (name : List ℕ) (vs : List Value) (later : json.Members) → length ls < length es → 0 < length vs → option_map (λ f. f.name) (slice_get es (length ls)) ≡ Some name
    → printed_before (named_lists es ls) (put name (json.array (printed_list vs)) later) ≡ printed_before (named_lists es (ls ++ vs ∷ [])) later
list_before es ls name [] later l some is = absurd (omega (arith, some))
list_before es ls name (v ∷ vs) later l some is =
    sym (before_last (named_lists es ls) name (v ∷ vs) later)
    ∙ ap (λ (fs : Named). printed_before (named_lists es ls ++ fs) later) (sym (named_at (slice_get es (length ls)) name v vs is))
    ∙ ap (λ (fs : Named). printed_before fs later) (sym (named_last es ls (v ∷ vs) l))
