-- The last of what stands whole is read by its head alone.
use Rattle.std.proofs.Common.{[], ◌∷◌, ◌≡◌, ◌∙◌, Bool, List, None, Option, Some, ap, refl, suc, sym, ℕ}
use Rattle.definitions.specs.Json.{◌>>=◌}
use Rattle.definitions.specs.NumberCodes.{take_text}
use Rattle.definitions.specs.Values.{Value, array, object}
use Rattle.document_values.specs.Docs.{IsWhole}
use Rattle.document_values.proofs.Skips.{array_none, array_some, object_none, object_some}
use Rattle.layouts.specs.DocumentReading.{array_head, items_at, object_head, skip_many, take_head, take_held, take_member, taken_map, to_members, to_values}

-- ---- one item

pub one_item : {A : Type 0} (item : List ℕ → Option (A × List ℕ)) (bs after : List ℕ) (x : A) → item bs ≡ Some (x, after) → items_at item 1 bs ≡ x ∷ []
one_item item bs after x e = ap (λ o. elim o [ None ↦ [] | Some p ↦ p.0 ∷ [] ]) e

pub no_item : {A : Type 0} (item : List ℕ → Option (A × List ℕ)) (bs : List ℕ) → item bs ≡ None → items_at item 1 bs ≡ []
no_item item bs e = ap (λ o. elim o [ None ↦ [] | Some p ↦ p.0 ∷ [] ]) e

-- ---- what stands whole in it

pub array_whole : (t : Bool) (depth d n : ℕ) (bs rest : List ℕ) → take_head t bs ≡ Some (array_head n, rest) → depth ≡ suc d → IsWhole (take_held t depth) 1 bs → IsWhole (take_held t d) n rest
array_whole t depth d n bs rest head is whole = go (skip_many (take_held t d) n rest) refl
  where
    go : (o : Option (List ℕ)) → skip_many (take_held t d) n rest ≡ o → IsWhole (take_held t d) n rest
    go None none = absurd (let no : None ≡ Some whole.0 = sym (ap (λ o. o >>= (λ p. Some p.1)) (array_none t depth d n bs rest head is none)) ∙ whole.1 in cc)
    go (Some after) some = (after, some)

pub object_whole : (t : Bool) (depth d n : ℕ) (bs rest : List ℕ) → take_head t bs ≡ Some (object_head n, rest) → depth ≡ suc d → IsWhole (take_held t depth) 1 bs → IsWhole (take_member (take_held t d)) n rest
object_whole t depth d n bs rest head is whole = go (skip_many (take_member (take_held t d)) n rest) refl
  where
    go : (o : Option (List ℕ)) → skip_many (take_member (take_held t d)) n rest ≡ o → IsWhole (take_member (take_held t d)) n rest
    go None none = absurd (let no : None ≡ Some whole.0 = sym (ap (λ o. o >>= (λ p. Some p.1)) (object_none t depth d n bs rest head is none)) ∙ whole.1 in cc)
    go (Some after) some = (after, some)

pub array_item : (t : Bool) (depth d n : ℕ) (bs rest : List ℕ) → take_head t bs ≡ Some (array_head n, rest) → depth ≡ suc d → IsWhole (take_held t depth) 1 bs → items_at (take_held t depth) 1 bs ≡ array (to_values (items_at (take_held t d) n rest)) ∷ []
array_item t depth d n bs rest head is whole =
    let inside = array_whole t depth d n bs rest head is whole in
    one_item (take_held t depth) bs inside.0 (array (to_values (items_at (take_held t d) n rest))) (array_some t depth d n bs rest inside.0 head is inside.1)

pub object_item : (t : Bool) (depth d n : ℕ) (bs rest : List ℕ) → take_head t bs ≡ Some (object_head n, rest) → depth ≡ suc d → IsWhole (take_held t depth) 1 bs → items_at (take_held t depth) 1 bs ≡ object (to_members (items_at (take_member (take_held t d)) n rest)) ∷ []
object_item t depth d n bs rest head is whole =
    let inside = object_whole t depth d n bs rest head is whole in
    one_item (take_held t depth) bs inside.0 (object (to_members (items_at (take_member (take_held t d)) n rest))) (object_some t depth d n bs rest inside.0 head is inside.1)

-- ---- a member

-- a key and the value behind it are one member
pub one_member : (item : List ℕ → Option (Value × List ℕ)) (bs key behind : List ℕ) (v : Value) → take_text bs ≡ Some (key, behind) → items_at item 1 behind ≡ v ∷ [] → items_at (take_member item) 1 bs ≡ (key, v) ∷ []
one_member item bs key behind v text value = go (item behind) refl
  where
    with_value : List ℕ × List ℕ → Option ((List ℕ × Value) × List ℕ)
    with_value k = taken_map (λ v. (k.0, v)) (item k.1)

    go : (o : Option (Value × List ℕ)) → item behind ≡ o → items_at (take_member item) 1 bs ≡ (key, v) ∷ []
    go None none = absurd (let no : [] ≡ v ∷ [] = sym (no_item item behind none) ∙ value in cc)
    go (Some p) some =
        let same : p.0 ∷ [] ≡ v ∷ [] = sym (one_item item behind p.1 p.0 some) ∙ value in
        let is : p.0 ≡ v = cc in
        one_item (take_member item) bs p.1 (key, p.0) (ap (λ o. o >>= with_value) text ∙ ap (taken_map (λ v. (key, v))) some) ∙ ap (λ w. (key, w) ∷ []) is

-- ---- a step

pub items_step : {A : Type 0} (item : List ℕ → Option (A × List ℕ)) (left m : ℕ) (bs after : List ℕ) (x : A) → left ≡ suc m → item bs ≡ Some (x, after) → items_at item left bs ≡ x ∷ items_at item m after
items_step item left m bs after x is e = ap (λ k. items_at item k bs) is ∙ ap (λ o. elim o [ None ↦ [] | Some p ↦ p.0 ∷ items_at item m p.1 ]) e
