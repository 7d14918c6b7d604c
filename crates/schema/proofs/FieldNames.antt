-- Names of fields, as fields are added.
use Rattle.std.proofs.Common.{ℕ, zero, suc, ok_or, option_map, slice_get, ◌↔◌, zero-add, List, [], ◌∷◌, ◌++◌, ◌≡◌, ◌≢◌, ◌≤◌, ◌<◌, ◌+◌, Bool, true, false, cond, not, Option, Some, None, is_some, IsTrue, length, refl, sym, ap, ◌∙◌, subst, arith, String, nat_le, bytes_eq, add-zero, length-append, Result, Ok, Err, leb-false}
use Rattle.std.specs.List.{AllByRecursion, position_from}
use Rattle.std.specs.BTreeMap.{BTreeMap, get_by_text}
use Rattle.std.specs.Map.{update}
use Rattle.std.specs.declared.alloc.Global.{Global}
use Rattle.std.proofs.lemmas.Slice.Eq.{bytes_eq-Decides}
use Rattle.definitions.specs.declared.fault.Fault.TheVariants.{BadName, DuplicateName, TooManyFields}
use Rattle.definitions.specs.Schema.{AreDistinct, Entry, Schema, field_named, is_valid_field_name, max_fields, with_field}
use Rattle.schema.specs.Names.{Numbers}
use Rattle.schema.specs.Entries.{IsTyped, entry_of}
use Rattle.schema.specs.declared.field_entry.FieldType.{FieldType}
use Rattle.schema.specs.declared.field_entry.FieldType.TheVariants as types

-- what a test finds in a list with one more element at its end
abbrev found_last : Option ℕ → Bool → ℕ → Option ℕ
found_last (Some i) b n = Some i
found_last None b n = cond b (Some n) None

position_from-push : {X : Type 0} (t : X → Bool) (i : ℕ) (xs : List X) (x : X) → position_from t i (xs ++ (x ∷ [])) ≡ found_last (position_from t i xs) (t x) (i + length xs)
position_from-push t i [] x = ap (λ n. cond (t x) (Some n) None) (sym (add-zero i))
position_from-push t i (y ∷ ys) x =
    elim (t y) as (λ b. cond b (Some i) (position_from t (i + 1) (ys ++ (x ∷ []))) ≡ found_last (cond b (Some i) (position_from t (i + 1) ys)) (t x) (i + length (y ∷ ys))) [
      | true ↦ refl
      | false ↦ position_from-push t (i + 1) ys x ∙ ap (found_last (position_from t (i + 1) ys) (t x)) (omega arith)
    ]

-- where a name is new, what was found under each name after its field is added
pub field_named-push : (fields : Schema) (e : Entry) (name : List ℕ) → field_named fields e.name ≡ None → field_named (fields ++ (e ∷ [])) name ≡ cond (bytes_eq e.name name) (Some (length fields)) (field_named fields name)
field_named-push fields e name fresh = position_from-push (λ f. bytes_eq f.name name) 0 fields e ∙ last (bytes_eq e.name name) refl
  where
    last : (b : Bool) → bytes_eq e.name name ≡ b → found_last (field_named fields name) b (0 + length fields) ≡ cond b (Some (length fields)) (field_named fields name)
    last true same =
        let alike : e.name ≡ name = (bytes_eq-Decides e.name name).0 same in
        let none : field_named fields name ≡ None = subst (λ n. field_named fields n ≡ None) alike fresh in
        ap (λ o. found_last o true (0 + length fields)) none ∙ ap Some (omega arith)
    last false other = none_or (field_named fields name)
      where
        none_or : (o : Option ℕ) → found_last o false (0 + length fields) ≡ o
        none_or (Some i) = refl
        none_or None = refl

-- ---- names stay distinct

-- a test that finds nothing fails at each element
none_passes : {X : Type 0} (t : X → Bool) (i : ℕ) (xs : List X) → position_from t i xs ≡ None → AllByRecursion (λ x. t x ≡ false) xs
none_passes t i [] h = tt
none_passes t i (x ∷ xs) h = go (t x) refl h (none_passes t (i + 1) xs)
  where
    some≢none : Some i ≡ None → ⊥
    some≢none h = cc

    go : (b : Bool) → t x ≡ b → cond b (Some i) (position_from t (i + 1) xs) ≡ None → (position_from t (i + 1) xs ≡ None → AllByRecursion (λ y. t y ≡ false) xs) → (t x ≡ false) × AllByRecursion (λ y. t y ≡ false) xs
    go true e none rest = absurd (some≢none none)
    go false e none rest = (e, rest none)

pub all-push : {X : Type 0} (P : X → Type 0) (xs : List X) (x : X) → AllByRecursion P xs → P x → AllByRecursion P (xs ++ (x ∷ []))
all-push P [] x all last = (last, tt)
all-push P (y ∷ ys) x all last = (all.0, all-push P ys x all.1 last)

differs : (e f : Entry) → bytes_eq f.name e.name ≡ false → e.name ≢ f.name
differs e f other same = absurd_of (sym other ∙ (bytes_eq-Decides f.name e.name).1 (sym same))
  where
    absurd_of : false ≡ true → ⊥
    absurd_of h = cc

distinct-push : (fields : Schema) (e : Entry) → AreDistinct fields → AllByRecursion (λ f. bytes_eq f.name e.name ≡ false) fields → AreDistinct (fields ++ (e ∷ []))
distinct-push [] e distinct fresh = (tt, tt)
distinct-push (f ∷ fields) e distinct fresh = (all-push (λ g. g.name ≢ f.name) fields e distinct.0 (differs e f fresh.0), distinct-push fields e distinct.1 fresh.1)

-- ---- a field that may be added

pub record MayBeAdded (fields : Schema) (e : Entry) : Type 0 where
  pub fresh : field_named fields e.name ≡ None
  pub valid : IsTrue (is_valid_field_name e.name)
  pub room : nat_le max_fields (length fields) ≡ false

-- a field that was added might be
pub may_be_added : (fields more : Schema) (e : Entry) → with_field fields e ≡ Ok more → MayBeAdded fields e
may_be_added fields more e h = go (field_named fields e.name) (is_valid_field_name e.name) (nat_le max_fields (length fields)) refl refl refl h
  where
    go : (o : Option ℕ) (v m : Bool) → field_named fields e.name ≡ o → is_valid_field_name e.name ≡ v → nat_le max_fields (length fields) ≡ m → cond (is_some o) (Err DuplicateName) (cond (not v) (Err BadName) (cond m (Err TooManyFields) (Ok (fields ++ (e ∷ []))))) ≡ Ok more → MayBeAdded fields e
    go (Some i) v m a b c k = cc
    go None false m a b c k = cc
    go None true true a b c k = cc
    go None true false a b c k = record { fresh = a; valid = b; room = c }

-- what is kept of names after a field is added
pub numbers_with : (old new : BTreeMap (String Global) ℕ) (fields : Schema) (e : Entry) → Numbers old fields → MayBeAdded fields e → IsTyped e → ((name : List ℕ) → get_by_text new name ≡ update bytes_eq (get_by_text old) e.name (Some (length fields)) name) → Numbers new (fields ++ (e ∷ []))
numbers_with old new fields e before may typed updated = record {
  by_name = λ name. updated name ∙ ap (cond (bytes_eq e.name name) (Some (length fields))) (before.by_name name) ∙ sym (field_named-push fields e name may.fresh);
  distinct = distinct-push fields e before.distinct (none_passes (λ f. bytes_eq f.name e.name) 0 fields may.fresh);
  valid = all-push (λ f. IsTrue (is_valid_field_name f.name)) fields e before.valid may.valid;
  typed = all-push IsTyped fields e before.typed typed;
  count_fits = (let room : length fields < max_fields = leb-false max_fields (length fields) may.room in simp length-append (omega arith));
}

-- an entry has the name that it was given
pub entry_of-name : (name : List ℕ) (t : FieldType) → (entry_of name t).name ≡ name
entry_of-name name (types.Str o) = refl
entry_of-name name (types.U64 o) = refl
entry_of-name name (types.I64 o) = refl
entry_of-name name (types.Bool o) = refl
entry_of-name name (types.Date o) = refl
entry_of-name name (types.Facet o) = refl
entry_of-name name (types.Bytes o) = refl
entry_of-name name (types.JsonObject o) = refl
entry_of-name name (types.IpAddr o) = refl

-- ---- the field of a name is the one that has it

-- where the search begins at k, what it finds is not before k
position_from-le : {X : Type 0} (t : X → Bool) (k : ℕ) (xs : List X) (n : ℕ) → position_from t k xs ≡ Some n → k ≤ n
position_from-le t k [] n h = cc
position_from-le t k (x ∷ xs) n h = go (t x) h (position_from-le t (k + 1) xs n)
  where
    go : (b : Bool) → cond b (Some k) (position_from t (k + 1) xs) ≡ Some n → (position_from t (k + 1) xs ≡ Some n → k + 1 ≤ n) → k ≤ n
    go true found later = (let same : k ≡ n = cc in omega arith)
    go false found later = (let after : k + 1 ≤ n = later found in omega arith)

-- the entry that is found has the name
has_name : (fields : Schema) (name : List ℕ) (k i : ℕ) → position_from (λ e. bytes_eq e.name name) k fields ≡ Some (k + i) → option_map (λ (e : Entry). e.name) (slice_get fields i) ≡ Some name
has_name [] name k i h = cc
has_name (e ∷ es) name k zero h = go (bytes_eq e.name name) refl h
  where
    go : (b : Bool) → bytes_eq e.name name ≡ b → cond b (Some k) (position_from (λ f. bytes_eq f.name name) (k + 1) es) ≡ Some (k + 0) → Some e.name ≡ Some name
    go true same found = ap Some ((bytes_eq-Decides e.name name).0 same)
    go false other found = (let after : k + 1 ≤ k + 0 = position_from-le (λ (f : Entry). bytes_eq f.name name) (k + 1) es (k + 0) found in absurd (omega arith))
has_name (e ∷ es) name k (suc i) h = go (bytes_eq e.name name) h (has_name es name (k + 1) i)
  where
    go : (b : Bool) → cond b (Some k) (position_from (λ f. bytes_eq f.name name) (k + 1) es) ≡ Some (k + suc i) → (position_from (λ f. bytes_eq f.name name) (k + 1) es ≡ Some (k + 1 + i) → option_map (λ (f : Entry). f.name) (slice_get es i) ≡ Some name) → option_map (λ (f : Entry). f.name) (slice_get es i) ≡ Some name
    go true found later = (let same : k ≡ k + suc i = cc in absurd (omega arith))
    go false found later = later (found ∙ ap Some (omega arith))

-- a name that no entry has is at no number
no_name_at : (fields : Schema) (name : List ℕ) (i : ℕ) → AllByRecursion (λ f. f.name ≢ name) fields → option_map (λ (e : Entry). e.name) (slice_get fields i) ≢ Some name
no_name_at [] name i others h = cc
no_name_at (e ∷ es) name zero others h = others.0 (let same : e.name ≡ name = cc in same)
no_name_at (e ∷ es) name (suc i) others h = no_name_at es name i others.1 h

-- the entry that has the name is found
is_found : (fields : Schema) (name : List ℕ) (k i : ℕ) → AreDistinct fields → option_map (λ (e : Entry). e.name) (slice_get fields i) ≡ Some name → position_from (λ e. bytes_eq e.name name) k fields ≡ Some (k + i)
is_found [] name k i distinct h = cc
is_found (e ∷ es) name k zero distinct h =
    let same : e.name ≡ name = cc in
    let passes : bytes_eq e.name name ≡ true = (bytes_eq-Decides e.name name).1 same in
    ap (λ b. cond b (Some k) (position_from (λ (f : Entry). bytes_eq f.name name) (k + 1) es)) passes ∙ ap Some (omega arith)
is_found (e ∷ es) name k (suc i) distinct h = go (bytes_eq e.name name) refl (is_found es name (k + 1) i distinct.1 h)
  where
    go : (b : Bool) → bytes_eq e.name name ≡ b → position_from (λ f. bytes_eq f.name name) (k + 1) es ≡ Some (k + 1 + i) → cond b (Some k) (position_from (λ f. bytes_eq f.name name) (k + 1) es) ≡ Some (k + suc i)
    go true same later = absurd (no_name_at es name i (subst (λ n. AllByRecursion (λ f. f.name ≢ n) es) ((bytes_eq-Decides e.name name).0 same) distinct.0) h)
    go false other later = later ∙ ap Some (omega arith)

-- the number that a name has is that of the entry with this name
pub field_named-exact : (fields : Schema) (name : List ℕ) (i : ℕ) → AreDistinct fields → (field_named fields name ≡ Some i) ↔ (option_map (λ (e : Entry). e.name) (slice_get fields i) ≡ Some name)
field_named-exact fields name i distinct = (λ found. has_name fields name 0 i (found ∙ ap Some (sym (zero-add i))), λ named. is_found fields name 0 i distinct named ∙ ap Some (zero-add i))

-- likewise of an answer that is refused where there is none
pub answer-exact : {E : Type 0} (fields : Schema) (name : List ℕ) (e : E) (answer : Result ℕ E) → AreDistinct fields → answer ≡ ok_or (field_named fields name) e → (i : ℕ) → (answer ≡ Ok i) ↔ (option_map (λ (f : Entry). f.name) (slice_get fields i) ≡ Some name)
answer-exact {E} fields name e answer distinct value i =
    let exact = field_named-exact fields name i distinct in
    (λ found. exact.0 (found_of (field_named fields name) (sym value ∙ found)), λ named. value ∙ ap (λ o. ok_or o e) (exact.1 named))
  where
    found_of : (o : Option ℕ) → ok_or o e ≡ Ok i → o ≡ Some i
    found_of None h = cc
    found_of (Some n) h = cc
