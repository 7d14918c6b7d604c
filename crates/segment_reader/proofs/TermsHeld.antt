-- The terms of fields, found by all their bytes.
use Rattle.std.proofs.Common.{[], Bool, List, None, Option, Some, ap, arith, bytes_eq, cond, drop, false, find, get_or, length, flat_map, map, option_map, refl, slice_get, subst, sym, true, ◌++◌, ◌+◌, ◌<◌, ◌==◌, ◌≡◌, ◌≢◌, ◌∙◌, ◌∷◌, ◌^◌, ℕ}
use Rattle.std.proofs.lemmas.Bool.Decides.{nat_tests}
use Rattle.std.specs.List.{AllByRecursion}
use Rattle.std.specs.Option.{option_map_or}
use Rattle.definitions.specs.Schema.{Entry, Kind, Schema}
use Rattle.definitions.specs.Terms.{field_of, payload_of, term_bytes}
use Rattle.layouts.specs.Deltas.{IsAscendingFrom}
use Rattle.layouts.specs.InvertedIndexes.{IndexedField, IndexedTerm, field_terms, term_of_key}
use Rattle.terms.proofs.TermParts.{other_fields, other_kinds, same_keys}
use Rattle.segment_reader.proofs.KindsKnown.{IsKind, fields_ascend, kinds_known}
use Rattle.segment_reader.specs.FieldDictionaries.{terms_in}
use Rattle.segment_reader.specs.Readers.{HasKind, IsReader, Reader, index_in, term_held, term_in}
use Rattle.segment_reader.specs.TermPlaces.{field_end, fields_start}
use Rattle.segment_reader.specs.ToldFields.{AreTold}
use Rattle.segment_reader.specs.declared.field_index.FieldIndex.{FieldIndex}
use Rattle.segment_reader.specs.declared.field_kind.FieldKind.{FieldKind}
use Rattle.front_coding.specs.declared.term_starts.TermStart.{TermStart}
use Rattle.layouts.specs.TermSections.{block_size}

-- ---- lists

find_first : {X : Type 0} (p : X → Bool) (xs ys : List X) → find p xs ≡ None → find p (xs ++ ys) ≡ find p ys
find_first p [] ys none = refl
find_first {X} p (x ∷ xs) ys none = go (p x) none (find_first p xs ys)
  where
    go : (b : Bool) → cond b (Some x) (find p xs) ≡ None → (find p xs ≡ None → find p (xs ++ ys) ≡ find p ys) → cond b (Some x) (find p (xs ++ ys)) ≡ find p ys
    go true some rest = cc
    go false some rest = rest some

find_there : {X : Type 0} (p : X → Bool) (xs ys : List X) → find p ys ≡ None → find p (xs ++ ys) ≡ find p xs
find_there p [] ys none = none
find_there {X} p (x ∷ xs) ys none = go (p x) (find_there p xs ys none)
  where
    go : (b : Bool) → find p (xs ++ ys) ≡ find p xs → cond b (Some x) (find p (xs ++ ys)) ≡ cond b (Some x) (find p xs)
    go true rest = refl
    go false rest = rest

pub found_all : {X : Type 0} (P : X → Type 0) (p : X → Bool) (xs : List X) (x : X) → AllByRecursion P xs → find p xs ≡ Some x → P x × (p x ≡ true)
found_all P p [] x all found = cc
found_all {X} P p (y ∷ ys) x all found = go (p y) refl found (found_all P p ys x all.1)
  where
    go : (b : Bool) → p y ≡ b → cond b (Some y) (find p ys) ≡ Some x → (find p ys ≡ Some x → P x × (p x ≡ true)) → P x × (p x ≡ true)
    go true is same rest = (let here : y ≡ x = cc in (subst P here all.0, ap p (sym here) ∙ is))
    go false is same rest = rest same

-- ---- the terms of one field

abbrev pub Row : Type 0
Row = List ℕ × IndexedTerm

abbrev row : Schema → ℕ → List IndexedTerm → List Row
row schema field xs = map (λ (x : IndexedTerm). (term_of_key schema field x.key, x)) xs

abbrev rows : Schema → List IndexedField → List Row
rows schema fields = flat_map (λ (f : IndexedField). row schema f.field f.terms) fields

abbrev is_term : List ℕ → Row → Bool
is_term t p = bytes_eq p.0 t

row_same : (schema : Schema) (field : ℕ) (t q : List ℕ) (xs : List IndexedTerm) → ((key : List ℕ) → bytes_eq (term_of_key schema field key) t ≡ bytes_eq key q) → option_map (λ (p : Row). p.1) (find (is_term t) (row schema field xs)) ≡ find (λ (x : IndexedTerm). bytes_eq x.key q) xs
row_same schema field t q [] same = refl
row_same schema field t q (x ∷ xs) same =
    ap (λ b. option_map (λ (p : Row). p.1) (cond b (Some (term_of_key schema field x.key, x)) (find (is_term t) (row schema field xs)))) (same x.key) ∙ go (bytes_eq x.key q) (row_same schema field t q xs same)
  where
    go : (b : Bool) → option_map (λ (p : Row). p.1) (find (is_term t) (row schema field xs)) ≡ find (λ (y : IndexedTerm). bytes_eq y.key q) xs → option_map (λ (p : Row). p.1) (cond b (Some (term_of_key schema field x.key, x)) (find (is_term t) (row schema field xs))) ≡ cond b (Some x) (find (λ (y : IndexedTerm). bytes_eq y.key q) xs)
    go true rest = refl
    go false rest = rest

row_none : (schema : Schema) (field : ℕ) (t : List ℕ) (xs : List IndexedTerm) → ((key : List ℕ) → bytes_eq (term_of_key schema field key) t ≡ false) → find (is_term t) (row schema field xs) ≡ None
row_none schema field t [] none = refl
row_none schema field t (x ∷ xs) none = ap (λ b. cond b (Some (term_of_key schema field x.key, x)) (find (is_term t) (row schema field xs))) (none x.key) ∙ row_none schema field t xs none

-- ---- of all fields

-- no term of a field is that one
abbrev Apart : Schema → List ℕ → IndexedField → Type 0
Apart schema t f = (key : List ℕ) → bytes_eq (term_of_key schema f.field key) t ≡ false

rows_none : (schema : Schema) (t : List ℕ) (fields : List IndexedField) → AllByRecursion (Apart schema t) fields → find (is_term t) (rows schema fields) ≡ None
rows_none schema t [] all = refl
rows_none schema t (f ∷ fields) all = find_first (is_term t) (row schema f.field f.terms) (rows schema fields) (row_none schema f.field t f.terms all.0) ∙ rows_none schema t fields all.1

-- the terms of one field are told by their values, and those of the others aren't that one
abbrev Tells : Schema → List ℕ → List ℕ → ℕ → IndexedField → Type 0
Tells schema t q n f = (f.field ≡ n → (key : List ℕ) → bytes_eq (term_of_key schema f.field key) t ≡ bytes_eq key q) × (f.field ≢ n → Apart schema t f)

abbrev numbers : List IndexedField → List ℕ
numbers fields = map (λ (f : IndexedField). f.field) fields

others : (schema : Schema) (t q : List ℕ) (n least : ℕ) (fields : List IndexedField) → n < least → IsAscendingFrom least (numbers fields) → AllByRecursion (Tells schema t q n) fields → AllByRecursion (Apart schema t) fields
others schema t q n least [] above a all = tt
others schema t q n least (f ∷ fields) above a all = (let here = a.0 in (all.0.1 (λ same. omega (arith, above, here, same)), others schema t q n (f.field + 1) fields (omega (arith, above, here)) a.1 all.1))

rows_same : (schema : Schema) (t q : List ℕ) (n least : ℕ) (fields : List IndexedField) → IsAscendingFrom least (numbers fields) → AllByRecursion (Tells schema t q n) fields → option_map (λ (p : Row). p.1) (find (is_term t) (rows schema fields)) ≡ find (λ (x : IndexedTerm). bytes_eq x.key q) (terms_in n fields)
rows_same schema t q n least [] a all = refl
rows_same schema t q n least (f ∷ fields) a all = go (f.field == n) refl (rows_same schema t q n (f.field + 1) fields a.1 all.1)
  where
    here : List Row
    here = row schema f.field f.terms

    go : (b : Bool) → (f.field == n) ≡ b → option_map (λ (p : Row). p.1) (find (is_term t) (rows schema fields)) ≡ find (λ (x : IndexedTerm). bytes_eq x.key q) (terms_in n fields) → option_map (λ (p : Row). p.1) (find (is_term t) (row schema f.field f.terms ++ rows schema fields)) ≡ find (λ (x : IndexedTerm). bytes_eq x.key q) (cond b f.terms (terms_in n fields))
    go true is rest =
        let same : f.field ≡ n = grind (arith, nat_tests, is) in
        let past = rows_none schema t fields (others schema t q n (f.field + 1) fields (omega (arith, same)) a.1 all.1) in
        ap (option_map (λ (p : Row). p.1)) (find_there (is_term t) (row schema f.field f.terms) (rows schema fields) past) ∙ row_same schema f.field t q f.terms (all.0.0 same)
    go false is rest =
        let apart : f.field ≢ n = grind (arith, nat_tests, is) in
        ap (option_map (λ (p : Row). p.1)) (find_first (is_term t) (row schema f.field f.terms) (rows schema fields) (row_none schema f.field t f.terms (all.0.1 apart))) ∙ rest

-- ---- by the schema

-- a field that the schema has
record IsKept (schema : Schema) (field : ℕ) : Type 0 where
  entry : Entry
  there : slice_get schema field ≡ Some entry
  small : field < 2 ^ 32

pub term_there : (schema : Schema) (field : ℕ) (e : Entry) (key : List ℕ) → slice_get schema field ≡ Some e → term_of_key schema field key ≡ term_bytes field e.kind key
term_there schema field e key there = ap (λ o. option_map_or (λ (x : Entry). term_bytes field x.kind key) o []) there

apart_by_field : (schema : Schema) (f : IndexedField) (n : ℕ) (kind : Kind) (q : List ℕ) → IsKept schema f.field → n < 2 ^ 32 → f.field ≢ n → Apart schema (term_bytes n kind q) f
apart_by_field schema f n kind q kept small apart key = ap (λ x. bytes_eq x (term_bytes n kind q)) (term_there schema f.field kept.entry key kept.there) ∙ other_fields f.field n kept.entry.kind kind key q kept.small small (λ same. apart (sym same))

apart_by_kind : (schema : Schema) (f : IndexedField) (n : ℕ) (e : Entry) (kind : Kind) (q : List ℕ) → slice_get schema f.field ≡ Some e → (◌≡◌ {A = Option Kind} (Some e.kind) (Some kind) → ⊥) → Apart schema (term_bytes n kind q) f
apart_by_kind schema f n e kind q there other key = ap (λ x. bytes_eq x (term_bytes n kind q)) (term_there schema f.field e key there) ∙ other_kinds f.field n e.kind kind key q other

same_by_value : (schema : Schema) (f : IndexedField) (n : ℕ) (e : Entry) (kind : Kind) (q : List ℕ) → slice_get schema f.field ≡ Some e → e.kind ≡ kind → f.field ≡ n → (key : List ℕ) → bytes_eq (term_of_key schema f.field key) (term_bytes n kind q) ≡ bytes_eq key q
same_by_value schema f n e kind q there same number key =
    ap (λ x. bytes_eq x (term_bytes n kind q)) (term_there schema f.field e key there)
    ∙ ap (λ k. bytes_eq (term_bytes f.field k key) (term_bytes n kind q)) same
    ∙ ap (λ m. bytes_eq (term_bytes m kind key) (term_bytes n kind q)) number
    ∙ same_keys n kind key q

-- ---- of a reader

pub some_same : (a b : Kind) → ◌≡◌ {A = Option Kind} (Some a) (Some b) → a ≡ b
some_same a b same = ap (λ (o : Option Kind). option_map_or (λ k. k) o a) same

kept_from : (kind : Bool) (schema : Schema) (at : TermStart) (fields : List IndexedField) (told : List FieldIndex) → AreTold kind at (map field_terms fields) told → AllByRecursion (IsKind schema) (map (λ (i : FieldIndex). i.kind) told) → AllByRecursion (λ (f : IndexedField). IsKept schema f.field) fields
kept_from kind schema at [] told are all = tt
kept_from kind schema at (f ∷ fields) [] are all = absurd are
kept_from kind schema at (f ∷ fields) (i ∷ is) are all =
    (subst (IsKept schema) are.0 (record { entry = all.0.entry; there = all.0.there; small = all.0.small }), kept_from kind schema (field_end (block_size kind) at (field_terms f)) fields is are.3 all.1)

pub all_of_told : (P : FieldKind → Type 0) (told : List FieldIndex) → AllByRecursion P (map (λ (i : FieldIndex). i.kind) told) → AllByRecursion (λ (i : FieldIndex). P i.kind) told
all_of_told P [] all = tt
all_of_told P (i ∷ is) all = (all.0, all_of_told P is all.1)

pub same_numbers : (kind : Bool) (at : TermStart) (fields : List IndexedField) (told : List FieldIndex) → AreTold kind at (map field_terms fields) told → map (λ (i : FieldIndex). i.kind.field) told ≡ numbers fields
same_numbers kind at [] [] are = refl
same_numbers kind at [] (i ∷ is) are = absurd are
same_numbers kind at (f ∷ fields) [] are = absurd are
same_numbers kind at (f ∷ fields) (i ∷ is) are = ap (λ n. n ∷ map (λ (j : FieldIndex). j.kind.field) is) are.0 ∙ ap (λ ns. f.field ∷ ns) (same_numbers kind (field_end (block_size kind) at (field_terms f)) fields is are.3)

not_there : (n : ℕ) (told : List FieldIndex) (fields : List IndexedField) → map (λ (i : FieldIndex). i.kind.field) told ≡ numbers fields → find (λ (i : FieldIndex). i.kind.field == n) told ≡ None → AllByRecursion (λ (f : IndexedField). f.field ≢ n) fields
not_there n told [] same none = tt
not_there n [] (f ∷ fields) same none = (let long = ap length same in absurd (omega (arith, long)))
not_there n (i ∷ is) (f ∷ fields) same none = go (i.kind.field == n) refl none (not_there n is fields (ap (drop 1) same))
  where
    here : i.kind.field ≡ f.field
    here = ap (λ ns. get_or ns 0 0) same

    go : (b : Bool) → (i.kind.field == n) ≡ b → cond b (Some i) (find (λ (j : FieldIndex). j.kind.field == n) is) ≡ None → (find (λ (j : FieldIndex). j.kind.field == n) is ≡ None → AllByRecursion (λ (g : IndexedField). g.field ≢ n) fields) → (f.field ≢ n) × AllByRecursion (λ (g : IndexedField). g.field ≢ n) fields
    go true is_so some later = cc
    go false is_so rest later = ((let apart : i.kind.field ≢ n = grind (arith, nat_tests, is_so) in λ e. apart (here ∙ e)), later rest)

all_apart : (schema : Schema) (n : ℕ) (kind : Kind) (q : List ℕ) (fields : List IndexedField) → n < 2 ^ 32 → AllByRecursion (λ (f : IndexedField). IsKept schema f.field) fields → AllByRecursion (λ (f : IndexedField). f.field ≢ n) fields → AllByRecursion (Apart schema (term_bytes n kind q)) fields
all_apart schema n kind q [] small kept other = tt
all_apart schema n kind q (f ∷ fields) small kept other = (apart_by_field schema f n kind q kept.0 small other.0, all_apart schema n kind q fields small kept.1 other.1)

of_other_kind : (schema : Schema) (n : ℕ) (e : Entry) (kind : Kind) (q : List ℕ) (fields : List IndexedField) → n < 2 ^ 32 → slice_get schema n ≡ Some e → (◌≡◌ {A = Option Kind} (Some e.kind) (Some kind) → ⊥) → AllByRecursion (λ (f : IndexedField). IsKept schema f.field) fields → AllByRecursion (Apart schema (term_bytes n kind q)) fields
of_other_kind schema n e kind q [] small there other kept = tt
of_other_kind schema n e kind q (f ∷ fields) small there other kept = (go (f.field == n) refl, of_other_kind schema n e kind q fields small there other kept.1)
  where
    go : (b : Bool) → (f.field == n) ≡ b → Apart schema (term_bytes n kind q) f
    go true is = (let same : f.field ≡ n = grind (arith, nat_tests, is) in apart_by_kind schema f n e kind q (ap (slice_get schema) same ∙ there) other)
    go false is = (let apart : f.field ≢ n = grind (arith, nat_tests, is) in apart_by_field schema f n kind q kept.0 small apart)

all_tell : (schema : Schema) (n : ℕ) (e : Entry) (kind : Kind) (q : List ℕ) (fields : List IndexedField) → n < 2 ^ 32 → slice_get schema n ≡ Some e → e.kind ≡ kind → AllByRecursion (λ (f : IndexedField). IsKept schema f.field) fields → AllByRecursion (Tells schema (term_bytes n kind q) q n) fields
all_tell schema n e kind q [] small there same kept = tt
all_tell schema n e kind q (f ∷ fields) small there same kept =
    ((λ number. same_by_value schema f n e kind q (ap (slice_get schema) number ∙ there) same number, λ apart. apart_by_field schema f n kind q kept.0 small apart), all_tell schema n e kind q fields small there same kept.1)

-- what a reader knows of its fields
record Knows (schema : Schema) (fields : List IndexedField) (r : Reader) : Type 0 where
  kept : AllByRecursion (λ (f : IndexedField). IsKept schema f.field) fields
  numbers_are : map (λ (i : FieldIndex). i.kind.field) r.indexes ≡ numbers fields
  rise : IsAscendingFrom 0 (numbers fields)
  kinds : AllByRecursion (λ (i : FieldIndex). IsKind schema i.kind) r.indexes

knows : (schema : Schema) (n : ℕ) (norms : List (ℕ × List ℕ)) (fields : List IndexedField) (r : Reader) → IsReader schema n norms fields r → Knows schema fields r
knows schema n norms fields r reader =
    let known = kinds_known schema (map (λ (i : FieldIndex). i.kind) r.indexes) reader.schema_fits reader.kinds in
    record {
      kept = kept_from reader.sections.terms_are.0 schema fields_start fields r.indexes reader.told known;
      numbers_are = same_numbers reader.sections.terms_are.0 fields_start fields r.indexes reader.told;
      rise = subst (IsAscendingFrom 0) (sym reader.sections.names) (fields_ascend schema);
      kinds = all_of_told (IsKind schema) r.indexes known;
    }

-- a term whose field isn't indexed, or is of another kind, isn't held
pub none_held : (schema : Schema) (n : ℕ) (norms : List (ℕ × List ℕ)) (fields : List IndexedField) (r : Reader) (t : List ℕ) (kind : Kind) → IsReader schema n norms fields r → t ≡ term_bytes (field_of t) kind (payload_of t) → field_of t < 2 ^ 32 → (HasKind r (field_of t) kind → ⊥) → term_held schema fields t ≡ None
none_held schema n norms fields r t kind reader whole small none = ap (λ x. term_held schema fields x) whole ∙ go (index_in (field_of t) r.indexes) refl
  where
    known : Knows schema fields r
    known = knows schema n norms fields r reader

    go : (o : Option FieldIndex) → index_in (field_of t) r.indexes ≡ o → term_held schema fields (term_bytes (field_of t) kind (payload_of t)) ≡ None
    go None is = ap (option_map (λ (p : Row). p.1)) (rows_none schema (term_bytes (field_of t) kind (payload_of t)) fields (all_apart schema (field_of t) kind (payload_of t) fields small known.kept (not_there (field_of t) r.indexes fields known.numbers_are is)))
    go (Some i) is =
        let found = found_all (λ (j : FieldIndex). IsKind schema j.kind) (λ (j : FieldIndex). j.kind.field == field_of t) r.indexes i known.kinds is in
        let number : i.kind.field ≡ field_of t = (let test = found.1 in grind (arith, nat_tests, test)) in
        ap (option_map (λ (p : Row). p.1)) (rows_none schema (term_bytes (field_of t) kind (payload_of t)) fields (of_other_kind schema (field_of t) found.0.entry kind (payload_of t) fields small (ap (slice_get schema) (sym number) ∙ found.0.there) (λ same. none (record { index = i; found = is; kind_is = found.0.kind_is ∙ some_same found.0.entry.kind kind same })) known.kept))

-- a term of a field's kind is the one of its value
pub same_held : (schema : Schema) (n : ℕ) (norms : List (ℕ × List ℕ)) (fields : List IndexedField) (r : Reader) (t : List ℕ) (kind : Kind) → IsReader schema n norms fields r → t ≡ term_bytes (field_of t) kind (payload_of t) → field_of t < 2 ^ 32 → HasKind r (field_of t) kind → term_held schema fields t ≡ term_in fields (field_of t) (payload_of t)
same_held schema n norms fields r t kind reader whole small has =
    let known = knows schema n norms fields r reader in
    let found = found_all (λ (j : FieldIndex). IsKind schema j.kind) (λ (j : FieldIndex). j.kind.field == field_of t) r.indexes has.index known.kinds has.found in
    let number : has.index.kind.field ≡ field_of t = (let test = found.1 in grind (arith, nat_tests, test)) in
    let tell = all_tell schema (field_of t) found.0.entry kind (payload_of t) fields small (ap (slice_get schema) (sym number) ∙ found.0.there) (sym found.0.kind_is ∙ has.kind_is) known.kept in
    ap (λ x. term_held schema fields x) whole ∙ rows_same schema (term_bytes (field_of t) kind (payload_of t)) (payload_of t) (field_of t) 0 fields known.rise tell

-- and its bytes are that value behind the field's
pub own_bytes : (schema : Schema) (n : ℕ) (norms : List (ℕ × List ℕ)) (fields : List IndexedField) (r : Reader) (t : List ℕ) (kind : Kind) → IsReader schema n norms fields r → t ≡ term_bytes (field_of t) kind (payload_of t) → HasKind r (field_of t) kind → term_of_key schema (field_of t) (payload_of t) ≡ t
own_bytes schema n norms fields r t kind reader whole has =
    let known = knows schema n norms fields r reader in
    let found = found_all (λ (j : FieldIndex). IsKind schema j.kind) (λ (j : FieldIndex). j.kind.field == field_of t) r.indexes has.index known.kinds has.found in
    let number : has.index.kind.field ≡ field_of t = (let test = found.1 in grind (arith, nat_tests, test)) in
    term_there schema (field_of t) found.0.entry (payload_of t) (ap (slice_get schema) (sym number) ∙ found.0.there)
    ∙ ap (λ k. term_bytes (field_of t) k (payload_of t)) (sym found.0.kind_is ∙ has.kind_is)
    ∙ sym whole
