-- Terms of texts and of numbers that are written as JSON read back.
use Rattle.std.proofs.Common.{[], ◌+◌, ◌<◌, ◌∙◌, ◌^◌, ◌∷◌, ◌≡◌, ◌≢◌, IsUtf8, List, Some, add-zero, ap, arith, bytes_eq, codes, false, length, refl, slice_get, subst, suc, sym, true, zero, ℕ, append_assoc, ◌++◌}
use Rattle.std.specs.List.{AllByRecursion, position_from}
use Rattle.std.specs.Option.{option_map_or}
use Rattle.std.specs.Int.{to_be_bytes, w64, w32}
use Rattle.std.proofs.lemmas.Bool.{false_from_ne_true}
use Rattle.std.proofs.lemmas.Nat.{from_be_bytes-to_be_bytes_4, from_be_bytes-to_be_bytes_8}
use Rattle.std.proofs.lemmas.Option.{slice_get_within}
use Rattle.std.proofs.lemmas.Slice.Eq.{bytes_eq-Decides}
use Rattle.std.proofs.lemmas.Str.{is_utf8-from_IsUtf8}
use Rattle.definitions.specs.Json.{object_of}
use Rattle.definitions.specs.Replies.{number_data}
use Rattle.definitions.specs.Schema.{AreDistinct, Entry, IsSchema, Kind, Schema, field_named, text_kind, u64_kind, bool_kind, bytes_kind, date_kind, facet_kind, i64_kind, ip_addr_kind, json_kind}
use Rattle.definitions.specs.TermData.{reads_back, term_data, term_of_entry, value_members}
use Rattle.definitions.specs.TermGrammar.{term_in}
use Rattle.definitions.specs.Terms.{field_of, payload_of, term_bytes, type_code, kind_in}
use Rattle.serde_json.specs.Data as json

-- what holds of each element holds of that at a place
at_place : {X : Type 0} (P : X → Type 0) (xs : List X) (i : ℕ) (x : X) → AllByRecursion P xs → slice_get xs i ≡ Some x → P x
at_place P [] i x all here = cc
at_place P (y ∷ ys) zero x all here = (let same : y ≡ x = cc in subst P same all.0)
at_place P (y ∷ ys) (suc i) x all here = at_place P ys i x all.1 here

-- an entry is found by its name
found_by_name : (schema : Schema) (k i : ℕ) (e : Entry) → AreDistinct schema → slice_get schema i ≡ Some e → position_from (λ f. bytes_eq f.name e.name) k schema ≡ Some (k + i)
found_by_name [] k i e distinct here = cc
found_by_name (f ∷ fs) k zero e distinct here =
    let same : f ≡ e = cc in
    rw ((bytes_eq-Decides f.name e.name).1 (ap (λ (g : Entry). g.name) same)) (ap Some (sym (add-zero k)))
found_by_name (f ∷ fs) k (suc i) e distinct here =
    let other : bytes_eq f.name e.name ≡ false = false_from_ne_true _ (λ yes. at_place (λ (g : Entry). g.name ≢ f.name) fs i e distinct.0 here (sym ((bytes_eq-Decides f.name e.name).0 yes))) in
    rw other (found_by_name fs (k + 1) i e distinct.1 here ∙ ap Some (omega arith))

-- ---- a field of a schema

module _ (schema : Schema) (field : ℕ) (e : Entry) (valid : IsSchema schema) (here : slice_get schema field ≡ Some e) where
  -- its number has 32 bits
  fits : field < 2 ^ 32
  fits =
      let within : field < length schema = slice_get_within schema field e here in
      let few = valid.count_fits in
      omega arith

  -- its name is of no field before it
  named : field_named schema e.name ≡ Some field
  named = found_by_name schema 0 field e valid.distinct here ∙ ap Some (omega arith)

  -- what is written of a term of the field, behind whose kind stand these bytes
  written : (kind : Kind) (bs : List ℕ) → e.kind ≡ kind → payload_of (term_bytes field kind bs) ≡ bs → term_data schema (term_bytes field kind bs) ≡ object_of ((codes "field", json.string e.name) ∷ value_members kind bs)
  written kind bs is behind =
      let t = term_bytes field kind bs in
      let number : field_of t ≡ field = from_be_bytes-to_be_bytes_4 field fits in
      let entry : term_of_entry t e ≡ object_of ((codes "field", json.string e.name) ∷ value_members kind bs) = rw is (rw behind refl) in
      ap (λ n. option_map_or (term_of_entry t) (slice_get schema n) json.null) number ∙ ap (λ o. option_map_or (term_of_entry t) o json.null) here ∙ entry

  -- a text in the field is read as its term
  text_read : (s : List ℕ) → e.kind ≡ text_kind → term_in schema (object_of ((codes "field", json.string e.name) ∷ (codes "value", json.string s) ∷ [])) ≡ Some (term_bytes field text_kind s)
  text_read s is = rw named (rw here (rw is refl))

  -- a number in the field is read as its term
  number_read : (n : ℕ) → e.kind ≡ u64_kind → term_in schema (object_of ((codes "field", json.string e.name) ∷ (codes "value", number_data n) ∷ [])) ≡ Some (term_bytes field u64_kind (to_be_bytes w64 n))
  number_read n is = rw named (rw here (rw is refl))

  -- a term that is read from what is written of it reads back
  back : (t : List ℕ) → term_in schema (term_data schema t) ≡ Some t → reads_back schema t ≡ true
  back t is = ap (λ o. option_map_or (bytes_eq t) o false) is ∙ (bytes_eq-Decides t t).1 refl

  -- each text of a text field
  pub text_term_back : (s : List ℕ) → e.kind ≡ text_kind → IsUtf8 s → reads_back schema (term_bytes field text_kind s) ≡ true
  text_term_back s is utf8 =
      let value : value_members text_kind s ≡ (codes "value", json.string s) ∷ [] = rw (is_utf8-from_IsUtf8 s utf8) refl in
      back (term_bytes field text_kind s) (ap (term_in schema) (written text_kind s is refl ∙ ap (λ ms. object_of ((codes "field", json.string e.name) ∷ ms)) value) ∙ text_read s is)

  -- each number of a u64 field
  pub number_term_back : (n : ℕ) → e.kind ≡ u64_kind → n < 2 ^ 64 → reads_back schema (term_bytes field u64_kind (to_be_bytes w64 n)) ≡ true
  number_term_back n is small =
      let bs = to_be_bytes w64 n in
      let value : value_members u64_kind bs ≡ (codes "value", number_data n) ∷ [] = ap (λ m. (codes "value", number_data m) ∷ []) (from_be_bytes-to_be_bytes_8 n small) in
      back (term_bytes field u64_kind bs) (ap (term_in schema) (written u64_kind bs is refl ∙ ap (λ ms. object_of ((codes "field", json.string e.name) ∷ ms)) value) ∙ number_read n is)

-- a term whose value bytes go on
pub term-append : (field : ℕ) (kind : Kind) (xs ys : List ℕ) → term_bytes field kind xs ++ ys ≡ term_bytes field kind (xs ++ ys)
term-append field kind xs ys =
    append_assoc (to_be_bytes w32 field) (type_code kind ++ xs) ys
    ∙ ap (λ zs. to_be_bytes w32 field ++ zs) (append_assoc (type_code kind) xs ys)

-- a text term of the first field
pub first_text_term : (text : List ℕ) → (0 ∷ 0 ∷ 0 ∷ 0 ∷ 115 ∷ []) ++ text ≡ term_bytes 0 text_kind text
first_text_term text = refl

-- the kind of a term
pub kind_there : (f : ℕ) (kind : Kind) (key : List ℕ) → kind_in (term_bytes f kind key) ≡ Some kind
kind_there f text_kind key = refl
kind_there f u64_kind key = refl
kind_there f i64_kind key = refl
kind_there f bool_kind key = refl
kind_there f date_kind key = refl
kind_there f facet_kind key = refl
kind_there f bytes_kind key = refl
kind_there f json_kind key = refl
kind_there f ip_addr_kind key = refl

-- the value bytes of a term
pub key_there : (f : ℕ) (kind : Kind) (key : List ℕ) → payload_of (term_bytes f kind key) ≡ key
key_there f text_kind key = refl
key_there f u64_kind key = refl
key_there f i64_kind key = refl
key_there f bool_kind key = refl
key_there f date_kind key = refl
key_there f facet_kind key = refl
key_there f bytes_kind key = refl
key_there f json_kind key = refl
key_there f ip_addr_kind key = refl
