-- Terms by their parts: the field, the kind, and the value bytes.
use Rattle.std.proofs.Common.{[], Bool, List, None, Option, Some, ap, arith, bytes_eq, cond, drop, false, find, get_or, length, refl, suc, sym, take, true, zero, ◌++◌, ◌<◌, ◌≡◌, ◌≢◌, ◌∙◌, ◌∷◌, ◌^◌, ℕ}
use Rattle.std.specs.Int.{to_be_bytes, w32}
use Rattle.std.specs.Option.{option_map_or}
use Rattle.std.proofs.lemmas.Bool.{false_from_ne_true}
use Rattle.std.proofs.lemmas.List.{drop-drop}
use Rattle.std.proofs.lemmas.Nat.{be_bytes_4, from_be_bytes-to_be_bytes_4}
use Rattle.std.proofs.lemmas.Slice.Eq.{bytes_eq-Decides}
use Rattle.definitions.proofs.TermsReadBack.{kind_there as kind_in-term, key_there as payload_of-term}
use Rattle.definitions.specs.NumberCodes.{AreBytes}
use Rattle.definitions.specs.Schema.{Kind, all_kinds, bool_kind, bytes_kind, date_kind, facet_kind, i64_kind, ip_addr_kind, is_text, json_kind, text_kind, u64_kind}
use Rattle.definitions.specs.Terms.{field_of, has_kind, is_text_term, kind_in, payload_of, term_bytes, type_code}
use Rattle.terms.specs.TextKeys.{is_text_key}

-- ---- the parts of a term that is put together

pub field_of-term : (f : ℕ) (kind : Kind) (key : List ℕ) → f < 2 ^ 32 → field_of (term_bytes f kind key) ≡ f
field_of-term f kind key fits = from_be_bytes-to_be_bytes_4 f fits

-- kinds are equal where their codes are
pub same_code : (a b : Kind) (x y : ℕ) → type_code a ≡ x ∷ [] → type_code b ≡ y ∷ [] → x ≡ y → ◌≡◌ {A = Option Kind} (Some a) (Some b)
same_code a b x y first second same = sym (kind_in-term 0 a []) ∙ ap (λ code. kind_in (to_be_bytes w32 0 ++ (code ++ []))) (first ∙ ap (λ n. n ∷ []) same ∙ sym second) ∙ kind_in-term 0 b []

pub code_same : (a b : Kind) (x y : ℕ) → type_code a ≡ x ∷ [] → type_code b ≡ y ∷ [] → ◌≡◌ {A = Option Kind} (Some a) (Some b) → x ≡ y
code_same a b x y first second same = ap (λ xs. get_or xs 0 0) (sym first ∙ ap (λ (o : Option Kind). option_map_or type_code o []) same ∙ second)

pub same_tests : (a b : Bool) → (a ≡ true → b ≡ true) → (b ≡ true → a ≡ true) → a ≡ b
same_tests true b to from = sym (to refl)
same_tests false true to from = from refl
same_tests false false to from = refl

-- terms of a field are equal where their values are
pub same_keys : (f : ℕ) (kind : Kind) (key q : List ℕ) → bytes_eq (term_bytes f kind key) (term_bytes f kind q) ≡ bytes_eq key q
same_keys f kind key q = same_tests _ _
    (λ e. (bytes_eq-Decides key q).1 (sym (payload_of-term f kind key) ∙ ap payload_of ((bytes_eq-Decides (term_bytes f kind key) (term_bytes f kind q)).0 e) ∙ payload_of-term f kind q))
    (λ e. (bytes_eq-Decides (term_bytes f kind key) (term_bytes f kind q)).1 (ap (term_bytes f kind) ((bytes_eq-Decides key q).0 e)))

-- terms of two fields aren't equal
pub other_fields : (f g : ℕ) (kind other : Kind) (key q : List ℕ) → f < 2 ^ 32 → g < 2 ^ 32 → g ≢ f → bytes_eq (term_bytes f kind key) (term_bytes g other q) ≡ false
other_fields f g kind other key q fits too apart = false_from_ne_true _ (λ e. apart (sym (field_of-term g other q too) ∙ sym (ap field_of ((bytes_eq-Decides (term_bytes f kind key) (term_bytes g other q)).0 e)) ∙ field_of-term f kind key fits))

-- nor are those of two kinds
pub other_kinds : (f g : ℕ) (kind other : Kind) (key q : List ℕ) → (◌≡◌ {A = Option Kind} (Some kind) (Some other) → ⊥) → bytes_eq (term_bytes f kind key) (term_bytes g other q) ≡ false
other_kinds f g kind other key q apart = false_from_ne_true _ (λ e. apart (sym (kind_in-term f kind key) ∙ ap kind_in ((bytes_eq-Decides (term_bytes f kind key) (term_bytes g other q)).0 e) ∙ kind_in-term g other q))

-- ---- a term is put together of its parts

-- what is found passes
found_passes : {X : Type 0} (p : X → Bool) (xs : List X) (x : X) → find p xs ≡ Some x → p x ≡ true
found_passes p [] x found = cc
found_passes p (y ∷ ys) x found = go (p y) refl (λ h. found_passes p ys x h) found
  where
    go : (b : Bool) → p y ≡ b → (find p ys ≡ Some x → p x ≡ true) → cond b (Some y) (find p ys) ≡ Some x → p x ≡ true
    go true passes later same = (let first : y ≡ x = cc in ap p (sym first) ∙ passes)
    go false fails later rest = later rest

-- the code of a term is that of its kind
pub code_of_kind : (t : List ℕ) (kind : Kind) → kind_in t ≡ Some kind → take 1 (drop 4 t) ≡ type_code kind
code_of_kind t kind named = (bytes_eq-Decides (take 1 (drop 4 t)) (type_code kind)).0 (found_passes (λ k. has_kind k t) all_kinds kind named)

one_code : (kind : Kind) → length (type_code kind) ≡ 1
one_code text_kind = refl
one_code u64_kind = refl
one_code i64_kind = refl
one_code bool_kind = refl
one_code date_kind = refl
one_code facet_kind = refl
one_code bytes_kind = refl
one_code json_kind = refl
one_code ip_addr_kind = refl

whole_of : (n : ℕ) (xs : List ℕ) → xs ≡ take n xs ++ drop n xs
whole_of zero xs = refl
whole_of (suc n) [] = refl
whole_of (suc n) (x ∷ xs) = ap (λ ys. x ∷ ys) (whole_of n xs)

pub taken_bytes : (n : ℕ) (xs : List ℕ) → AreBytes xs → AreBytes (take n xs)
taken_bytes zero xs bytes i = omega arith
taken_bytes (suc n) [] bytes i = omega arith
taken_bytes (suc n) (x ∷ xs) bytes zero = bytes zero
taken_bytes (suc n) (x ∷ xs) bytes (suc i) = taken_bytes n xs (λ j. bytes (suc j)) i

four_taken : (xs : List ℕ) → length (take 1 (drop 4 xs)) ≡ 1 → length (take 4 xs) ≡ 4
four_taken [] long = absurd (omega (arith, long))
four_taken (a ∷ []) long = absurd (omega (arith, long))
four_taken (a ∷ b ∷ []) long = absurd (omega (arith, long))
four_taken (a ∷ b ∷ c ∷ []) long = absurd (omega (arith, long))
four_taken (a ∷ b ∷ c ∷ d ∷ xs) long = refl

pub whole_term : (t : List ℕ) (kind : Kind) → AreBytes t → kind_in t ≡ Some kind → t ≡ term_bytes (field_of t) kind (payload_of t)
whole_term t kind bytes named =
    let code = code_of_kind t kind named in
    let four = four_taken t (ap length code ∙ one_code kind) in
    let front : to_be_bytes w32 (field_of t) ≡ take 4 t = be_bytes_4 (take 4 t) (field_of t) four (taken_bytes 4 t bytes) refl in
    whole_of 4 t
    ∙ ap (λ xs. xs ++ drop 4 t) (sym front)
    ∙ ap (λ xs. to_be_bytes w32 (field_of t) ++ xs) (whole_of 1 (drop 4 t) ∙ ap (λ xs. xs ++ drop 1 (drop 4 t)) code ∙ ap (λ xs. type_code kind ++ xs) (drop-drop 1 4 t))

-- ---- texts

-- of the kinds of leaves text comes first
leaf_is_text : (a b c d e : Bool) → option_map_or is_text (cond a (Some text_kind) (cond b (Some u64_kind) (cond c (Some i64_kind) (cond d (Some bool_kind) (cond e (Some date_kind) None))))) false ≡ a
leaf_is_text true b c d e = refl
leaf_is_text false true c d e = refl
leaf_is_text false false true d e = refl
leaf_is_text false false false true e = refl
leaf_is_text false false false false true = refl
leaf_is_text false false false false false = refl

-- a term is a text's where its value bytes are
pub text_terms : (f : ℕ) (kind : Kind) (key : List ℕ) → is_text_term (term_bytes f kind key) ≡ is_text_key kind key
text_terms f text_kind key = refl
text_terms f u64_kind key = refl
text_terms f i64_kind key = refl
text_terms f bool_kind key = refl
text_terms f date_kind key = refl
text_terms f facet_kind key = refl
text_terms f bytes_kind key = refl
text_terms f json_kind key = leaf_is_text _ _ _ _ _
text_terms f ip_addr_kind key = refl
