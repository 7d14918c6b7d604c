-- Dotted quads: the definition and the grammar of `parse` name the same texts.
use Rattle.std.proofs.Common.{[], Bool, List, None, Option, Some, ap, ap₂, append_assoc, arith, codes, decimal, eq-eqb, eqb-true, false, if◌then◌else◌, get_or, inl, inr, le-leb, leb-true, length, lit≤, lt-ltb, ltb-true, map, nat_eq, ne_eqb, not, refl, sym, true, ◌&&◌, ◌++◌, ◌<◌, ◌==◌, ◌^◌, ◌∙◌, ◌∷◌, ◌≡◌, ◌≤◌, ◌||◌, ℕ}
use Rattle.std.specs.List.{join_with_byte, list_all, starts_with}
use Rattle.std.specs.Char.{digit_value}
use Rattle.std.specs.Net.Grammar.{IsDotted}
use Rattle.std.specs.Net.Text.{dotted_text}
use Rattle.std.proofs.lemmas.Bool.{and_from, and_parts, both_ways, cases_lt, cond-true, not-true, not_from_false, or_cases, or_left, or_right}
use Rattle.std.proofs.lemmas.Bool.Decides.{nat_tests}
use Rattle.std.proofs.lemmas.Fmt.{decimal-digits_value, decimal_digit, decimal_is_IsNumeral, decimal_nonempty, digits_decimal, digits_value-decimal, first_decimal}
use Rattle.std.proofs.lemmas.Option.{cond_some}
use Rattle.definitions.specs.Addresses.{digits_value, is_octet, joined, parts_at, quad_in}
use Rattle.values_json.proofs.NumberTexts.{own}
use Rattle.values_json.proofs.Parts.{Lacks, first_part, lacks_digits, one_part, parts_joined}

-- ---- one number of a quad

zero_first : (s : List ℕ) → 0 < length s → starts_with nat_eq s (codes "0") ≡ (get_or s 0 0 == 48)
zero_first [] some = absurd (omega (arith, some))
zero_first (c ∷ cs) some = both (nat_eq 48 c) ∙ test c
  where
    both : (b : Bool) → (b && true) ≡ b
    both true = refl
    both false = refl

    test : (n : ℕ) → nat_eq 48 n ≡ (n == 48)
    test n = grind (arith, nat_tests)

-- a number below 256 is written as an octet
octet_written : (n : ℕ) → n < 256 → is_octet (decimal n) ≡ true
octet_written n fits =
    let small : n < 2 ^ 64 = omega arith in
    let some = decimal_nonempty n small in
    let one : (length (decimal n) == 1 || not (starts_with nat_eq (decimal n) (codes "0"))) ≡ true = elim (cases_lt n 10) [
      | inl digit ↦ or_left _ _ (eq-eqb (length (decimal n)) 1 (ap length (decimal_digit n digit)))
      | inr more ↦ (let first = first_decimal n (omega arith) small in or_right _ _ (not_from_false _ (zero_first (decimal n) some ∙ ne_eqb (get_or (decimal n) 0 0) 48 (omega (arith, first)))))
    ] in
    and_from _ _ (and_from _ _ (and_from _ _ (digits_decimal own n small) (lt-ltb 0 (length (decimal n)) some)) one) (le-leb (digits_value 10 (decimal n)) 255 (omega (arith, digits_value-decimal own n small)))

-- and each octet is so written
octet_read : (s : List ℕ) → is_octet s ≡ true → (digits_value 10 s < 256) × (decimal (digits_value 10 s) ≡ s)
octet_read s octet =
    let outer = and_parts _ _ octet in
    let middle = and_parts _ _ outer.0 in
    let inner = and_parts _ _ middle.0 in
    let some = ltb-true 0 (length s) inner.1 in
    let fits = leb-true (digits_value 10 s) 255 outer.1 in
    let alone : get_or s 0 0 ≡ 48 → length s ≡ 1 = λ zero. elim (or_cases _ _ middle.1) [
      | inl one ↦ eqb-true (length s) 1 one
      | inr other ↦ absurd (both_ways _ (not-true _ other) (zero_first s some ∙ eq-eqb (get_or s 0 0) 48 zero))
    ] in
    (omega (arith, fits), decimal-digits_value own s inner.0 some alone (omega (arith, fits)))

-- ---- four of them

pub dots : (a b c d : ℕ) → dotted_text a b c d ≡ decimal a ++ 46 ∷ (decimal b ++ 46 ∷ (decimal c ++ 46 ∷ decimal d))
dots a b c d = simp append_assoc

-- a number's digits lack what is no digit
pub lacks_decimal : (sep n : ℕ) → 10 ≤ digit_value sep → n < 256 → Lacks sep (decimal n)
lacks_decimal sep n past fits = lacks_digits sep 10 past (decimal n) (decimal_is_IsNumeral n (omega arith)).0.1

quad_of : List (List ℕ) → Option ℕ
quad_of ps = if (length ps == 4) && list_all is_octet ps then Some (joined 256 (map (digits_value 10) ps)) else None

quad_parts : (a b c d : ℕ) → (a < 256) × (b < 256) × (c < 256) × (d < 256) → quad_of (decimal a ∷ decimal b ∷ decimal c ∷ decimal d ∷ []) ≡ Some (joined 256 (a ∷ b ∷ c ∷ d ∷ []))
unfolding quad_of
quad_parts a b c d fit =
    let all : list_all is_octet (decimal a ∷ decimal b ∷ decimal c ∷ decimal d ∷ []) ≡ true =
    and_from _ _ (octet_written a fit.0) (and_from _ _ (octet_written b fit.1) (and_from _ _ (octet_written c fit.2) (and_from _ _ (octet_written d fit.3) refl))) in
    let value : (n : ℕ) → n < 256 → digits_value 10 (decimal n) ≡ n = λ n fits. digits_value-decimal own n (omega arith) in
    let of : ℕ → ℕ → ℕ → ℕ → Option ℕ = λ w x y z. Some (joined 256 (w ∷ x ∷ y ∷ z ∷ [])) in
    let va = digits_value 10 (decimal a) in
    let vb = digits_value 10 (decimal b) in
    let vc = digits_value 10 (decimal c) in
    let vd = digits_value 10 (decimal d) in
    cond-true (list_all is_octet (decimal a ∷ decimal b ∷ decimal c ∷ decimal d ∷ [])) (of va vb vc vd) None all
    ∙ ap₂ (λ w x. of w x vc vd) (value a fit.0) (value b fit.1)
    ∙ ap₂ (λ y z. of a b y z) (value c fit.2) (value d fit.3)

pub quad_written : (text octets : List ℕ) → IsDotted text octets → quad_in text ≡ Some (joined 256 octets)
unfolding quad_of
quad_written text octets h =
    let lacks : (n : ℕ) → n < 256 → Lacks 46 (decimal n) = λ n fits. lacks_decimal 46 n (lit≤ tt) fits in
    let parts =
    ap (parts_at 46) (h.spelled ∙ dots h.a h.b h.c h.d)
    ∙ first_part 46 (decimal h.a) (decimal h.b ++ 46 ∷ (decimal h.c ++ 46 ∷ decimal h.d)) (lacks h.a h.fit.0)
    ∙ ap (λ ps. decimal h.a ∷ ps) (first_part 46 (decimal h.b) (decimal h.c ++ 46 ∷ decimal h.d) (lacks h.b h.fit.1))
    ∙ ap (λ ps. decimal h.a ∷ decimal h.b ∷ ps) (first_part 46 (decimal h.c) (decimal h.d) (lacks h.c h.fit.2))
    ∙ ap (λ ps. decimal h.a ∷ decimal h.b ∷ decimal h.c ∷ ps) (one_part 46 (decimal h.d) (lacks h.d h.fit.3)) in
    ap quad_of parts ∙ quad_parts h.a h.b h.c h.d h.fit ∙ ap (λ octets. Some (joined 256 octets)) (sym h.value)

-- what is read of four parts
module _ (text : List ℕ) (n : ℕ) where
  read_parts : (ps : List (List ℕ)) → join_with_byte 46 ps ≡ text → length ps ≡ 4 → list_all is_octet ps ≡ true → joined 256 (map (digits_value 10) ps) ≡ n → (octets : List ℕ) × IsDotted text octets × (joined 256 octets ≡ n)
  read_parts [] spelled four octets value = absurd (omega (arith, four))
  read_parts (a ∷ []) spelled four octets value = absurd (omega (arith, four))
  read_parts (a ∷ b ∷ []) spelled four octets value = absurd (omega (arith, four))
  read_parts (a ∷ b ∷ c ∷ []) spelled four octets value = absurd (omega (arith, four))
  read_parts (a ∷ b ∷ c ∷ d ∷ []) spelled four octets value =
      let at_a = and_parts _ _ octets in
      let at_b = and_parts _ _ at_a.1 in
      let at_c = and_parts _ _ at_b.1 in
      let at_d = and_parts _ _ at_c.1 in
      let is_a = octet_read a at_a.0 in
      let is_b = octet_read b at_b.0 in
      let is_c = octet_read c at_c.0 in
      let is_d = octet_read d at_d.0 in
      let of : List ℕ → List ℕ → List ℕ → List ℕ → List ℕ = λ w x y z. w ++ 46 ∷ (x ++ 46 ∷ (y ++ 46 ∷ z)) in
      let rebuilt : dotted_text (digits_value 10 a) (digits_value 10 b) (digits_value 10 c) (digits_value 10 d) ≡ of a b c d =
      dots (digits_value 10 a) (digits_value 10 b) (digits_value 10 c) (digits_value 10 d)
      ∙ ap₂ (λ w x. of w x (decimal (digits_value 10 c)) (decimal (digits_value 10 d))) is_a.1 is_b.1
      ∙ ap₂ (λ y z. of a b y z) is_c.1 is_d.1 in (
        map (digits_value 10) (a ∷ b ∷ c ∷ d ∷ []),
        record {
          a = digits_value 10 a;
          b = digits_value 10 b;
          c = digits_value 10 c;
          d = digits_value 10 d;
          fit = (is_a.0, is_b.0, is_c.0, is_d.0);
          value = refl;
          spelled = sym spelled ∙ sym rebuilt;
        },
        value,
      )
  read_parts (a ∷ b ∷ c ∷ d ∷ e ∷ more) spelled four octets value = absurd (omega (arith, four))

pub quad_read : (text : List ℕ) (n : ℕ) → quad_in text ≡ Some n → (octets : List ℕ) × IsDotted text octets × (joined 256 octets ≡ n)
quad_read text n read =
    let ps = parts_at 46 text in
    let found = cond_some ((length ps == 4) && list_all is_octet ps) (joined 256 (map (digits_value 10) ps)) n read in
    let tests = and_parts _ _ found.0 in
    read_parts text n ps (parts_joined 46 text) (eqb-true (length ps) 4 tests.0) tests.1 found.1
