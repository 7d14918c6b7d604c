-- Groups of hexadecimal digits: the definition and the grammar of `parse` name the same texts.
use Rattle.std.proofs.Common.{[], Bool, List, None, Option, Some, ap, ap₂, append-nil, arith, cond, decimal, eqb-true, false, fold, if◌then◌else◌, inl, inr, le-leb, leb-true, length, lit≤, lt-ltb, ltb-true, nat_lt, option_map, refl, subst, sym, true, ◌&&◌, ◌%◌, ◌++◌, ◌+◌, ◌*◌, ◌/◌, ◌<◌, ◌==◌, ◌^◌, ◌∙◌, ◌∷◌, ◌≡◌, ◌≤◌, ℕ}
use Rattle.std.specs.List.{join_with_byte, list_all}
use Rattle.std.specs.Char.{digit_value, is_ascii_hexdigit}
use Rattle.std.specs.Net.Addr.{segments_of}
use Rattle.std.specs.Net.Grammar.{IsDotted, IsGroup, IsGroupsAfter}
use Rattle.std.specs.Str.Parse.{AllDigits, digits_value_after}
use Rattle.std.proofs.lemmas.Bool.{agree_below_at, and_from, and_parts, cases_lt, cond-false, cond-true, eqb-false, false_from_ne_true}
use Rattle.std.proofs.lemmas.Bool.Decides.{nat_tests}
use Rattle.std.proofs.lemmas.Option.{none-some, same_Some}
use Rattle.definitions.proofs.Lists.{map_some}
use Rattle.definitions.specs.Addresses.{digits_value, groups_of, is_group, joined, parts_at, quad_groups, quad_in}
use Rattle.values_json.proofs.Parts.{Lacks, first_part, lacks_append, lacks_digits, one_part}
use Rattle.values_json.proofs.QuadTexts.{dots, lacks_decimal, quad_read, quad_written}

-- ---- one group

far_value : (c : ℕ) → 128 ≤ c → digit_value c ≡ 36
far_value c far = grind (arith, nat_tests)

far_digit : (c : ℕ) → 128 ≤ c → is_ascii_hexdigit c ≡ false
far_digit c far = grind (arith, nat_tests)

same_test : (c : ℕ) → nat_lt (digit_value c) 16 ≡ is_ascii_hexdigit c
same_test c = elim (cases_lt c 128) [
  | inl near ↦ agree_below_at (λ b. nat_lt (digit_value b) 16) is_ascii_hexdigit 128 c refl near
  | inr far ↦ ap (λ v. nat_lt v 16) (far_value c far) ∙ sym (far_digit c far)
]

hex_written : (ds : List ℕ) → AllDigits 16 ds → list_all is_ascii_hexdigit ds ≡ true
hex_written [] digits = refl
hex_written (d ∷ ds) digits = ap₂ ◌&&◌ (sym (same_test d) ∙ lt-ltb (digit_value d) 16 digits.0) (hex_written ds digits.1)

hex_read : (ds : List ℕ) → list_all is_ascii_hexdigit ds ≡ true → AllDigits 16 ds
hex_read [] pass = tt
hex_read (d ∷ ds) pass = (let parts = and_parts (is_ascii_hexdigit d) (list_all is_ascii_hexdigit ds) pass in (ltb-true (digit_value d) 16 (same_test d ∙ parts.0), hex_read ds parts.1))

same_value : (base n : ℕ) (ds : List ℕ) → digits_value_after base n ds ≡ fold (λ m d. m * base + digit_value d) n ds
same_value base n [] = refl
same_value base n (d ∷ ds) = same_value base (n * base + digit_value d) ds

group_written : (s : List ℕ) (n : ℕ) → IsGroup s n → (is_group s ≡ true) × (digits_value 16 s ≡ n)
group_written s n h = (
  and_from _ _ (and_from _ _ (lt-ltb 0 (length s) h.0.0.0) (le-leb (length s) 4 h.1)) (hex_written s h.0.0.1),
  sym (same_value 16 0 s) ∙ h.0.1,
)

group_read : (s : List ℕ) → is_group s ≡ true → IsGroup s (digits_value 16 s)
group_read s group =
    let outer = and_parts _ _ group in
    let inner = and_parts _ _ outer.0 in
    (((ltb-true 0 (length s) inner.0, hex_read s outer.1), same_value 16 0 s), leb-true (length s) 4 inner.1)

pub lacks_colon : (s : List ℕ) (n : ℕ) → IsGroup s n → Lacks 58 s
lacks_colon s n h = lacks_digits 58 16 (lit≤ tt) s h.0.0.1

-- ---- a quad in place of two groups

pub dotted_lacks_colon : (text octets : List ℕ) → IsDotted text octets → Lacks 58 text
dotted_lacks_colon text octets h =
    let lacks : (n : ℕ) → n < 256 → Lacks 58 (decimal n) = λ n fits. lacks_decimal 58 n (lit≤ tt) fits in
    let flat : Lacks 58 (decimal h.a ++ 46 ∷ (decimal h.b ++ 46 ∷ (decimal h.c ++ 46 ∷ decimal h.d))) =
    lacks_append 58 (decimal h.a) _ (lacks h.a h.fit.0) (refl, lacks_append 58 (decimal h.b) _ (lacks h.b h.fit.1) (refl, lacks_append 58 (decimal h.c) _ (lacks h.c h.fit.2) (refl, lacks h.d h.fit.3))) in
    rw (h.spelled, dots h.a h.b h.c h.d) flat

has_separator : (sep : ℕ) (xs ys : List ℕ) → Lacks sep (xs ++ sep ∷ ys) → ⊥
has_separator sep [] ys lacks = eqb-false sep sep lacks.0 refl
has_separator sep (x ∷ xs) ys lacks = has_separator sep xs ys lacks.1

dotted_is_no_group : (text octets : List ℕ) → IsDotted text octets → is_group text ≡ false
dotted_is_no_group text octets h =
    let refused : is_group text ≡ true → ⊥ = λ group.
    has_separator 46 (decimal h.a) (decimal h.b ++ 46 ∷ (decimal h.c ++ 46 ∷ decimal h.d)) (subst (Lacks 46) (h.spelled ∙ dots h.a h.b h.c h.d) (lacks_digits 46 16 (lit≤ tt) text (group_read text group).0.0.1)) in
    false_from_ne_true (is_group text) refused

halves : (a b c d : ℕ) → (a < 256) × (b < 256) × (c < 256) × (d < 256) → joined 256 (a ∷ b ∷ c ∷ d ∷ []) / 2 ^ 16 ∷ joined 256 (a ∷ b ∷ c ∷ d ∷ []) % 2 ^ 16 ∷ [] ≡ segments_of (a ∷ b ∷ c ∷ d ∷ [])
halves a b c d fit =
    let high : joined 256 (a ∷ b ∷ c ∷ d ∷ []) / 2 ^ 16 ≡ a * 256 + b = omega (arith, fit) in
    let low : joined 256 (a ∷ b ∷ c ∷ d ∷ []) % 2 ^ 16 ≡ c * 256 + d = omega (arith, fit) in
    ap₂ (λ x y. x ∷ y ∷ []) high low

two_groups : (text octets : List ℕ) → IsDotted text octets → (joined 256 octets / 2 ^ 16 ∷ joined 256 octets % 2 ^ 16 ∷ []) ≡ segments_of octets
two_groups text octets h = rw h.value (halves h.a h.b h.c h.d h.fit)

quad_groups_written : (text octets : List ℕ) → IsDotted text octets → quad_groups text ≡ Some (segments_of octets)
quad_groups_written text octets h = ap (option_map (λ n. n / 2 ^ 16 ∷ n % 2 ^ 16 ∷ [])) (quad_written text octets h) ∙ ap Some (two_groups text octets h)

-- ---- groups with colons between them

pub after_colon : (quad : Bool) (s : ℕ) (more text : List ℕ) → IsGroupsAfter quad (58 ∷ []) text (s ∷ more) → (rest : List ℕ) × (text ≡ 58 ∷ rest) × IsGroupsAfter quad [] rest (s ∷ more)
after_colon quad s more text (inl h) = (h.0 ++ h.1, h.2, inl (h.0, h.1, refl, h.3, h.4))
after_colon quad s more text (inr h) = (h.0, h.3, inr (h.0, h.1, h.2, refl, h.4, h.5))

behind_colon : (quad : Bool) (s : ℕ) (more text : List ℕ) → IsGroupsAfter quad [] text (s ∷ more) → IsGroupsAfter quad (58 ∷ []) (58 ∷ text) (s ∷ more)
behind_colon quad s more text (inl h) = inl (h.0, h.1, ap (λ t. 58 ∷ t) h.2, h.3, h.4)
behind_colon quad s more text (inr h) = inr (h.0, h.1, h.2, ap (λ t. 58 ∷ t) h.3, h.4, h.5)

-- a part that is a group
of_group : (quad : Bool) (p : List ℕ) (n : ℕ) (ps : List (List ℕ)) → IsGroup p n → groups_of quad (p ∷ ps) ≡ option_map (λ gs. n ∷ gs) (groups_of quad ps)
of_group quad p n ps h =
    let is = group_written p n h in
    cond-true (is_group p) (option_map (λ gs. digits_value 16 p ∷ gs) (groups_of quad ps)) (if quad && (length ps == 0) then quad_groups p else None) is.0
    ∙ ap (λ v. option_map (λ gs. v ∷ gs) (groups_of quad ps)) is.1

-- a last part that is a quad
of_quad : (quad : Bool) (p octets : List ℕ) → quad ≡ true → IsDotted p octets → groups_of quad (p ∷ []) ≡ Some (segments_of octets)
of_quad quad p octets may h =
    cond-false (is_group p) (option_map (λ gs. digits_value 16 p ∷ gs) (Some [])) (if quad && true then quad_groups p else None) (dotted_is_no_group p octets h)
    ∙ ap (λ b. if b && true then quad_groups p else None) may
    ∙ quad_groups_written p octets h

pub parts_written : (quad : Bool) (s : ℕ) (more text : List ℕ) → IsGroupsAfter quad [] text (s ∷ more) → groups_of quad (parts_at 58 text) ≡ Some (s ∷ more)
parts_written quad s [] text (inl h) =
    ap (λ t. groups_of quad (parts_at 58 t)) (h.2 ∙ ap (λ r. h.0 ++ r) h.4 ∙ append-nil h.0)
    ∙ ap (groups_of quad) (one_part 58 h.0 (lacks_colon h.0 s h.3))
    ∙ of_group quad h.0 s [] h.3
parts_written quad s (next ∷ more) text (inl h) =
    let (rest, spelled, groups) = after_colon quad next more h.1 h.4 in
    ap (λ t. groups_of quad (parts_at 58 t)) (h.2 ∙ ap (λ r. h.0 ++ r) spelled)
    ∙ ap (groups_of quad) (first_part 58 h.0 rest (lacks_colon h.0 s h.3))
    ∙ of_group quad h.0 s (parts_at 58 rest) h.3
    ∙ ap (option_map (λ gs. s ∷ gs)) (parts_written quad next more rest groups)
parts_written quad s more text (inr h) =
    ap (λ t. groups_of quad (parts_at 58 t)) h.3
    ∙ ap (groups_of quad) (one_part 58 h.0 (dotted_lacks_colon h.0 h.1 h.4))
    ∙ of_quad quad h.0 h.1 h.2 h.4
    ∙ ap Some (sym h.5)

then_some : {A : Type 0} (b : Bool) (o : Option A) (y : A) → cond b o None ≡ Some y → (b ≡ true) × (o ≡ Some y)
then_some true o y e = (refl, e)
then_some false o y e = absurd (none-some y e)

-- the groups, of which there is a first
abbrev pub Found : Bool → List ℕ → List ℕ → Type 0
Found quad text segments = (s : ℕ) × (more : List ℕ) × (segments ≡ s ∷ more) × IsGroupsAfter quad [] text (s ∷ more)

quad_found : (quad : Bool) (p segments : List ℕ) → quad ≡ true → quad_groups p ≡ Some segments → Found quad p segments
quad_found quad p segments may read =
    let (n, quad_is, halves_are) = map_some (λ n. n / 2 ^ 16 ∷ n % 2 ^ 16 ∷ []) (quad_in p) segments read in
    let (octets, dotted, value) = quad_read p n quad_is in
    let two = ap segments_of dotted.value in (
      dotted.a * 256 + dotted.b,
      (dotted.c * 256 + dotted.d) ∷ [],
      sym halves_are ∙ ap (λ m. m / 2 ^ 16 ∷ m % 2 ^ 16 ∷ []) (sym value) ∙ two_groups p octets dotted ∙ two,
      inr (p, octets, may, refl, dotted, sym two),
    )

-- a first part as a group, and as the last two groups
abbrev as_group : Bool → List ℕ → List (List ℕ) → Option (List ℕ)
as_group quad p ps = option_map (λ gs. digits_value 16 p ∷ gs) (groups_of quad ps)

abbrev as_quad : Bool → List ℕ → List (List ℕ) → Option (List ℕ)
as_quad quad p ps = if quad && (length ps == 0) then quad_groups p else None

pub parts_read : (quad : Bool) (p : List ℕ) (ps : List (List ℕ)) (segments : List ℕ) → groups_of quad (p ∷ ps) ≡ Some segments → Found quad (join_with_byte 58 (p ∷ ps)) segments
parts_read quad p [] segments read = go (is_group p) refl
  where
    go : (b : Bool) → is_group p ≡ b → Found quad p segments
    go true group = (
      digits_value 16 p,
      [],
      sym (same_Some _ segments (sym (cond-true (is_group p) (Some (digits_value 16 p ∷ [])) (if quad && true then quad_groups p else None) group) ∙ read)),
      inl (p, [], sym (append-nil p), group_read p group, refl),
    )
    go false other =
        let last = then_some (quad && true) (quad_groups p) segments (sym (cond-false (is_group p) (Some (digits_value 16 p ∷ [])) (if quad && true then quad_groups p else None) other) ∙ read) in
        quad_found quad p segments (and_parts quad true last.0).0 last.1
parts_read quad p (q ∷ ps) segments read = go (λ found read_on. parts_read quad q ps found read_on) (is_group p) refl
  where
    go : ((found : List ℕ) → groups_of quad (q ∷ ps) ≡ Some found → Found quad (join_with_byte 58 (q ∷ ps)) found) → (b : Bool) → is_group p ≡ b → Found quad (join_with_byte 58 (p ∷ q ∷ ps)) segments
    go later true group =
        let (found, read_on, are) = map_some (λ gs. digits_value 16 p ∷ gs) (groups_of quad (q ∷ ps)) segments (sym (cond-true (is_group p) (as_group quad p (q ∷ ps)) (as_quad quad p (q ∷ ps)) group) ∙ read) in
        let (s, more, split, groups) = later found read_on in (
          digits_value 16 p,
          s ∷ more,
          sym are ∙ ap (λ gs. digits_value 16 p ∷ gs) split,
          inl (p, 58 ∷ join_with_byte 58 (q ∷ ps), refl, group_read p group, behind_colon quad s more (join_with_byte 58 (q ∷ ps)) groups),
        )
    go later false other =
        let alone = then_some (quad && (length (q ∷ ps) == 0)) (quad_groups p) segments (sym (cond-false (is_group p) (as_group quad p (q ∷ ps)) (as_quad quad p (q ∷ ps)) other) ∙ read) in
        let none = eqb-true (length (q ∷ ps)) 0 (and_parts quad (length (q ∷ ps) == 0) alone.0).1 in
        absurd (omega (arith, none))
