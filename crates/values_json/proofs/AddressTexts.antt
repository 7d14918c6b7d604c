-- Addresses as texts: the definition and the grammar of `parse` name the same texts.
use Rattle.std.proofs.Common.{[], Bool, List, None, Option, Some, ap, ap₂, append-nil, append_assoc, arith, codes, cond, decimal, drop, eq-eqb, eqb-true, false, if◌then◌else◌, inl, inr, length, lit≤, lt-ltb, ltb-true, nat_eq, nat_lt, option_and_then, option_map, refl, replicate, subst, sym, true, ◌&&◌, ◌++◌, ◌+◌, ◌-◌, ◌<◌, ◌==◌, ◌^◌, ◌∙◌, ◌∷◌, ◌≡◌, ℕ}
use Rattle.std.specs.List.{join_with_byte, starts_with}
use Rattle.std.specs.Int.{from_be_bytes, w128, w32}
use Rattle.std.specs.Net.Addr.{octets_of}
use Rattle.std.specs.Net.Grammar.{IsColonHex, IsDotted, IsGroups, IsGroupsAfter}
use Rattle.std.proofs.lemmas.Bool.{and_parts, cases_Bool, cond-false, cond-true, false≢true}
use Rattle.std.proofs.lemmas.Bool.Decides.{nat_tests}
use Rattle.std.proofs.lemmas.Fmt.{decimal_nonempty}
use Rattle.std.proofs.lemmas.Option.{cond_some, none-some, option_and_then_some, same_Some, some_pair_parts}
use Rattle.definitions.specs.Addresses.{address_in, eight_groups, filled, groups_in, groups_of, joined, mapped, parts_at, quad_in, round_gap}
use Rattle.values_json.proofs.GroupTexts.{after_colon, dotted_lacks_colon, lacks_colon, parts_read, parts_written}
use Rattle.definitions.proofs.Lists.{map_some}
use Rattle.values_json.proofs.Parts.{Lacks, parts_joined}
use Rattle.values_json.proofs.QuadTexts.{dots, lacks_decimal, quad_read, quad_written}

-- ---- the first `::`

-- what stands round it, behind a text
abbrev past : List ℕ → Option (List ℕ × List ℕ) → Option (List ℕ × List ℕ)
past t o = option_map (λ p. (t ++ p.0, p.1)) o

past_none : (o : Option (List ℕ × List ℕ)) → past [] o ≡ o
past_none None = refl
past_none (Some p) = refl

past_both : (t u : List ℕ) (o : Option (List ℕ × List ℕ)) → past t (past u o) ≡ past (t ++ u) o
past_both t u None = refl
past_both t u (Some p) = ap (λ (f : List ℕ). ◌≡◌-some (f, p.1)) (sym (append_assoc t u p.0))
  where
    ◌≡◌-some : List ℕ × List ℕ → Option (List ℕ × List ℕ)
    ◌≡◌-some q = Some q

colon_test : (c : ℕ) → nat_eq 58 c ≡ (58 == c)
colon_test c = grind (arith, nat_tests)

-- a byte that is no colon
past_byte : (c : ℕ) (cs : List ℕ) → (58 == c) ≡ false → round_gap (c ∷ cs) ≡ past (c ∷ []) (round_gap cs)
past_byte c cs other = ap (λ b. cond (b && starts_with nat_eq cs (codes ":")) (Some ([], drop 1 cs)) (past (c ∷ []) (round_gap cs))) (colon_test c ∙ other)

-- a colon before a byte that is none
past_colon : (c : ℕ) (cs : List ℕ) → (58 == c) ≡ false → round_gap (58 ∷ c ∷ cs) ≡ past (58 ∷ []) (round_gap (c ∷ cs))
past_colon c cs other = ap (λ b. cond (b && true) (Some ([], cs)) (past (58 ∷ []) (round_gap (c ∷ cs)))) (colon_test c ∙ other)

past_lacking : (t rest : List ℕ) → Lacks 58 t → round_gap (t ++ rest) ≡ past t (round_gap rest)
past_lacking [] rest lacks = sym (past_none (round_gap rest))
past_lacking (c ∷ t) rest lacks = past_byte c (t ++ rest) lacks.0 ∙ ap (past (c ∷ [])) (past_lacking t rest lacks.1) ∙ past_both (c ∷ []) t (round_gap rest)

-- the first byte of groups is no colon
Begins : List ℕ → Type 0
Begins text = (c : ℕ) × (cs : List ℕ) × (text ≡ c ∷ cs) × ((58 == c) ≡ false)

begins_lacking : (g rest text : List ℕ) → text ≡ g ++ rest → 0 < length g → Lacks 58 g → Begins text
unfolding Begins
begins_lacking [] rest text spelled some lacks = absurd (omega (arith, some))
begins_lacking (c ∷ cs) rest text spelled some lacks = (c, cs ++ rest, spelled, lacks.0)

groups_begin : (quad : Bool) (s : ℕ) (more text : List ℕ) → IsGroupsAfter quad [] text (s ∷ more) → Begins text
groups_begin quad s more text (inl h) = begins_lacking h.0 h.1 text h.2 h.3.0.0.0 (lacks_colon h.0 s h.3)
groups_begin quad s more text (inr h) = (let d = h.4 in begins_lacking (decimal d.a) (46 ∷ (decimal d.b ++ 46 ∷ (decimal d.c ++ 46 ∷ decimal d.d))) text (h.3 ∙ d.spelled ∙ dots d.a d.b d.c d.d) (decimal_nonempty d.a (let fits = d.fit.0 in omega (arith, fits))) (lacks_decimal 58 d.a (lit≤ tt) d.fit.0))

-- a colon before groups
past_colon_before : (t rest : List ℕ) → Begins t → round_gap (58 ∷ (t ++ rest)) ≡ past (58 ∷ []) (round_gap (t ++ rest))
unfolding Begins
past_colon_before t rest (c, cs, is, other) = rw is (past_colon c (cs ++ rest) other)

-- groups hold no `::`
past_groups : (quad : Bool) (segments text rest : List ℕ) → IsGroupsAfter quad [] text segments → round_gap (text ++ rest) ≡ past text (round_gap rest)
past_groups quad [] text rest empty = ap (λ t. round_gap (t ++ rest)) empty ∙ sym (past_none (round_gap rest)) ∙ ap (λ t. past t (round_gap rest)) (sym empty)
past_groups quad (s ∷ []) text rest (inl h) =
    let lone : text ≡ h.0 = h.2 ∙ ap (λ r. h.0 ++ r) h.4 ∙ append-nil h.0 in
    past_lacking text rest (subst (Lacks 58) (sym lone) (lacks_colon h.0 s h.3))
past_groups quad (s ∷ next ∷ more) text rest (inl h) =
    let (later, spelled, groups) = after_colon quad next more h.1 h.4 in
    let whole : text ≡ h.0 ++ 58 ∷ later = h.2 ∙ ap (λ r. h.0 ++ r) spelled in
    ap (λ t. round_gap (t ++ rest)) whole
    ∙ ap round_gap (append_assoc h.0 (58 ∷ later) rest)
    ∙ past_lacking h.0 (58 ∷ (later ++ rest)) (lacks_colon h.0 s h.3)
    ∙ ap (past h.0) (past_colon_before later rest (groups_begin quad next more later groups))
    ∙ ap (λ o. past h.0 (past (58 ∷ []) o)) (past_groups quad (next ∷ more) later rest groups)
    ∙ ap (past h.0) (past_both (58 ∷ []) later (round_gap rest))
    ∙ past_both h.0 (58 ∷ later) (round_gap rest)
    ∙ ap (λ t. past t (round_gap rest)) (sym whole)
past_groups quad (s ∷ more) text rest (inr h) = past_lacking text rest (subst (Lacks 58) (sym h.3) (dotted_lacks_colon h.0 h.1 h.4))

is_colon : (c : ℕ) → nat_eq 58 c ≡ true → c ≡ 58
is_colon c test = grind (arith, nat_tests)

two_colons : (c : ℕ) (cs : List ℕ) → starts_with nat_eq (c ∷ cs) (codes "::") ≡ true → c ∷ cs ≡ 58 ∷ 58 ∷ drop 1 cs
two_colons c [] test = absurd (false≢true (and_parts (nat_eq 58 c) false test).1)
two_colons c (d ∷ ds) test =
    let first = and_parts (nat_eq 58 c) (nat_eq 58 d && true) test in
    let second = and_parts (nat_eq 58 d) true first.1 in
    ap₂ (λ x y. x ∷ y ∷ ds) (is_colon c first.0) (is_colon d second.0)

-- what was found stands round a `::`
gap_found : (text front back : List ℕ) → round_gap text ≡ Some (front, back) → text ≡ front ++ 58 ∷ 58 ∷ back
gap_found [] front back found = absurd (none-some (front, back) found)
gap_found (c ∷ cs) front back found =
    let here : Option (List ℕ × List ℕ) = Some ([], drop 1 cs) in
    let later = past (c ∷ []) (round_gap cs) in
    let test = starts_with nat_eq (c ∷ cs) (codes "::") in
    elim (cases_Bool test) [
      | inl opens ↦
          let parts = some_pair_parts [] front (drop 1 cs) back (sym (cond-true test here later opens) ∙ found) in
          two_colons c cs opens ∙ ap₂ (λ f b. f ++ 58 ∷ 58 ∷ b) parts.0 parts.1
      | inr other ↦
          let (p, found_on, is) = map_some (λ p. (c ∷ p.0, p.1)) (round_gap cs) (front, back) (sym (cond-false test here later other) ∙ found) in
          ap (λ t. c ∷ t) (gap_found cs p.0 p.1 found_on) ∙ ap (λ q. q.0 ++ 58 ∷ 58 ∷ q.1) is
    ]

-- ---- eight groups

groups_written : (quad : Bool) (segments text : List ℕ) → IsGroups quad text segments → groups_in quad text ≡ Some segments
unfolding Begins
groups_written quad [] text empty = ap (groups_in quad) empty
groups_written quad (s ∷ more) text groups = at_begin (groups_begin quad s more text groups)
  where
    at_begin : Begins text → groups_in quad text ≡ Some (s ∷ more)
    at_begin (c, cs, is, other) = ap (groups_in quad) is ∙ ap (λ t. groups_of quad (parts_at 58 t)) (sym is) ∙ parts_written quad s more text groups

groups_read : (quad : Bool) (segments text : List ℕ) → groups_in quad text ≡ Some segments → IsGroups quad text segments
groups_read quad segments [] read = subst (λ gs. IsGroups quad [] gs) (same_Some [] segments read) refl
groups_read quad segments (c ∷ cs) read = go (parts_at 58 (c ∷ cs)) refl
  where
    go : (ps : List (List ℕ)) → parts_at 58 (c ∷ cs) ≡ ps → IsGroups quad (c ∷ cs) segments
    go [] are = (let none = ap (join_with_byte 58) (sym are) ∙ parts_joined 58 (c ∷ cs) in cc)
    go (p ∷ ps) are =
        let (s, more, split, groups) = parts_read quad p ps segments (ap (groups_of quad) (sym are) ∙ read) in
        let whole = ap (join_with_byte 58) (sym are) ∙ parts_joined 58 (c ∷ cs) in
        subst (λ gs. IsGroups quad (c ∷ cs) gs) (sym split) (subst (λ t. IsGroups quad t (s ∷ more)) whole groups)

-- by what stands round the first `::`
abbrev eight_of : List ℕ → Option (List ℕ × List ℕ) → Option (List ℕ)
eight_of s o = elim o [ None ↦ option_and_then (λ gs. if length gs == 8 then Some gs else None) (groups_in true s) | Some p ↦ option_and_then (λ front. option_and_then (filled front) (groups_in true p.1)) (groups_in false p.0) ]

filled_groups : (head tail : List ℕ) → length head + length tail < 8 → filled head tail ≡ Some (head ++ replicate (8 - length head - length tail) 0 ++ tail)
filled_groups head tail room =
    let zeros : 8 - (length head + length tail) ≡ 8 - length head - length tail = omega arith in
    cond-true (nat_lt (length head + length tail) 8) (Some (head ++ (replicate (8 - (length head + length tail)) 0 ++ tail))) None (lt-ltb (length head + length tail) 8 room)
    ∙ ap (λ k. Some (head ++ (replicate k 0 ++ tail))) zeros
    ∙ ap Some (sym (append_assoc head (replicate (8 - length head - length tail) 0) tail))

eight_written : (text segments : List ℕ) → IsColonHex text segments → eight_groups text ≡ Some segments
eight_written text segments (inl h) =
    ap (eight_of text) (ap round_gap (sym (append-nil text)) ∙ past_groups true segments text [] h.0)
    ∙ ap (option_and_then (λ gs. if length gs == 8 then Some gs else None)) (groups_written true segments text h.0)
    ∙ cond-true (length segments == 8) (Some segments) None (eq-eqb (length segments) 8 h.1)
eight_written text segments (inr h) =
    let spelled : text ≡ h.head_text ++ 58 ∷ 58 ∷ h.tail_text = h.spelled ∙ append_assoc h.head_text (58 ∷ 58 ∷ []) h.tail_text in
    let of : List ℕ → Option (List ℕ × List ℕ) = λ t. Some (t, h.tail_text) in
    ap (eight_of text) (ap round_gap spelled ∙ past_groups false h.head h.head_text (58 ∷ 58 ∷ h.tail_text) h.head_groups ∙ ap of (append-nil h.head_text))
    ∙ ap₂ (λ f b. option_and_then (λ front. option_and_then (filled front) b) f) (groups_written false h.head h.head_text h.head_groups) (groups_written true h.tail h.tail_text h.tail_groups)
    ∙ filled_groups h.head h.tail h.room
    ∙ ap Some (sym h.value)

eight_read : (text segments : List ℕ) → eight_groups text ≡ Some segments → IsColonHex text segments
eight_read text segments read = go (round_gap text) refl
  where
    go : (o : Option (List ℕ × List ℕ)) → round_gap text ≡ o → IsColonHex text segments
    go None gap =
        option_and_then_some (λ gs. if length gs == 8 then Some gs else None) (groups_in true text) segments (sym (ap (eight_of text) gap) ∙ read) (λ gs read_on kept.
        let found = cond_some (length gs == 8) gs segments kept in
        inl (subst (λ g. IsGroups true text g) found.1 (groups_read true gs text read_on), ap length (sym found.1) ∙ eqb-true (length gs) 8 found.0))
    go (Some p) gap =
        option_and_then_some (λ front. option_and_then (filled front) (groups_in true p.1)) (groups_in false p.0) segments (sym (ap (eight_of text) gap) ∙ read) (λ head read_head kept.
        option_and_then_some (filled head) (groups_in true p.1) segments kept (λ tail read_tail last.
        let found = cond_some (nat_lt (length head + length tail) 8) (head ++ (replicate (8 - (length head + length tail)) 0 ++ tail)) segments last in
        let room = ltb-true (length head + length tail) 8 found.0 in
        inr (record {
          head_text = p.0;
          tail_text = p.1;
          head = head;
          tail = tail;
          spelled = gap_found text p.0 p.1 gap ∙ sym (append_assoc p.0 (58 ∷ 58 ∷ []) p.1);
          head_groups = groups_read false head p.0 read_head;
          tail_groups = groups_read true tail p.1 read_tail;
          room = room;
          value = same_Some segments (head ++ replicate (8 - length head - length tail) 0 ++ tail) (sym last ∙ filled_groups head tail room);
        })))

-- ---- addresses

-- by the quad that was read, or not
address_or : List ℕ → Option ℕ → Option ℕ
address_or s o = elim o [ Some n ↦ Some (mapped n) | None ↦ option_map (joined (2 ^ 16)) (eight_groups s) ]

pub quad_address : (text octets : List ℕ) → IsDotted text octets → address_in text ≡ Some (mapped (joined 256 octets))
unfolding address_in address_or
quad_address text octets h = ap (address_or text) (quad_written text octets h)

no_quad : (text : List ℕ) → ((octets : List ℕ) → IsDotted text octets → ⊥) → quad_in text ≡ None
no_quad text none = go (quad_in text) refl
  where
    go : (o : Option ℕ) → quad_in text ≡ o → quad_in text ≡ None
    go None is = is
    go (Some n) is = (let (octets, dotted, value) = quad_read text n is in absurd (none octets dotted))

no_groups : (text : List ℕ) → ((segments : List ℕ) → IsColonHex text segments → ⊥) → eight_groups text ≡ None
no_groups text none = go (eight_groups text) refl
  where
    go : (o : Option (List ℕ)) → eight_groups text ≡ o → eight_groups text ≡ None
    go None is = is
    go (Some segments) is = absurd (none segments (eight_read text segments is))

pub groups_address : (text segments : List ℕ) → ((octets : List ℕ) → IsDotted text octets → ⊥) → IsColonHex text segments → address_in text ≡ Some (joined (2 ^ 16) segments)
unfolding address_in address_or
groups_address text segments none h = ap (address_or text) (no_quad text none) ∙ ap (option_map (joined (2 ^ 16))) (eight_written text segments h)

pub no_address : (text : List ℕ) → ((octets : List ℕ) → IsDotted text octets → ⊥) → ((segments : List ℕ) → IsColonHex text segments → ⊥) → address_in text ≡ None
unfolding address_in address_or
no_address text no_dotted no_hex = ap (address_or text) (no_quad text no_dotted) ∙ ap (option_map (joined (2 ^ 16))) (no_groups text no_hex)

-- ---- their bits

pub quad_bits : (octets : List ℕ) → length octets ≡ 4 → from_be_bytes w32 octets ≡ joined 256 octets
quad_bits [] four = absurd (omega (arith, four))
quad_bits (a ∷ []) four = absurd (omega (arith, four))
quad_bits (a ∷ b ∷ []) four = absurd (omega (arith, four))
quad_bits (a ∷ b ∷ c ∷ []) four = absurd (omega (arith, four))
quad_bits (a ∷ b ∷ c ∷ d ∷ []) four = omega arith
quad_bits (a ∷ b ∷ c ∷ d ∷ e ∷ more) four = absurd (omega (arith, four))

pub group_bits : (segments : List ℕ) → length segments ≡ 8 → from_be_bytes w128 (octets_of segments) ≡ joined (2 ^ 16) segments
group_bits (a ∷ b ∷ c ∷ d ∷ e ∷ f ∷ g ∷ h ∷ []) eight = omega arith
group_bits segments eight = absurd (omega (arith, eight))
