-- What begins with a prefix stands between it and its end.
use Rattle.std.proofs.Common.{[], ◌&&◌, ◌+◌, ◌<◌, ◌==◌, ◌∙◌, ◌∷◌, ◌≡◌, Bool, List, None, Option, Some, ap, ap₂, arith, cond, false, if◌then◌else◌, inl, inr, nat_eq, nat_lt, refl, subst, sym, true, ℕ}
use Rattle.std.specs.Cmp.Lexicographic.{slice_cmp}
use Rattle.std.specs.List.{AllByRecursion, starts_with}
use Rattle.std.specs.Ordering.{is_ge, is_lt, nat_cmp, ordering_then}
use Rattle.std.specs.declared.cmp.Ordering.TheVariants.{Equal, Greater, Less}
use Rattle.std.proofs.lemmas.Bool.{cases_lt, le-ltb, lt-ltb}
use Rattle.std.proofs.lemmas.Bool.Decides.{nat_tests}
use Rattle.definitions.proofs.Lists.{cmp_self as is_equal}
use Rattle.definitions.specs.Prefixes.{is_before, is_from, prefix_end}

-- ---- two numbers

differ : (b c : ℕ) → c < b → nat_eq b c ≡ false
differ b c l = grind (arith, nat_tests)

differ_above : (b c : ℕ) → b < c → nat_eq b c ≡ false
differ_above b c l = grind (arith, nat_tests)

alike : (b : ℕ) → nat_eq b b ≡ true
alike b = grind (arith, nat_tests)

pub is_less : (c b : ℕ) → c < b → nat_cmp c b ≡ Less
is_less c b l = ap (λ t. cond t Less (cond (c == b) Equal Greater)) (lt-ltb c b l)

pub is_greater : (c b : ℕ) → b < c → nat_cmp c b ≡ Greater
is_greater c b l =
    let below : nat_lt c b ≡ false = le-ltb c b (omega arith) in
    ap₂ (λ (t u : Bool). cond t Less (cond u Equal Greater)) below (differ c b l)

-- ---- one byte more

-- the end of a prefix with a byte before it
abbrev pub end_with : ℕ → Option (List ℕ) → Option (List ℕ)
end_with b end = elim end [ Some bytes ↦ Some (b ∷ bytes) | None ↦ if nat_lt b 255 then Some ((b + 1) ∷ []) else None ]

-- bytes with the same byte before them
before_alike : (b : ℕ) (cs : List ℕ) (end : Option (List ℕ)) → is_before (end_with b end) (b ∷ cs) ≡ is_before end cs
before_alike b cs (Some bytes) = ap (λ o. is_lt (ordering_then o (slice_cmp nat_cmp cs bytes))) (is_equal b)
before_alike b cs None = go (nat_lt b 255)
  where
    go : (t : Bool) → is_before (if t then Some ((b + 1) ∷ []) else None) (b ∷ cs) ≡ true
    go true = let l : b < b + 1 = omega arith in ap (λ o. is_lt (ordering_then o (slice_cmp nat_cmp cs []))) (is_less b (b + 1) l)
    go false = refl

-- nothing is below no byte
none_below : (cs : List ℕ) → is_lt (slice_cmp nat_cmp cs []) ≡ false
none_below [] = refl
none_below (c ∷ cs) = refl

-- bytes with a greater byte before them
before_greater : (b c : ℕ) (cs : List ℕ) (end : Option (List ℕ)) → b < c → c < 256 → is_before (end_with b end) (c ∷ cs) ≡ false
before_greater b c cs (Some bytes) l small = ap (λ o. is_lt (ordering_then o (slice_cmp nat_cmp cs bytes))) (is_greater c b l)
before_greater b c cs None l small =
    let below : nat_lt b 255 ≡ true = lt-ltb b 255 (omega arith) in
    ap (λ t. is_before (if t then Some ((b + 1) ∷ []) else None) (c ∷ cs)) below ∙ elim (cases_lt (b + 1) c) [
      | inl more ↦ ap (λ o. is_lt (ordering_then o (slice_cmp nat_cmp cs []))) (is_greater c (b + 1) more)
      | inr no_more ↦ (let e : c ≡ b + 1 = omega (arith, l, no_more) in subst (λ n. is_lt (ordering_then (nat_cmp c n) (slice_cmp nat_cmp cs [])) ≡ false) e (ap (λ o. is_lt (ordering_then o (slice_cmp nat_cmp cs []))) (is_equal c) ∙ none_below cs))
    ]

-- ---- the range

-- what is said of bytes and a prefix
abbrev IsRange : List ℕ → List ℕ → Type 0
IsRange prefix bytes = starts_with nat_eq bytes prefix ≡ (is_from prefix bytes && is_before (prefix_end prefix) bytes)

less_range : (b c : ℕ) (bs cs : List ℕ) → c < b → IsRange (b ∷ bs) (c ∷ cs)
less_range b c bs cs l =
    ap (λ t. t && starts_with nat_eq cs bs) (differ b c l)
    ∙ sym (ap (λ o. is_ge (ordering_then o (slice_cmp nat_cmp cs bs)) && is_before (prefix_end (b ∷ bs)) (c ∷ cs)) (is_less c b l))

alike_range : (b : ℕ) (bs cs : List ℕ) → IsRange bs cs → IsRange (b ∷ bs) (b ∷ cs)
alike_range b bs cs range =
    ap (λ t. t && starts_with nat_eq cs bs) (alike b)
    ∙ range
    ∙ ap₂ (λ (t u : Bool). t && u) (sym (ap (λ o. is_ge (ordering_then o (slice_cmp nat_cmp cs bs))) (is_equal b))) (sym (before_alike b cs (prefix_end bs)))

greater_range : (b c : ℕ) (bs cs : List ℕ) → b < c → c < 256 → IsRange (b ∷ bs) (c ∷ cs)
greater_range b c bs cs l small =
    ap (λ t. t && starts_with nat_eq cs bs) (differ_above b c l)
    ∙ sym (ap₂ (λ (t u : Bool). t && u) (ap (λ o. is_ge (ordering_then o (slice_cmp nat_cmp cs bs))) (is_greater c b l)) (before_greater b c cs (prefix_end bs) l small))

pub prefix_range : (prefix bytes : List ℕ) → AllByRecursion (λ b. b < 256) bytes → starts_with nat_eq bytes prefix ≡ (is_from prefix bytes && is_before (prefix_end prefix) bytes)
prefix_range [] [] small = refl
prefix_range [] (c ∷ cs) small = refl
prefix_range (b ∷ bs) [] small = refl
prefix_range (b ∷ bs) (c ∷ cs) small = elim (cases_lt c b) [
  | inl less ↦ less_range b c bs cs less
  | inr not_less ↦ elim (cases_lt b c) [
    | inl more ↦ greater_range b c bs cs more small.0
    | inr not_more ↦ (let e : b ≡ c = omega (arith, not_less, not_more) in subst (λ n. IsRange (b ∷ bs) (n ∷ cs)) e (alike_range b bs cs (prefix_range bs cs small.1)))
  ]
]
