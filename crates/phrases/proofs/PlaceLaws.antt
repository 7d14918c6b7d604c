-- Laws of places: what the costs and the merge find are those of the definitions.
use Rattle.std.proofs.Common.{[], ◌&&◌, ◌+◌, ◌-◌, ◌<◌, ◌==◌, ◌||◌, ◌∙◌, ◌∷◌, ◌≡◌, ◌≤◌, Bool, List, ap, arith, false, filter, if◌then◌else◌, le-leb, min, nat_le, refl, subst, sym, true, ℕ}
use Rattle.std.proofs.lemmas.Bool.{lt-leb, true≢false}
use Rattle.std.proofs.lemmas.Map.Views.{any-filter_same}
use Rattle.std.proofs.lemmas.Bool.Decides.{nat_tests}
use Rattle.definitions.specs.Phrases.{distance}
use Rattle.definitions.specs.Walking.{is_led_to}
use Rattle.phrases.specs.MergeLaws.{Rises-distinct}
use Rattle.phrases.proofs.MergeLaws.{has-low}
use Rattle.phrases.specs.Costs.{IsTable, cheap, costs, least_cost}
use Rattle.phrases.specs.Places.{Ascends, Rises, distinct, has, reached}
use Rattle.phrases.specs.PlaceLaws.{Rises-filter}

-- ---- costs
within-both : (d c s : ℕ) → (nat_le d s && nat_le c (s - d)) ≡ nat_le (d + c) s
within-both d c s = grind (arith, nat_tests)

within-one : (a b s : ℕ) → (nat_le a s || nat_le b s) ≡ nat_le (min a b) s
within-one a b s = grind (arith, nat_tests)

-- likewise of one more list
led-nearest : (before : List (List ℕ)) (most s r : ℕ) (ns : List ℕ) → s < most → ((t n : ℕ) → t < most → is_led_to before t n ≡ nat_le (least_cost most before n) t) → is_led_to (ns ∷ before) s r ≡ nat_le (least_cost most (ns ∷ before) r) s
led-nearest before most s r [] l led = sym (lt-leb most s l)
led-nearest before most s r (n ∷ ns) l led =
    let d : ℕ = distance n r in
    let cost : ℕ = least_cost most before n in
    ap (λ b. (nat_le d s && b) || is_led_to (ns ∷ before) s r) (led (s - d) n (omega (arith, l)))
    ∙ (ap (λ b. b || is_led_to (ns ∷ before) s r) (within-both d cost s)
    ∙ (ap (λ b. nat_le (d + cost) s || b) (led-nearest before most s r ns l led)
    ∙ within-one (d + cost) (least_cost most (ns ∷ before) r) s))

-- the earlier columns lead to a position within a slop where its least cost is within it
pub led-cost : (before : List (List ℕ)) (most s r : ℕ) → s < most → is_led_to before s r ≡ nat_le (least_cost most before r) s
led-cost [] most s r l = sym (le-leb 0 s (omega arith))
led-cost (ns ∷ before) most s r l = led-nearest before most s r ns l (λ t n h. led-cost before most t n h)

-- the positions within the slop are those that the earlier columns lead to
pub cheap-led : (most s next : ℕ) (before : List (List ℕ)) (ps : List ℕ) → s < most → cheap s next (costs most ps before) ≡ filter (is_led_to before s) (distinct next ps)
cheap-led most s next before [] l = refl
cheap-led most s next before (p ∷ ps) l =
    let further = cheap-led most s (p + 1) before ps l in
    let rest = cheap-led most s next before ps l in
    elim (nat_le next p) as (λ b. (if b then (if nat_le (least_cost most before p) s then p ∷ cheap s (p + 1) (costs most ps before) else cheap s (p + 1) (costs most ps before)) else cheap s next (costs most ps before)) ≡ filter (is_led_to before s) (if b then p ∷ distinct (p + 1) ps else distinct next ps)) [
      | true ↦ ap (λ xs. if nat_le (least_cost most before p) s then p ∷ xs else xs) further
          ∙ ap (λ b. if b then p ∷ filter (is_led_to before s) (distinct (p + 1) ps) else filter (is_led_to before s) (distinct (p + 1) ps)) (sym (led-cost before most s p l))
      | false ↦ rest
    ]

-- a table of costs is one
pub IsTable-costs : (most low : ℕ) (before : List (List ℕ)) (ps : List ℕ) → Ascends low ps → ((p : ℕ) → least_cost most before p ≤ most) → IsTable most low (costs most ps before)
IsTable-costs most low before [] a small = tt
IsTable-costs most low before (p ∷ ps) a small = (a.0, small p, IsTable-costs most p before ps a.1 small)

-- ---- no slop

-- what rises hasn't one below it
has-below : (low q : ℕ) (xs : List ℕ) → Rises low xs → q < low → has xs q ≡ false
has-below low q [] r l = refl
has-below low q (x ∷ xs) r l =
    let apart : (x == q) ≡ false = grind (arith, nat_tests, r.0, l) in
    ap (λ b. b || has xs q) apart ∙ has-below (x + 1) q xs r.1 (omega (arith, r.0, l))

has-here : (x : ℕ) (xs : List ℕ) → has (x ∷ xs) x ≡ true
has-here x xs = (let here : (x == x) ≡ true = grind (arith, nat_tests) in ap (λ b. b || has xs x) here)

-- the first of what rises, where the members are the same
first-same : (low x y : ℕ) (xs ys : List ℕ) → Rises low (x ∷ xs) → Rises low (y ∷ ys) → ((q : ℕ) → has (x ∷ xs) q ≡ has (y ∷ ys) q) → y ≤ x
first-same low x y xs ys r t same =
    (elim (nat_le y x) as (λ b. nat_le y x ≡ b → y ≤ x) [
      | true ↦ (λ e. grind (arith, nat_tests, e))
      | false ↦ (λ e. let l : x < y = grind (arith, nat_tests, e) in absurd (true≢false (sym (has-here x xs) ∙ (same x ∙ has-below y x (y ∷ ys) (omega arith, t.1) l))))
    ]) refl

-- the others
rest-same : (x q : ℕ) (xs ys : List ℕ) → Rises (x + 1) xs → Rises (x + 1) ys → has (x ∷ xs) q ≡ has (x ∷ ys) q → has xs q ≡ has ys q
rest-same x q xs ys r t same =
    (elim (nat_le (x + 1) q) as (λ b. nat_le (x + 1) q ≡ b → has xs q ≡ has ys q) [
      | true ↦ (λ e. let apart : (x == q) ≡ false = grind (arith, nat_tests, e) in sym (ap (λ b. b || has xs q) apart) ∙ (same ∙ ap (λ b. b || has ys q) apart))
      | false ↦ (λ e. let l : q < x + 1 = grind (arith, nat_tests, e) in has-below (x + 1) q xs r l ∙ sym (has-below (x + 1) q ys t l))
    ]) refl

-- two lists that rise, with the same members, are one
pub rises-same : (low : ℕ) (xs ys : List ℕ) → Rises low xs → Rises low ys → ((q : ℕ) → has xs q ≡ has ys q) → xs ≡ ys
rises-same low [] [] r t same = refl
rises-same low [] (y ∷ ys) r t same = absurd (true≢false (sym (has-here y ys) ∙ sym (same y)))
rises-same low (x ∷ xs) [] r t same = absurd (true≢false (sym (has-here x xs) ∙ same x))
rises-same low (x ∷ xs) (y ∷ ys) r t same =
    let up = first-same low x y xs ys r t same in
    let down = first-same low y x ys xs t r (λ q. sym (same q)) in
    let e : y ≡ x = omega (arith, up, down) in
    let rises : Rises (x + 1) ys = subst (λ z. Rises (z + 1) ys) e t.1 in
    ap (λ zs. x ∷ zs) (rises-same (x + 1) xs ys r.1 rises (λ q. rest-same x q xs ys r.1 rises (same q ∙ ap (λ z. has (z ∷ ys) q) e)))
    ∙ ap (λ z. z ∷ ys) (sym e)

-- members of what is kept
has-filter : (f : ℕ → Bool) (xs : List ℕ) (q : ℕ) → has (filter f xs) q ≡ (f q && has xs q)
has-filter f xs q = any-filter_same (λ k. k == q) f (f q) (λ k e. ap f (grind (arith, nat_tests, e))) xs

has-distinct : (low next q : ℕ) (ps : List ℕ) → Ascends low ps → has (distinct next ps) q ≡ (nat_le next q && has ps q)
has-distinct low next q [] a = (elim (nat_le next q) as (λ b. false ≡ (b && false)) [ true ↦ refl | false ↦ refl ])
has-distinct low next q (p ∷ ps) a =
    let further = has-distinct p (p + 1) q ps a.1 in
    let rest = has-distinct p next q ps a.1 in
    (elim (nat_le next p) as (λ b. nat_le next p ≡ b → has (if b then p ∷ distinct (p + 1) ps else distinct next ps) q ≡ (nat_le next q && ((p == q) || has ps q))) [
      | true ↦ (λ e. ap (λ b. (p == q) || b) further ∙ first-in p next q (has ps q) e (λ l. has-low p q ps a.1 l))
      | false ↦ (λ e. rest ∙ first-out p next q (has ps q) e)
    ]) refl
  where
    first-in : (p next q : ℕ) (b : Bool) → nat_le next p ≡ true → (q < p → b ≡ false) → ((p == q) || (nat_le (p + 1) q && b)) ≡ (nat_le next q && ((p == q) || b))
    first-in p next q true e h = (elim (nat_le p q) as (λ t. nat_le p q ≡ t → ((p == q) || (nat_le (p + 1) q && true)) ≡ (nat_le next q && ((p == q) || true))) [
      | true ↦ (λ i. grind (arith, nat_tests, e, i))
      | false ↦ (λ o. absurd (true≢false (h (grind (arith, nat_tests, o)))))
    ]) refl
    first-in p next q false e h = grind (arith, nat_tests, e)

    first-out : (p next q : ℕ) (b : Bool) → nat_le next p ≡ false → (nat_le next q && b) ≡ (nat_le next q && ((p == q) || b))
    first-out p next q b e = grind (arith, nat_tests, e)

-- without slop the list before leads to its own positions
pub led-zero : (ls : List ℕ) (before : List (List ℕ)) (r : ℕ) → is_led_to (ls ∷ before) 0 r ≡ (has ls r && is_led_to before 0 r)
led-zero [] before r = refl
led-zero (n ∷ ns) before r =
    let ih = led-zero ns before r in
    (elim (n == r) as (λ b. (n == r) ≡ b → ((nat_le (distance n r) 0 && is_led_to before (0 - distance n r) n) || is_led_to (ns ∷ before) 0 r) ≡ ((b || has ns r) && is_led_to before 0 r)) [
      | true ↦ (λ e. (let same : n ≡ r = grind (arith, nat_tests, e) in
          let far : distance n r ≡ 0 = omega (arith, same) in
          ap (λ d. (nat_le d 0 && is_led_to before (0 - d) n) || is_led_to (ns ∷ before) 0 r) far ∙ (ap (λ m. is_led_to before 0 m || is_led_to (ns ∷ before) 0 r) same ∙ (ap (λ b. is_led_to before 0 r || b) ih ∙ absorbed (is_led_to before 0 r) (has ns r)))))
      | false ↦ (λ e. (let far : nat_le (distance n r) 0 ≡ false = grind (arith, nat_tests, e) in ap (λ b. (b && is_led_to before (0 - distance n r) n) || is_led_to (ns ∷ before) 0 r) far ∙ ih))
    ]) refl
  where
    absorbed : (a b : Bool) → (a || (b && a)) ≡ a
    absorbed true b = refl
    absorbed false true = refl
    absorbed false false = refl

-- without slop a further column keeps the places that are among its positions
pub reached-next : (ps ls : List ℕ) (before : List (List ℕ)) → Ascends 0 ps → Ascends 0 ls → reached 0 (ps ∷ ls ∷ before) ≡ filter (has ps) (reached 0 (ls ∷ before))
reached-next ps ls before a b =
    rises-same 0 (reached 0 (ps ∷ ls ∷ before)) (filter (has ps) (reached 0 (ls ∷ before)))
    (Rises-filter (is_led_to (ls ∷ before) 0) 0 (distinct 0 ps) (Rises-distinct 0 ps))
    (Rises-filter (has ps) 0 (reached 0 (ls ∷ before)) (Rises-filter (is_led_to before 0) 0 (distinct 0 ls) (Rises-distinct 0 ls)))
    (λ q. has-filter (is_led_to (ls ∷ before) 0) (distinct 0 ps) q
    ∙ (ap (λ t. t && has (distinct 0 ps) q) (led-zero ls before q)
    ∙ (ap (λ t. (has ls q && is_led_to before 0 q) && t) (has-distinct 0 0 q ps a)
    ∙ (turned (has ls q) (is_led_to before 0 q) (has ps q) (nat_le 0 q) (le-leb 0 q (omega arith))
    ∙ sym (has-filter (has ps) (reached 0 (ls ∷ before)) q ∙ (ap (λ t. has ps q && t) (has-filter (is_led_to before 0) (distinct 0 ls) q ∙ ap (λ t. is_led_to before 0 q && t) (has-distinct 0 0 q ls b))))))))
  where
    turned : (l t p z : Bool) → z ≡ true → ((l && t) && (z && p)) ≡ (p && (t && (z && l)))
    turned true true true true e = refl
    turned true true false true e = refl
    turned true false true true e = refl
    turned true false false true e = refl
    turned false true true true e = refl
    turned false true false true e = refl
    turned false false true true e = refl
    turned false false false true e = refl
    turned l t p false e = absurd (true≢false (sym e))

-- of one column
pub reached-one : (s : ℕ) (ps : List ℕ) → reached s (ps ∷ []) ≡ distinct 0 ps
reached-one s ps = kept (distinct 0 ps)
  where
    kept : (xs : List ℕ) → filter (is_led_to [] s) xs ≡ xs
    kept [] = refl
    kept (x ∷ xs) = ap (λ ys. x ∷ ys) (kept xs)
