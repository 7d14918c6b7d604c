-- Laws of the least costs of coming to positions from a table.
use Rattle.std.proofs.Common.{[], Bool, List, ap, arith, false, get_or, length, map, min, suc, sym, zero, ◌+◌, ◌-◌, ◌<◌, ◌==◌, ◌∙◌, ◌∷◌, ◌≡◌, ◌≤◌, ℕ}
use Rattle.std.proofs.lemmas.Bool.{true≢false}
use Rattle.std.proofs.lemmas.List.{get_or-map, length-map}
use Rattle.definitions.proofs.Lists.{by_order}
use Rattle.definitions.specs.Phrases.{distance}
use Rattle.phrases.specs.Costs.{IsGradual, IsInOrder, IsTable, costs, least_cost, nearest}
use Rattle.phrases.specs.Places.{Ascends}

-- ---- orders

-- what is no less than the first is no less than a later one
table-least : (most low j : ℕ) (ls : List (ℕ × ℕ)) → IsTable most low ls → j < length ls → low ≤ (get_or ls j (0, 0)).0
table-least most low j [] t l = absurd (omega (arith, l))
table-least most low zero (m ∷ ls) t l = t.0
table-least most low (suc j) (m ∷ ls) t l = (let ih = table-least most m.0 j ls t.2 (omega (arith, l)) in let here = t.0 in omega (arith, ih, here))

-- positions of a table by their places
pub table-order : (most low i j : ℕ) (ls : List (ℕ × ℕ)) → IsTable most low ls → i ≤ j → j < length ls → (get_or ls i (0, 0)).0 ≤ (get_or ls j (0, 0)).0
table-order most low i j [] t b l = absurd (omega (arith, l))
table-order most low zero zero (m ∷ ls) t b l = omega arith
table-order most low zero (suc j) (m ∷ ls) t b l = table-least most m.0 j ls t.2 (omega (arith, l))
table-order most low (suc i) zero (m ∷ ls) t b l = absurd (omega (arith, b))
table-order most low (suc i) (suc j) (m ∷ ls) t b l = table-order most m.0 i j ls t.2 (omega (arith, b)) (omega (arith, l))

pub table-cost : (most low i : ℕ) (ls : List (ℕ × ℕ)) → IsTable most low ls → i < length ls → (get_or ls i (0, 0)).1 ≤ most
table-cost most low i [] t l = absurd (omega (arith, l))
table-cost most low zero (m ∷ ls) t l = t.1
table-cost most low (suc i) (m ∷ ls) t l = table-cost most m.0 i ls t.2 (omega (arith, l))

pub least : (low j : ℕ) (ps : List ℕ) → Ascends low ps → j < length ps → low ≤ get_or ps j 0
least low j [] t l = absurd (omega (arith, l))
least low zero (p ∷ ps) t l = t.0
least low (suc j) (p ∷ ps) t l = (let ih = least p j ps t.1 (omega (arith, l)) in let here = t.0 in omega (arith, ih, here))

pub positions-order : (low i j : ℕ) (ps : List ℕ) → Ascends low ps → i ≤ j → j < length ps → get_or ps i 0 ≤ get_or ps j 0
positions-order low i j [] t b l = absurd (omega (arith, l))
positions-order low zero zero (p ∷ ps) t b l = omega arith
positions-order low zero (suc j) (p ∷ ps) t b l = least p j ps t.1 (omega (arith, l))
positions-order low (suc i) zero (p ∷ ps) t b l = absurd (omega (arith, b))
positions-order low (suc i) (suc j) (p ∷ ps) t b l = positions-order p i j ps t.1 (omega (arith, b)) (omega (arith, l))

-- ---- the nearest

-- no cost is above the most
pub nearest-small : (most r : ℕ) (ls : List (ℕ × ℕ)) → nearest most ls r ≤ most
nearest-small most r [] = omega arith
nearest-small most r (l ∷ ls) = (let ih = nearest-small most r ls in omega (arith, ih))

-- nor above that from one of a table
nearest-one : (most r k : ℕ) (ls : List (ℕ × ℕ)) → k < length ls → nearest most ls r ≤ distance (get_or ls k (0, 0)).0 r + (get_or ls k (0, 0)).1
nearest-one most r k [] l = absurd (omega (arith, l))
nearest-one most r zero (m ∷ ls) l = omega arith
nearest-one most r (suc k) (m ∷ ls) l = (let ih = nearest-one most r k ls (omega (arith, l)) in omega (arith, ih))

-- what is above none of these isn't above the nearest
nearest-least : (x most r : ℕ) (ls : List (ℕ × ℕ)) → x ≤ most → ((k : ℕ) → k < length ls → x ≤ distance (get_or ls k (0, 0)).0 r + (get_or ls k (0, 0)).1) → x ≤ nearest most ls r
nearest-least x most r [] small h = small
nearest-least x most r (m ∷ ls) small h = (let ih = nearest-least x most r ls small (λ k l. h (suc k) (omega (arith, l))) in let here = h 0 (omega arith) in omega (arith, ih, here))

-- ---- numbers alone

-- a neighbour at or below a position costs no more than one before it
from-below : (r p q c d : ℕ) → q ≤ p → p ≤ r → c ≤ distance q p + d → c + distance r p ≤ distance q r + d
from-below r p q c d order here gradual = omega (arith, order, here, gradual)

-- and one above it no more than one behind it
from-above : (r p q c d : ℕ) → p ≤ q → r ≤ p → c ≤ distance q p + d → c + distance r p ≤ distance q r + d
from-above r p q c d order here gradual = omega (arith, order, here, gradual)

both-ways : (most x y n : ℕ) → n ≤ most → n ≤ x → n ≤ y → min most (min x y) ≤ n → min most (min x y) ≡ n
both-ways most x y n small below above least = omega (arith, small, below, above, least)

-- ---- neighbours

-- where a table is gradual, one of two neighbours is the nearest
pub nearest-neighbours : (most r i : ℕ) (ls : List (ℕ × ℕ)) → IsInOrder ls → IsGradual ls → 0 < length ls → i ≤ length ls → ((k : ℕ) → k < i → (get_or ls k (0, 0)).0 ≤ r) → (i < length ls → r < (get_or ls i (0, 0)).0) → min most (min ((get_or ls (i - 1) (0, 0)).1 + distance r (get_or ls (i - 1) (0, 0)).0) ((get_or ls (min i (length ls - 1)) (0, 0)).1 + distance r (get_or ls (min i (length ls - 1)) (0, 0)).0)) ≡ nearest most ls r
nearest-neighbours most r i ls order gradual some within passed behind =
    let b : ℕ = i - 1 in
    let a : ℕ = min i (length ls - 1) in
    let x : ℕ = (get_or ls b (0, 0)).1 + distance r (get_or ls b (0, 0)).0 in
    let y : ℕ = (get_or ls a (0, 0)).1 + distance r (get_or ls a (0, 0)).0 in
    let small = nearest-small most r ls in
    let below = nearest-one most r b ls (omega (arith, some, within)) in
    let above = nearest-one most r a ls (omega (arith, some, within)) in
    let lower = nearest-least (min most (min x y)) most r ls (omega arith)
    (λ k l. by_order (k + 1) i (min most (min x y) ≤ distance (get_or ls k (0, 0)).0 r + (get_or ls k (0, 0)).1)
    (λ before. (let way = from-below r (get_or ls b (0, 0)).0 (get_or ls k (0, 0)).0 (get_or ls b (0, 0)).1 (get_or ls k (0, 0)).1 (order k b (omega (arith, before)) (omega (arith, some, within))) (passed b (omega (arith, before))) (gradual b k (omega (arith, some, within)) l) in omega (arith, way)))
    (λ after. (let is : a ≡ i = omega (arith, after, l) in
    let high = behind (omega (arith, after, l)) in
    let here = ap (λ n. (get_or ls n (0, 0)).0) is in
    let way = from-above r (get_or ls a (0, 0)).0 (get_or ls k (0, 0)).0 (get_or ls a (0, 0)).1 (get_or ls k (0, 0)).1 (order a k (omega (arith, after, is)) l) (omega (arith, here, high)) (gradual a k (omega (arith, some)) l) in omega (arith, way)))) in
    both-ways most x y (nearest most ls r) small (omega (arith, below)) (omega (arith, above)) lower

-- ---- tables that are gradual

nearest-gradual : (most r s : ℕ) (ls : List (ℕ × ℕ)) → nearest most ls r ≤ distance s r + nearest most ls s
nearest-gradual most r s [] = omega arith
nearest-gradual most r s (l ∷ ls) = (let ih = nearest-gradual most r s ls in omega (arith, ih))

least-gradual : (most r s : ℕ) (before : List (List ℕ)) → least_cost most before r ≤ distance s r + least_cost most before s
least-gradual most r s [] = omega arith
least-gradual most r s (ps ∷ before) = nearest-gradual most r s (map (λ p. (p, least_cost most before p)) ps)

pub costs-gradual : (most : ℕ) (ps : List ℕ) (before : List (List ℕ)) → IsGradual (costs most ps before)
costs-gradual most ps before i j li lj =
    let f : ℕ → ℕ × ℕ = λ p. (p, least_cost most before p) in
    let long : length (map f ps) ≡ length ps = length-map {B = ℕ × ℕ} ps f in
    let at_i : get_or (map f ps) i (0, 0) ≡ f (get_or ps i 0) = get_or-map f ps i 0 (0, 0) (omega (arith, li, long)) in
    let at_j : get_or (map f ps) j (0, 0) ≡ f (get_or ps j 0) = get_or-map f ps j 0 (0, 0) (omega (arith, lj, long)) in
    let way = least-gradual most (get_or ps i 0) (get_or ps j 0) before in
    let i_cost = ap (λ l. l.1) at_i in
    let i_place = ap (λ l. l.0) at_i in
    let j_cost = ap (λ l. l.1) at_j in
    let j_place = ap (λ l. l.0) at_j in
    omega (arith, way, i_cost, i_place, j_cost, j_place)

-- a table that isn't empty has some
pub some-in : {b : Bool} (ls : List (ℕ × ℕ)) → b ≡ (length ls == 0) → b ≡ false → 0 < length ls
some-in [] is none = absurd (true≢false (sym is ∙ none))
some-in (l ∷ ls) is none = omega arith
