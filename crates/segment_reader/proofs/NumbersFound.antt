-- A field's index among fields whose numbers ascend.
use Rattle.std.proofs.Common.{[], Bool, List, None, Some, ap, arith, cond, false, find, get_or, length, map, nat_lt, refl, suc, sym, true, zero, ◌+◌, ◌<◌, ◌==◌, ◌≡◌, ◌≢◌, ◌≤◌, ◌∙◌, ◌∷◌, ℕ}
use Rattle.std.proofs.lemmas.Bool.Decides.{nat_tests}
use Rattle.std.proofs.lemmas.Bool.{ltb-false, ltb-true}
use Rattle.std.proofs.lemmas.List.{get_or-map, get_or_default, length-map}
use Rattle.std.proofs.lemmas.Option.{slice_get-get_or}
use Rattle.layouts.specs.Deltas.{IsAscendingFrom}
use Rattle.segment_reader.proofs.DictionariesPlaced.{found_by_number}
use Rattle.segment_reader.specs.Searching.{IsFirstFrom}
use Rattle.segment_reader.specs.declared.field_index.FieldIndex.{FieldIndex}

abbrev number : FieldIndex → ℕ
number i = i.kind.field

-- those before are below it
least_there : (least : ℕ) (is : List FieldIndex) (j : ℕ) (d : FieldIndex) → IsAscendingFrom least (map number is) → j < length is → least ≤ number (get_or is j d)
least_there least [] j d a within = absurd (omega arith)
least_there least (i ∷ is) zero d a within = a.0
least_there least (i ∷ is) (suc j) d a within = (let later = least_there (number i + 1) is j d a.1 (omega arith) in let here = a.0 in omega (arith, later, here))

pub numbers_rise : (least : ℕ) (is : List FieldIndex) (i j : ℕ) (d : FieldIndex) → IsAscendingFrom least (map number is) → i ≤ j → j < length is → number (get_or is i d) ≤ number (get_or is j d)
numbers_rise least [] i j d a order within = absurd (omega arith)
numbers_rise least (x ∷ is) zero zero d a order within = omega arith
numbers_rise least (x ∷ is) zero (suc j) d a order within = (let later = least_there (number x + 1) is j d a.1 (omega arith) in omega (arith, later))
numbers_rise least (x ∷ is) (suc i) zero d a order within = absurd (omega arith)
numbers_rise least (x ∷ is) (suc i) (suc j) d a order within = numbers_rise (number x + 1) is i j d a.1 (omega arith) (omega arith)

none_by : (field : ℕ) (is : List FieldIndex) → ((k : ℕ) (e : FieldIndex) → k < length is → number (get_or is k e) ≢ field) → None ≡ find (λ (i : FieldIndex). i.kind.field == field) is
none_by field [] apart = refl
none_by field (i ∷ is) apart =
    let here = apart 0 i (omega arith) in
    let other : (number i == field) ≡ false = grind (arith, nat_tests, here) in
    none_by field is (λ k e within. apart (suc k) e (omega (arith, within))) ∙ sym (ap (λ b. cond b (Some i) (find (λ (x : FieldIndex). x.kind.field == field) is)) other)

number_at : (is : List FieldIndex) (k : ℕ) (e : FieldIndex) → k < length is → get_or (map number is) k 0 ≡ number (get_or is k e)
number_at is k e within = get_or-map number is k e 0 within

long_numbers : (is : List FieldIndex) → length (map number is) ≡ length is
long_numbers is = length-map is number

pub none_past : (field : ℕ) (is : List FieldIndex) (n : ℕ) → IsFirstFrom field (map number is) n → length is ≤ n → None ≡ find (λ (i : FieldIndex). i.kind.field == field) is
none_past field is n first past = none_by field is (λ k e within same. (let below = first.0 k (omega (arith, within, past)) in let at = number_at is k e within in omega (arith, below, at, same)))

pub none_there : (field : ℕ) (is : List FieldIndex) (n : ℕ) (i : FieldIndex) → IsAscendingFrom 0 (map number is) → IsFirstFrom field (map number is) n → n < length is → i ≡ get_or is n i → number i ≢ field → None ≡ find (λ (x : FieldIndex). x.kind.field == field) is
none_there field is n i a first within at apart = none_by field is (λ k e low same. go k e low same (nat_lt k n) refl)
  where
    go : (k : ℕ) (e : FieldIndex) → k < length is → number (get_or is k e) ≡ field → (b : Bool) → nat_lt k n ≡ b → ⊥
    go k e low same true before =
        let below = first.0 k (ltb-true k n before) in
        let here = number_at is k e low in
        omega (arith, below, same, here)
    go k e low same false past =
        let behind = ltb-false k n past in
        let number_is : number (get_or is n e) ≡ number i = ap number (get_or_default is n e i within ∙ sym at) in
        let rise = numbers_rise 0 is n k e a behind low in
        let long = long_numbers is in
        let above = first.1 n (omega arith) (omega (arith, within, long)) in
        let here = number_at is n e within in
        apart (omega (arith, number_is, rise, above, same, here))

pub one_there : (field : ℕ) (is : List FieldIndex) (n : ℕ) (i : FieldIndex) → IsAscendingFrom 0 (map number is) → n < length is → i ≡ get_or is n i → number i ≡ field → Some i ≡ find (λ (x : FieldIndex). x.kind.field == field) is
one_there field is n i a within at same = sym (found_by_number is 0 n i a (slice_get-get_or is n i within ∙ ap Some (sym at))) ∙ ap (λ f. find (λ (x : FieldIndex). x.kind.field == f) is) same

-- the index that a search by halves finds
pub first_found : (field : ℕ) (is : List FieldIndex) (n : ℕ) → n ≤ length is → ((k : ℕ) (e : FieldIndex) → 0 ≤ k → k < n → nat_lt (number (get_or is k e)) field ≡ true) × ((k : ℕ) (e : FieldIndex) → n ≤ k → k < length is → nat_lt (number (get_or is k e)) field ≡ false) → IsFirstFrom field (map number is) n
first_found field [] n bound parts = ((λ k below. absurd (omega (arith, below, bound))), λ k past within. absurd (omega (arith, within)))
first_found field (i ∷ is) n bound parts =
    let all = i ∷ is in
    let long = long_numbers all in (
      (λ k below. (let test = ltb-true (number (get_or all k i)) field (parts.0 k i (omega arith) below) in let at = number_at all k i (omega (arith, below, bound)) in omega (arith, test, at))),
      λ k past within. (let test = ltb-false (number (get_or all k i)) field (parts.1 k i past (omega (arith, within, long))) in let at = number_at all k i (omega (arith, within, long)) in omega (arith, test, at)),
    )
