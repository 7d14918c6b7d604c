-- Laws of columns, one after another.
use Rattle.std.proofs.Common.{[], List, ap, arith, filter, get_or, length, map, refl, reverse, subst, suc, sym, take, zero, ◌+◌, ◌-◌, ◌<◌, ◌∙◌, ◌∷◌, ◌≡◌, ◌≤◌, ℕ}
use Rattle.std.proofs.lemmas.List.{length-map}
use Rattle.std.proofs.Math.Seq.{take-length}
use Rattle.phrases.specs.Costs.{IsGradual, IsTable, cheap, column_costs, costs, least_cost, nearest_costs}
use Rattle.phrases.specs.PhraseEntries.{AreColumns, longest}
use Rattle.phrases.specs.Places.{AscendEach, Ascends, distinct, has, places_of, reached}
use Rattle.phrases.proofs.PhrasePlaces.{earlier-next, places-reached}
use Rattle.phrases.proofs.PlaceLaws.{IsTable-costs, cheap-led, reached-next, reached-one}
use Rattle.phrases.proofs.NearestCosts.{costs-gradual, nearest-small}
use Rattle.phrases.specs.PlacesLaws.{length-column}

pub columns-ascend : (columns : List (List ℕ)) → AreColumns columns → AscendEach columns
columns-ascend [] c = tt
columns-ascend (ps ∷ columns) c = (c.0, columns-ascend columns c.2)

pub column-ascends : (columns : List (List ℕ)) (i : ℕ) → AreColumns columns → i < length columns → Ascends 0 (get_or columns i [])
column-ascends [] i c l = absurd (omega (arith, l))
column-ascends (ps ∷ columns) zero c l = c.0
column-ascends (ps ∷ columns) (suc i) c l = column-ascends columns i c.2 (omega (arith, l))

-- where some columns were taken, the last of them is the first here
pub taken : (columns : List (List ℕ)) (i : ℕ) → 0 < i → i ≤ length columns → reverse (take i columns) ≡ get_or columns (i - 1) [] ∷ reverse (take (i - 1) columns)
taken columns i some l =
    let is : i ≡ (i - 1) + 1 = omega (arith, some) in
    ap (λ k. reverse (take k columns)) is ∙ earlier-next (i - 1) columns [] (omega (arith, some, l))

-- ---- no slop

pub shared-first : (columns : List (List ℕ)) → 0 < length columns → distinct 0 (get_or columns 0 []) ≡ reached 0 (reverse (take 1 columns))
shared-first [] l = absurd (omega (arith, l))
shared-first (ps ∷ columns) l = sym (reached-one 0 ps)

pub shared-next : (columns : List (List ℕ)) (i : ℕ) → AreColumns columns → 0 < i → i < length columns → filter (has (get_or columns i [])) (reached 0 (reverse (take i columns))) ≡ reached 0 (reverse (take (i + 1) columns))
shared-next columns i c some l =
    let was = taken columns i some (omega (arith, l)) in
    ap (λ cs. filter (has (get_or columns i [])) (reached 0 cs)) was
    ∙ (sym (reached-next (get_or columns i []) (get_or columns (i - 1) []) (reverse (take (i - 1) columns)) (column-ascends columns i c l) (column-ascends columns (i - 1) c (omega (arith, some, l))))
    ∙ ap (reached 0) (ap (λ cs. get_or columns i [] ∷ cs) (sym was) ∙ sym (earlier-next i columns [] l)))

pub shared-all : (columns : List (List ℕ)) (i s : ℕ) → AreColumns columns → i ≡ length columns → reached s (reverse (take i columns)) ≡ places_of s columns
shared-all columns i s c e = ap (λ k. reached s (reverse (take k columns))) e ∙ (ap (λ cs. reached s (reverse cs)) (take-length columns) ∙ sym (places-reached s columns (columns-ascend columns c)))

-- where none is left behind some columns, none is behind more
pub shared-none : (columns : List (List ℕ)) (i n : ℕ) → AreColumns columns → 0 < i → i + n ≤ length columns → reached 0 (reverse (take i columns)) ≡ [] → reached 0 (reverse (take (i + n) columns)) ≡ []
shared-none columns i zero c some l none = (let same : i + 0 ≡ i = omega arith in ap (λ k. reached 0 (reverse (take k columns))) same ∙ none)
shared-none columns i (suc n) c some l none =
    let more : i + suc n ≡ (i + n) + 1 = omega arith in
    ap (λ k. reached 0 (reverse (take k columns))) more
    ∙ (sym (shared-next columns (i + n) c (omega (arith, some)) (omega (arith, l)))
    ∙ ap (filter (has (get_or columns (i + n) []))) (shared-none columns i n c some (omega (arith, l)) none))

-- ---- a slop

pub least-small : (most p : ℕ) (before : List (List ℕ)) → least_cost most before p ≤ most
least-small most p [] = omega arith
least-small most p (ps ∷ before) = nearest-small most p (map (λ q. (q, least_cost most before q)) ps)

pub near-table : (most : ℕ) (columns : List (List ℕ)) (i : ℕ) → AreColumns columns → 0 < i → i ≤ length columns → IsTable most 0 (column_costs most (reverse (take i columns)))
near-table most columns i c some l = subst (λ cs. IsTable most 0 (column_costs most cs)) (sym (taken columns i some l)) (IsTable-costs most 0 (reverse (take (i - 1) columns)) (get_or columns (i - 1) []) (column-ascends columns (i - 1) c (omega (arith, some, l))) (λ p. least-small most p (reverse (take (i - 1) columns))))

pub near-gradual : (most : ℕ) (columns : List (List ℕ)) (i : ℕ) → 0 < i → i ≤ length columns → IsGradual (column_costs most (reverse (take i columns)))
near-gradual most columns i some l = subst (λ cs. IsGradual (column_costs most cs)) (sym (taken columns i some l)) (costs-gradual most (get_or columns (i - 1) []) (reverse (take (i - 1) columns)))

pub near-length : (most : ℕ) (columns : List (List ℕ)) (i : ℕ) → 0 < i → i ≤ length columns → length (column_costs most (reverse (take i columns))) ≤ longest columns
near-length most columns i some l =
    let is = ap (λ cs. length (column_costs most cs)) (taken columns i some l) in
    let long : length (costs most (get_or columns (i - 1) []) (reverse (take (i - 1) columns))) ≡ length (get_or columns (i - 1) []) = length-map {B = ℕ × ℕ} (get_or columns (i - 1) []) (λ p. (p, least_cost most (reverse (take (i - 1) columns)) p)) in
    let small = length-column columns (i - 1) in
    omega (arith, is, long, small)

pub near-next : (most : ℕ) (columns : List (List ℕ)) (i : ℕ) → 0 < i → i < length columns → nearest_costs most (column_costs most (reverse (take i columns))) (get_or columns i []) ≡ column_costs most (reverse (take (i + 1) columns))
near-next most columns i some l =
    let was = taken columns i some (omega (arith, l)) in
    ap (λ cs. nearest_costs most (column_costs most cs) (get_or columns i [])) was
    ∙ ap (column_costs most) (ap (λ cs. get_or columns i [] ∷ cs) (sym was) ∙ sym (earlier-next i columns [] l))

near-cheap : (most s : ℕ) (cs : List (List ℕ)) → s < most → cheap s 0 (column_costs most cs) ≡ reached s cs
near-cheap most s [] l = refl
near-cheap most s (ps ∷ before) l = cheap-led most s 0 before ps l

pub near-all : (most s : ℕ) (columns : List (List ℕ)) (i : ℕ) → AreColumns columns → s < most → i ≡ length columns → cheap s 0 (column_costs most (reverse (take i columns))) ≡ places_of s columns
near-all most s columns i c l e = near-cheap most s (reverse (take i columns)) l ∙ shared-all columns i s c e
