-- Laws of rows of a window.
use Rattle.std.proofs.Common.{[], List, ap, arith, drop, get_or, length, map, refl, set, suc, sym, zero, ◌++◌, ◌-◌, ◌*◌, ◌+◌, ◌<◌, ◌∙◌, ◌∷◌, ◌≡◌, ◌≢◌, ◌≤◌, ℕ}
use Rattle.std.proofs.lemmas.List.{length-take, get_or-map, length-map}
use Rattle.std.proofs.lemmas.List.Sums.{sum_by-append, sum_by-cons}
use Rattle.docsets.specs.Entries.{Entry, Rising, first, from}
use Rattle.docsets.proofs.EntryLaws.{from-first, from-from}
use Rattle.definitions.proofs.Lists.{by_order}
use Rattle.docsets.proofs.MemberLaws.{entries-kept, entries-low, one-entry}
use Rattle.docsets.specs.Members.{entries_at, entries_of}
use Rattle.phrases.specs.Places.{Rises}
use Rattle.phrases.specs.PrefixEntries.{continued, continued_by}
use Rattle.phrases.specs.Rows.{AreRows, IsRow, added, added_one, counted_on, docs_of, end_of, most_count, places_in}
use Rattle.phrases.specs.declared.row.Row.{Row}
use Rattle.phrases.proofs.Counts.{continued-few}

-- ---- documents that rise

rises-low : (low : ℕ) (ds : List ℕ) (k : ℕ) → Rises low ds → k < length ds → low ≤ get_or ds k 0
rises-low low [] k r l = absurd (omega (arith, l))
rises-low low (d ∷ ds) zero r l = r.0
rises-low low (d ∷ ds) (suc k) r l = (let ih = rises-low (d + 1) ds k r.1 (omega (arith, l)) in let here = r.0 in omega (arith, ih, here))

-- one of them is below all later ones
pub rises-apart : (low : ℕ) (ds : List ℕ) (i k : ℕ) → Rises low ds → i < k → k < length ds → get_or ds i 0 < get_or ds k 0
rises-apart low [] i k r b l = absurd (omega (arith, l))
rises-apart low (d ∷ ds) i zero r b l = absurd (omega (arith, b))
rises-apart low (d ∷ ds) zero (suc k) r b l = (let up = rises-low (d + 1) ds k r.1 (omega (arith, l)) in omega (arith, up))
rises-apart low (d ∷ ds) (suc i) (suc k) r b l = rises-apart (d + 1) ds i k r.1 (omega (arith, b)) (omega (arith, l))

-- where the one before an index is below a document, all before it are
pub rises-before : (ds : List ℕ) (index i k doc : ℕ) → Rises 0 ds → i + 1 ≡ index → index ≤ length ds → get_or ds i 0 < doc → k < index → get_or ds k 0 < doc
rises-before ds index i k doc r at l below m =
    by_order i k (get_or ds k 0 < doc)
    (λ a. (let same = ap (λ j. get_or ds j 0) (let e : k ≡ i = omega (arith, a, m, at) in e) in omega (arith, same, below)))
    (λ o. (let less = rises-apart 0 ds k i r o (omega (arith, at, l)) in omega (arith, less, below)))

-- each comes before the end
pub end-behind : (ds : List ℕ) (k : ℕ) → k < length ds → get_or ds k 0 < end_of ds
end-behind [] k l = absurd (omega (arith, l))
end-behind (d ∷ ds) zero l = omega arith
end-behind (d ∷ ds) (suc k) l = (let ih = end-behind ds k (omega (arith, l)) in omega (arith, ih))

end-least : (ds : List ℕ) (doc : ℕ) → ((k : ℕ) → k < length ds → get_or ds k 0 < doc) → end_of ds ≤ doc
end-least [] doc h = omega arith
end-least (d ∷ ds) doc h = (let ih = end-least ds doc (λ k l. h (suc k) (omega (arith, l))) in let here : d < doc = h 0 (omega arith) in omega (arith, ih, here))

-- ---- moves of a suffix

-- what a move to a target keeps
pub kept-by : (d t : ℕ) (es fs : List Entry) → Rising 0 es → Rising 0 fs → from t fs ≡ from t es → (d < t → d < first es) → (d < t → d < first fs) → entries_of d fs ≡ entries_of d es
kept-by d t es fs r s same low behind =
    by_order t d (entries_of d fs ≡ entries_of d es)
    (λ i. sym (entries-kept d t fs i) ∙ (ap (entries_of d) same ∙ entries-kept d t es i))
    (λ o. entries-low d 0 fs s (behind o) ∙ sym (entries-low d 0 es r (low o)))

pub from-later : (t u : ℕ) (es fs : List Entry) → from t fs ≡ from t es → t ≤ u → from u fs ≡ from u es
from-later t u es fs same l = sym (from-from t u fs l) ∙ (ap (from u) same ∙ from-from t u es l)

-- ---- what a suffix adds

pub added-same : (moved : ℕ) (places : List ℕ) (es fs : List Entry) (rows : List Row) → ((k : ℕ) → k < length rows → entries_of (get_or (docs_of rows) k 0) fs ≡ entries_of (get_or (docs_of rows) k 0) es) → map (added_one moved places fs) rows ≡ map (added_one moved places es) rows
added-same moved places es fs [] h = refl
added-same moved places es fs (r ∷ rows) h =
    ap (λ xs. counted_on (continued_by moved (places_in places r) xs) r ∷ map (added_one moved places fs) rows) (h 0 (omega arith))
    ∙ ap (λ ys. added_one moved places es r ∷ ys) (added-same moved places es fs rows (λ k l. h (suc k) (omega (arith, l))))

-- a row that has what a suffix adds
pub counted-row : (moved n : ℕ) (places : List ℕ) (es fs : List Entry) (r : Row) → entries_of r.doc fs ≡ [] → n ≡ continued_by moved (places_in places r) (entries_of r.doc es) → added_one moved places fs (counted_on n r) ≡ added_one moved places es r
counted-row moved n places es fs r none is =
    ap (λ xs. counted_on (continued_by moved (places_in places r) xs) (counted_on n r)) none
    ∙ ap (λ m. record r { count = m }) (let e : (r.count + n) + 0 ≡ r.count + continued_by moved (places_in places r) (entries_of r.doc es) = omega (arith, is) in e)

-- one row has changed
pub added-visited : (moved : ℕ) (places : List ℕ) (es fs : List Entry) (rows : List Row) (i : ℕ) (row next : Row) → i < length rows → row ≡ get_or rows i row → added_one moved places fs next ≡ added_one moved places es row → ((k : ℕ) → k < length rows → k ≢ i → entries_of (get_or (docs_of rows) k 0) fs ≡ entries_of (get_or (docs_of rows) k 0) es) → map (added_one moved places fs) (set rows i next) ≡ map (added_one moved places es) rows
added-visited moved places es fs [] i row next l is here h = absurd (omega (arith, l))
added-visited moved places es fs (r ∷ rows) zero row next l is here h =
    ap (λ x. x ∷ map (added_one moved places fs) rows) (here ∙ ap (added_one moved places es) is)
    ∙ ap (λ ys. added_one moved places es r ∷ ys) (added-same moved places es fs rows (λ k m. h (suc k) (omega (arith, m)) (omega arith)))
added-visited moved places es fs (r ∷ rows) (suc i) row next l is here h =
    ap (λ xs. counted_on (continued_by moved (places_in places r) xs) r ∷ map (added_one moved places fs) (set rows i next)) (h 0 (omega arith) (omega arith))
    ∙ ap (λ ys. added_one moved places es r ∷ ys) (added-visited moved places es fs rows i row next (omega (arith, l)) is here (λ k m apart. h (suc k) (omega (arith, m)) (omega (arith, apart))))

-- a suffix that is behind all rows adds nothing
added-none : (moved : ℕ) (places : List ℕ) (es : List Entry) (rows : List Row) → ((k : ℕ) → k < length rows → entries_of (get_or (docs_of rows) k 0) es ≡ []) → map (added_one moved places es) rows ≡ rows
added-none moved places es [] h = refl
added-none moved places es (r ∷ rows) h =
    ap (λ xs. counted_on (continued_by moved (places_in places r) xs) r ∷ map (added_one moved places es) rows) (h 0 (omega arith))
    ∙ (ap (λ m. record r { count = m } ∷ map (added_one moved places es) rows) (let e : r.count + 0 ≡ r.count = omega arith in e)
    ∙ ap (λ ys. r ∷ ys) (added-none moved places es rows (λ k l. h (suc k) (omega (arith, l)))))

-- where rows all come before it they are what they will be
pub added-behind : (moved : ℕ) (places : List ℕ) (es : List Entry) (rows : List Row) → Rising 0 es → ((k : ℕ) → k < length rows → get_or (docs_of rows) k 0 < first es) → rows ≡ map (added_one moved places es) rows
added-behind moved places es rows r h = sym (added-none moved places es rows (λ k l. entries-low (get_or (docs_of rows) k 0) 0 es r (h k l)))

-- and it is behind them
pub rest-behind : (es : List Entry) (rows : List Row) → Rising 0 es → ((k : ℕ) → k < length rows → get_or (docs_of rows) k 0 < first es) → es ≡ from (end_of (docs_of rows)) es
rest-behind es rows r h =
    let long = length-map rows (λ x. x.doc) in
    sym (from-first (end_of (docs_of rows)) 0 es (end-least (docs_of rows) (first es) (λ k l. h k (omega (arith, long, l)))) r)

-- nor do no suffixes
pub added-nil : (moved : ℕ) (places : List ℕ) (rows : List Row) → map (added moved places []) rows ≡ rows
added-nil moved places [] = refl
added-nil moved places (r ∷ rows) =
    ap (λ m. record r { count = m } ∷ map (added moved places []) rows) (let e : r.count + 0 ≡ r.count = omega arith in e)
    ∙ ap (λ ys. r ∷ ys) (added-nil moved places rows)

-- one suffix and then the others
pub added-more : (moved : ℕ) (places : List ℕ) (es : List Entry) (ess : List (List Entry)) (rows : List Row) → map (added moved places ess) (map (added_one moved places es) rows) ≡ map (added moved places (es ∷ ess)) rows
added-more moved places es ess [] = refl
added-more moved places es ess (r ∷ rows) =
    let here = places_in places r in
    let all = sum_by-append (λ s. continued moved here (get_or s.positions 0 [])) (entries_of r.doc es) (entries_at r.doc ess) in
    let sums : (r.count + continued_by moved here (entries_of r.doc es)) + continued_by moved here (entries_at r.doc ess) ≡ r.count + continued_by moved here (entries_of r.doc es ++ entries_at r.doc ess) = omega (arith, all) in
    ap (λ m. record r { count = m } ∷ map (added moved places ess) (map (added_one moved places es) rows)) sums
    ∙ ap (λ ys. added moved places (es ∷ ess) r ∷ ys) (added-more moved places es ess rows)

-- documents stay
pub docs-added : (moved : ℕ) (places : List ℕ) (es : List Entry) (rows : List Row) → docs_of (map (added_one moved places es) rows) ≡ docs_of rows
docs-added moved places es [] = refl
docs-added moved places es (r ∷ rows) = ap (λ ds. r.doc ∷ ds) (docs-added moved places es rows)

-- and so do places
pub rows-added : (moved : ℕ) (places : List ℕ) (es : List Entry) (rows : List Row) → AreRows places rows → AreRows places (map (added_one moved places es) rows)
rows-added moved places es [] h = tt
rows-added moved places es (r ∷ rows) h = (record { small = h.0.small; within = h.0.within; num_places_fit = h.0.num_places_fit; ascends = h.0.ascends }, rows-added moved places es rows h.1)

pub rows-set : (places : List ℕ) (rows : List Row) (i : ℕ) (r : Row) → AreRows places rows → IsRow places r → AreRows places (set rows i r)
rows-set places [] i r h is = tt
rows-set places (x ∷ rows) zero r h is = (is, h.1)
rows-set places (x ∷ rows) (suc i) r h is = (h.0, rows-set places rows i r h.1 is)

pub rows-get : (places : List ℕ) (rows : List Row) (i : ℕ) (d : Row) → AreRows places rows → i < length rows → IsRow places (get_or rows i d)
rows-get places [] i d h l = absurd (omega (arith, l))
rows-get places (r ∷ rows) zero d h l = h.0
rows-get places (r ∷ rows) (suc i) d h l = rows-get places rows i d h.1 (omega (arith, l))

-- ---- counts are small

-- no suffix follows a phrase more often than there are places
pub continued-most : (moved : ℕ) (places : List ℕ) (es : List Entry) → length places ≤ 4294967295 → continued_by moved places es ≤ length es * 4294967295
continued-most moved places [] l = omega arith
continued-most moved places (e ∷ es) l =
    let ih = continued-most moved places es l in
    let here = continued-few moved places (get_or e.positions 0 []) in
    let sum = sum_by-cons (λ s. continued moved places (get_or s.positions 0 [])) e es in
    omega (arith, ih, here, sum, l)

pub places-few : (places : List ℕ) (r : Row) → IsRow places r → length (places_in places r) ≤ 4294967295
places-few places r is =
    let long = length-take ((r.begin + r.num_places) - r.begin) (drop r.begin places) in
    let few = is.num_places_fit in
    omega (arith, long, few)

one-most : (moved : ℕ) (places : List ℕ) (es : List Entry) (r : Row) → IsRow places r → Rising 0 es → continued_by moved (places_in places r) (entries_of r.doc es) ≤ 4294967295
one-most moved places es r is rises =
    let most = continued-most moved (places_in places r) (entries_of r.doc es) (places-few places r is) in
    let one = one-entry r.doc 0 es rises in
    omega (arith, most, one)

pub most-added : (moved : ℕ) (places : List ℕ) (es : List Entry) (rows : List Row) → AreRows places rows → Rising 0 es → most_count (map (added_one moved places es) rows) ≤ most_count rows + 4294967295
most-added moved places es [] h rises = omega arith
most-added moved places es (r ∷ rows) h rises =
    let ih = most-added moved places es rows h.1 rises in
    let here = one-most moved places es r h.0 rises in
    omega (arith, ih, here)

count-most : (rows : List Row) (i : ℕ) (d : Row) → i < length rows → (get_or rows i d).count ≤ most_count rows
count-most [] i d l = absurd (omega (arith, l))
count-most (r ∷ rows) zero d l = omega arith
count-most (r ∷ rows) (suc i) d l = (let ih = count-most rows i d (omega (arith, l)) in omega (arith, ih))

-- what a row has and is to have is bounded by what rows had
pub count-fits : (moved most : ℕ) (places : List ℕ) (es fs : List Entry) (rows were : List Row) (i : ℕ) (row : Row) → map (added_one moved places fs) rows ≡ map (added_one moved places es) were → AreRows places were → Rising 0 es → most_count were ≤ most → i < length rows → row ≡ get_or rows i row → (added_one moved places fs row).count ≤ most + 4294967295
count-fits moved most places es fs rows were i row same all rises few l is =
    let bound = most-added moved places es were all rises in
    let long = length-map rows (added_one moved places fs) in
    let here = count-most (map (added_one moved places fs) rows) i (added_one moved places fs row) (omega (arith, l, long)) in
    let at : get_or (map (added_one moved places fs) rows) i (added_one moved places fs row) ≡ added_one moved places fs row = get_or-map (added_one moved places fs) rows i row (added_one moved places fs row) l ∙ ap (added_one moved places fs) (sym is) in
    let count = ap (λ r. r.count) at in
    let most_is = ap most_count same in
    omega (arith, bound, here, count, most_is, few)
