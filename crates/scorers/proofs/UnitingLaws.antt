-- Laws of unions of postings.
use Rattle.std.proofs.Common.{[], ◌++◌, ◌+◌, ◌-◌, ◌<◌, ◌==◌, ◌||◌, ◌∙◌, ◌∷◌, ◌≡◌, ◌≤◌, Bool, List, ap, append-nil, arith, false, if◌then◌else◌, length, map, max, refl, suc, sum, sym, take, true, zero, ℕ}
use Rattle.std.proofs.lemmas.Bool.Decides.{nat_tests}
use Rattle.std.proofs.lemmas.List.{length-append, map-append}
use Rattle.definitions.specs.Postings.{terminated}
use Rattle.docsets.specs.Entries.{Entry, Rising, first, first_count, first_positions, from, highest, most_positions, single}
use Rattle.docsets.proofs.EntryLaws.{most-from}
use Rattle.docsets.specs.CombiningLaws.{sum-cons}
use Rattle.definitions.proofs.Lists.{by_order}
use Rattle.docsets.proofs.AtLeastLaws.{chosen-here}
use Rattle.docsets.specs.Distinct.{distinct, holds}
use Rattle.docsets.proofs.DistinctLaws.{distinct-same, holds-append, holds-distinct, length-distinct, moved-same}
use Rattle.docsets.proofs.MemberLaws.{entries-before, entries-least, entries-on, entries_at-cut, entries_at-kept, has-least, sum-append}
use Rattle.docsets.specs.Members.{at_document, at_least, enough, entries_at, entries_of, least, listed, walk}
use Rattle.scorers.specs.Uniting.{counts_in, most_sum, positions_in, told_positions, uniting}
use Rattle.scorers.specs.UnitingLaws.{highest-distinct, positions-append}

pub counts-append : (xs ys : List Entry) → sum (counts_in (xs ++ ys)) ≡ sum (counts_in xs) + sum (counts_in ys)
counts-append xs ys = ap sum (map-append (λ e. e.count) xs ys) ∙ sum-append (counts_in xs) (counts_in ys)

-- a cut takes counts away
pub counts-cut : (t d : ℕ) (ess : List (List Entry)) → sum (counts_in (entries_at d (map (from t) ess))) ≤ sum (counts_in (entries_at d ess))
counts-cut t d ess = by_order t d (sum (counts_in (entries_at d (map (from t) ess))) ≤ sum (counts_in (entries_at d ess)))
    (λ i. (let kept = ap (λ xs. sum (counts_in xs)) (entries_at-kept d t ess i) in omega (arith, kept)))
    (λ o. (let gone = ap (λ xs. sum (counts_in xs)) (entries_at-cut d t ess o) in omega (arith, gone)))

-- and positions
pub most_sum-cut : (t : ℕ) (ess : List (List Entry)) → most_sum (map (from t) ess) ≤ most_sum ess
most_sum-cut t [] = omega arith
most_sum-cut t (es ∷ ess) = (let here = most-from t es in let ih = most_sum-cut t ess in omega (arith, here, ih))

-- the positions of a document in one list
pub few-positions : (d low : ℕ) (es : List Entry) → Rising low es → length (positions_in (entries_of d es)) ≤ most_positions es
few-positions d low [] r = omega arith
few-positions d low (e ∷ es) r =
    let ih = few-positions d (e.doc + 1) es r.3 in
    (elim (d == e.doc) as (λ b. (d == e.doc) ≡ b → length (positions_in (if b then e ∷ entries_of d es else entries_of d es)) ≤ max (length (single e.positions)) (most_positions es)) [
      | true ↦ (λ h. let same : d ≡ e.doc = grind (arith, nat_tests, h) in
          let none = ap (λ xs. length (positions_in xs)) (entries-before d (e.doc + 1) es r.3 (omega (arith, same))) in
          let both = length-append (single e.positions) (positions_in (entries_of d es)) in
          let goal : length (single e.positions ++ positions_in (entries_of d es)) ≤ max (length (single e.positions)) (most_positions es) = omega (arith, none, both) in goal)
      | false ↦ (λ h. let goal : length (positions_in (entries_of d es)) ≤ max (length (single e.positions)) (most_positions es) = omega (arith, ih) in goal)
    ]) refl

-- and in several
pub few-united : {X : Type 0} (entries : X → List Entry) → ((x : X) → Rising 0 (entries x)) → (d : ℕ) (xs : List X) → length (positions_in (entries_at d (map entries xs))) ≤ most_sum (map entries xs)
few-united entries rising d [] = omega arith
few-united entries rising d (x ∷ xs) =
    let here = few-positions d 0 (entries x) (rising x) in
    let ih = few-united entries rising d xs in
    let parts = ap length (positions-append (entries_of d (entries x)) (entries_at d (map entries xs))) in
    let both = length-append (positions_in (entries_of d (entries x))) (positions_in (entries_at d (map entries xs))) in
    omega (arith, here, ih, parts, both)

-- ---- what it tells first
pub united-here : {X : Type 0} (entries : X → List Entry) → ((x : X) → Rising 0 (entries x)) → (told : Bool) (xs : List X) → least (map entries xs) < terminated → at_least 1 (uniting told) (map entries xs) ≡ uniting told (least (map entries xs)) (entries_at (least (map entries xs)) (map entries xs)) ∷ listed (enough 1 (map entries xs)) (λ d. uniting told d (entries_at d (map entries xs))) (least (map entries xs) + 1)
united-here entries rising told xs l = (let some = has-least entries rising xs l in chosen-here 1 (uniting told) (map entries xs) (omega arith) l (λ d b. entries-least entries rising d xs b) (omega (arith, some)))

-- ---- how many positions
walk-most : (f : ℕ → Bool) (s : ℕ → Entry) (bound low n : ℕ) → ((d : ℕ) → length (single (s d).positions) ≤ bound) → most_positions (walk f s low n) ≤ bound
unfolding walk
walk-most f s bound low zero few = omega arith
walk-most f s bound low (suc n) few =
    let ih = walk-most f s bound (low + 1) n few in
    let here = few low in
    elim (f low) as (λ b. most_positions (if b then at_document low (s low) ∷ walk f s (low + 1) n else walk f s (low + 1) n) ≤ bound) [
      | true ↦ (let goal : max (length (single (s low).positions)) (most_positions (walk f s (low + 1) n)) ≤ bound = omega (arith, ih, here) in goal)
      | false ↦ ih
    ]

listed-most : (f : ℕ → Bool) (s : ℕ → Entry) (bound low : ℕ) → ((d : ℕ) → length (single (s d).positions) ≤ bound) → most_positions (listed f s low) ≤ bound
unfolding listed
listed-most f s bound low few = walk-most f s bound low (terminated - low) few

few_told : (told : Bool) (ns : List ℕ) (bound : ℕ) → length ns ≤ bound → length (if told then distinct ns else []) ≤ bound
few_told true ns bound l = (let less = length-distinct ns in omega (arith, less, l))
few_told false ns bound l = omega arith

pub most-united : {X : Type 0} (entries : X → List Entry) → ((x : X) → Rising 0 (entries x)) → (told : Bool) (xs : List X) → most_positions (at_least 1 (uniting told) (map entries xs)) ≤ most_sum (map entries xs)
most-united entries rising told xs = listed-most (enough 1 (map entries xs)) (λ d. uniting told d (entries_at d (map entries xs))) (most_sum (map entries xs)) 0 (λ d. few_told told (positions_in (entries_at d (map entries xs))) (most_sum (map entries xs)) (few-united entries rising d xs))

pub most-untold : (ess : List (List Entry)) → most_positions (at_least 1 (uniting false) ess) ≤ 0
most-untold ess = listed-most (enough 1 ess) (λ d. uniting false d (entries_at d ess)) 0 0 (λ d. omega arith)

-- ---- one list that stands on a document
pub positions-on : (d : ℕ) (es : List Entry) → Rising 0 es → first es ≡ d → d < terminated → positions_in (entries_of d es) ≡ single (first_positions es)
positions-on d es r e l = ap positions_in (entries-on d es r e l) ∙ first-taken es (omega (arith, e, l))
  where
    first-taken : (es : List Entry) → first es < terminated → positions_in (take 1 es) ≡ single (first_positions es)
    first-taken [] l = absurd (omega (arith, l))
    first-taken (e ∷ es) l = append-nil (single e.positions)

pub counts-on : (d : ℕ) (es : List Entry) → Rising 0 es → first es ≡ d → d < terminated → sum (counts_in (entries_of d es)) ≡ first_count es
counts-on d es r e l = ap (λ xs. sum (counts_in xs)) (entries-on d es r e l) ∙ first-counted es (omega (arith, e, l))
  where
    first-counted : (es : List Entry) → first es < terminated → sum (counts_in (take 1 es)) ≡ first_count es
    first-counted [] l = absurd (omega (arith, l))
    first-counted (e ∷ es) l = sum-cons e.count [] ∙ (let goal : e.count + sum [] ≡ e.count = omega arith in goal)

-- ---- what is put into an output

-- numbers made distinct before they are put are put as they are
pub told-put : (told : Bool) → told ≡ true → (held : List ℕ) (offset : ℕ) (es : List Entry) → distinct (held ++ map (λ p. p + offset) (positions_in es)) ≡ distinct (held ++ map (λ p. p + offset) (told_positions told es))
told-put told is held offset es =
    let ps : List ℕ = positions_in es in
    distinct-same (held ++ map (λ p. p + offset) ps) (held ++ map (λ p. p + offset) (distinct ps))
    (λ n. holds-append held (map (λ p. p + offset) ps) n ∙ (ap (λ b. holds held n || b) (moved-same offset ps (distinct ps) (λ m. sym (holds-distinct ps m)) n) ∙ sym (holds-append held (map (λ p. p + offset) (distinct ps)) n)))
    ∙ ap (λ b. distinct (held ++ map (λ p. p + offset) (told_positions b es))) (sym is)

-- and the greatest of them is that of all
pub highest-told : (told : Bool) → told ≡ true → (es : List Entry) → highest (told_positions told es) ≡ highest (positions_in es)
highest-told told is es = ap (λ b. highest (told_positions b es)) is ∙ highest-distinct (positions_in es)
