-- Laws of several lists of entries as one.
use Rattle.std.proofs.Common.{[], Bool, List, ap, arith, drop, false, get_or, if◌then◌else◌, length, map, max, min, refl, subst, suc, sum, sym, take, true, zero, ◌++◌, ◌+◌, ◌-◌, ◌<◌, ◌==◌, ◌∙◌, ◌∷◌, ◌≡◌, ◌≢◌, ◌≤◌, ℕ}
use Rattle.std.proofs.lemmas.Bool.Decides.{nat_tests}
use Rattle.std.proofs.lemmas.List.{append_assoc, length-append, map-append}
use Rattle.std.proofs.lemmas.List.Sums.{sum_by-append}
use Rattle.definitions.specs.Postings.{terminated}
use Rattle.definitions.specs.Scoring.{max_score}
use Rattle.docsets.specs.Entries.{Entry, Rising, first, first_score, from}
use Rattle.docsets.specs.EntryLaws.{Rising-lower}
use Rattle.docsets.proofs.EntryLaws.{first-from, from-in, from-out}
use Rattle.docsets.specs.CombiningLaws.{sum-cons}
use Rattle.docsets.specs.ScoredEntries.{greatest_score}
use Rattle.definitions.proofs.Lists.{by_order}
use Rattle.docsets.specs.Members.{at_document, entries_at, entries_of, greatest_sum, least, listed, scores_in, walk}

-- ---- walks

-- what agrees on the documents makes one list
walk-same : (f g : ℕ → Bool) (s t : ℕ → Entry) (low n : ℕ) → ((d : ℕ) → low ≤ d → d < low + n → f d ≡ g d) → ((d : ℕ) → low ≤ d → d < low + n → s d ≡ t d) → walk f s low n ≡ walk g t low n
unfolding walk
walk-same f g s t low zero ff ss = refl
walk-same f g s t low (suc n) ff ss =
    let ih = walk-same f g s t (low + 1) n (λ d l h. ff d (omega (arith, l)) (omega (arith, h))) (λ d l h. ss d (omega (arith, l)) (omega (arith, h))) in
    ap (λ es. if f low then at_document low (s low) ∷ es else es) ih
    ∙ (ap (λ b. if b then at_document low (s low) ∷ walk g t (low + 1) n else walk g t (low + 1) n) (ff low (omega arith) (omega arith))
    ∙ ap (λ x. if g low then at_document low x ∷ walk g t (low + 1) n else walk g t (low + 1) n) (ss low (omega arith) (omega arith)))

-- a document with a flag is the first
walk-in : (f : ℕ → Bool) (s : ℕ → Entry) (low n : ℕ) → f low ≡ true → walk f s low (suc n) ≡ at_document low (s low) ∷ walk f s (low + 1) n
unfolding walk
walk-in f s low n e = ap (λ b. if b then at_document low (s low) ∷ walk f s (low + 1) n else walk f s (low + 1) n) e

walk-out : (f : ℕ → Bool) (s : ℕ → Entry) (low n : ℕ) → f low ≡ false → walk f s low (suc n) ≡ walk f s (low + 1) n
unfolding walk
walk-out f s low n e = ap (λ b. if b then at_document low (s low) ∷ walk f s (low + 1) n else walk f s (low + 1) n) e

walk-none : (f : ℕ → Bool) (s : ℕ → Entry) (low : ℕ) → walk f s low 0 ≡ []
unfolding walk
walk-none f s low = refl

walk-rising : (f : ℕ → Bool) (s : ℕ → Entry) (low n : ℕ) → low + n ≤ terminated → ((d : ℕ) → low ≤ d → d < terminated → f d ≡ true → (s d).score ≤ max_score) → Rising low (walk f s low n)
unfolding walk
walk-rising f s low zero l h = tt
walk-rising f s low (suc n) l h =
    let ih = walk-rising f s (low + 1) n (omega (arith, l)) (λ d b t e. h d (omega (arith, b)) t e) in
    (elim (f low) as (λ b. f low ≡ b → Rising low (if b then at_document low (s low) ∷ walk f s (low + 1) n else walk f s (low + 1) n)) [
      | true ↦ (λ e. (omega arith, omega (arith, l), h low (omega arith) (omega (arith, l)) e, ih))
      | false ↦ (λ e. Rising-lower low (low + 1) (walk f s (low + 1) n) (omega arith) ih)
    ]) refl

-- ---- lists by flags

pub listed-same : (f g : ℕ → Bool) (s t : ℕ → Entry) (low : ℕ) → ((d : ℕ) → low ≤ d → d < terminated → f d ≡ g d) → ((d : ℕ) → low ≤ d → d < terminated → s d ≡ t d) → listed f s low ≡ listed g t low
unfolding listed
listed-same f g s t low ff ss = walk-same f g s t low (terminated - low) (λ d l h. ff d l (omega (arith, l, h))) (λ d l h. ss d l (omega (arith, l, h)))

-- a document with a flag is the first of those from it on
pub listed-found : (f : ℕ → Bool) (s : ℕ → Entry) (d : ℕ) → d < terminated → f d ≡ true → listed f s d ≡ at_document d (s d) ∷ listed f s (d + 1)
unfolding listed
listed-found f s d l e =
    let size : terminated - d ≡ suc (terminated - (d + 1)) = omega (arith, l) in
    ap (walk f s d) size ∙ walk-in f s d (terminated - (d + 1)) e

pub listed-out : (f : ℕ → Bool) (s : ℕ → Entry) (d : ℕ) → d < terminated → f d ≡ false → listed f s d ≡ listed f s (d + 1)
unfolding listed
listed-out f s d l e =
    let size : terminated - d ≡ suc (terminated - (d + 1)) = omega (arith, l) in
    ap (walk f s d) size ∙ walk-out f s d (terminated - (d + 1)) e

pub listed-end : (f : ℕ → Bool) (s : ℕ → Entry) (d : ℕ) → terminated ≤ d → listed f s d ≡ []
unfolding listed
listed-end f s d l = let size : terminated - d ≡ 0 = omega (arith, l) in ap (walk f s d) size ∙ walk-none f s d

-- documents without flags can be passed
passed : (k : ℕ) (f : ℕ → Bool) (s : ℕ → Entry) (low high : ℕ) → low + k ≡ high → high ≤ terminated → ((d : ℕ) → low ≤ d → d < high → f d ≡ false) → listed f s low ≡ listed f s high
passed zero f s low high e l h = ap (listed f s) (omega (arith, e))
passed (suc k) f s low high e l h = listed-out f s low (omega (arith, e, l)) (h low (omega arith) (omega (arith, e))) ∙ passed k f s (low + 1) high (omega (arith, e)) l (λ d b c. h d (omega (arith, b)) c)

pub listed-skip : (f : ℕ → Bool) (s : ℕ → Entry) (low high : ℕ) → low ≤ high → high ≤ terminated → ((d : ℕ) → low ≤ d → d < high → f d ≡ false) → listed f s low ≡ listed f s high
listed-skip f s low high b l h = passed (high - low) f s low high (omega (arith, b)) l h

pub Rising-listed : (f : ℕ → Bool) (s : ℕ → Entry) (low : ℕ) → ((d : ℕ) → low ≤ d → d < terminated → f d ≡ true → (s d).score ≤ max_score) → Rising 0 (listed f s low)
unfolding listed
Rising-listed f s low h =
    by_order low terminated (Rising 0 (walk f s low (terminated - low)))
    (λ i. Rising-lower 0 low (walk f s low (terminated - low)) (omega arith) (walk-rising f s low (terminated - low) (omega (arith, i)) h))
    (λ o. let size : terminated - low ≡ 0 = omega (arith, o) in subst (λ n. Rising 0 (walk f s low n)) (sym size) (subst (Rising 0) (sym (walk-none f s low)) tt))

-- those from a later document on
cut : (k : ℕ) (f : ℕ → Bool) (s : ℕ → Entry) (low t : ℕ) → low + k ≡ t → t ≤ terminated → from t (listed f s low) ≡ from t (listed f s t)
cut zero f s low t e l = ap (λ d. from t (listed f s d)) (omega (arith, e))
cut (suc k) f s low t e l =
    let ih = cut k f s (low + 1) t (omega (arith, e)) l in
    (elim (f low) as (λ b. f low ≡ b → from t (listed f s low) ≡ from t (listed f s t)) [
      | true ↦ (λ b. ap (from t) (listed-found f s low (omega (arith, e, l)) b) ∙ (from-out t (at_document low (s low)) (listed f s (low + 1)) (omega (arith, e)) ∙ ih))
      | false ↦ (λ b. ap (from t) (listed-out f s low (omega (arith, e, l)) b) ∙ ih)
    ]) refl

-- none of them is before the first
walk-at : (t : ℕ) (f : ℕ → Bool) (s : ℕ → Entry) (low n : ℕ) → t ≤ low → from t (walk f s low n) ≡ walk f s low n
unfolding walk
walk-at t f s low zero l = refl
walk-at t f s low (suc n) l =
    let ih = walk-at t f s (low + 1) n (omega (arith, l)) in
    elim (f low) as (λ b. from t (if b then at_document low (s low) ∷ walk f s (low + 1) n else walk f s (low + 1) n) ≡ (if b then at_document low (s low) ∷ walk f s (low + 1) n else walk f s (low + 1) n)) [
      | true ↦ from-in t (at_document low (s low)) (walk f s (low + 1) n) l ∙ ap (λ es. at_document low (s low) ∷ es) ih
      | false ↦ ih
    ]

listed-at : (f : ℕ → Bool) (s : ℕ → Entry) (t : ℕ) → from t (listed f s t) ≡ listed f s t
unfolding listed
listed-at f s t = walk-at t f s t (terminated - t) (omega arith)

pub from-listed : (f : ℕ → Bool) (s : ℕ → Entry) (low t : ℕ) → low ≤ t → t ≤ terminated → from t (listed f s low) ≡ listed f s t
from-listed f s low t b l = cut (t - low) f s low t (omega (arith, b)) l ∙ listed-at f s t

-- and it doesn't begin before
pub listed-later : (f : ℕ → Bool) (s : ℕ → Entry) (t : ℕ) → t ≤ terminated → t ≤ first (listed f s t)
listed-later f s t l = subst (λ es. t ≤ first es) (listed-at f s t) (first-from t (listed f s t) l)

-- a list whose first is the document asked for has it
pub listed-stands : (f : ℕ → Bool) (s : ℕ → Entry) (d : ℕ) → d < terminated → d ≡ first (listed f s d) → f d ≡ true
listed-stands f s d l e = (elim (f d) as (λ b. f d ≡ b → b ≡ true) [
  | true ↦ (λ h. refl)
  | false ↦ (λ h. let later = ap first (listed-out f s d l h) in let far = listed-later f s (d + 1) (omega (arith, l)) in absurd (omega (arith, e, later, far)))
]) refl

-- nothing is before document 0
pub from-zero : (es : List Entry) → from 0 es ≡ es
from-zero [] = refl
from-zero (e ∷ es) = from-in 0 e es (omega arith) ∙ ap (λ xs. e ∷ xs) (from-zero es)

-- ---- entries in lists

-- a list hasn't what comes before it
pub entries-before : (d low : ℕ) (es : List Entry) → Rising low es → d < low → entries_of d es ≡ []
entries-before d low [] r l = refl
entries-before d low (e ∷ es) r l =
    let apart : (d == e.doc) ≡ false = grind (arith, nat_tests, r.0, l) in
    ap (λ b. if b then e ∷ entries_of d es else entries_of d es) apart ∙ entries-before d (e.doc + 1) es r.3 (omega (arith, r.0, l))

-- nor what comes before its first
pub entries-low : (d low : ℕ) (es : List Entry) → Rising low es → d < first es → entries_of d es ≡ []
entries-low d low [] r l = refl
entries-low d low (e ∷ es) r l = entries-before d e.doc (e ∷ es) (omega arith, r.1, r.2, r.3) l

-- its first has one entry
pub entries-first : (low : ℕ) (es : List Entry) → Rising low es → first es < terminated → entries_of (first es) es ≡ take 1 es
entries-first low [] r l = absurd (omega (arith, l))
entries-first low (e ∷ es) r l =
    let here : (e.doc == e.doc) ≡ true = grind (arith, nat_tests) in
    ap (λ b. if b then e ∷ entries_of e.doc es else entries_of e.doc es) here ∙ ap (λ xs. e ∷ xs) (entries-before e.doc (e.doc + 1) es r.3 (omega arith))

-- a list that stands on a document, or behind it
pub entries-on : (d : ℕ) (es : List Entry) → Rising 0 es → first es ≡ d → d < terminated → entries_of d es ≡ take 1 es
entries-on d es r e l = ap (λ x. entries_of x es) (sym e) ∙ entries-first 0 es r (omega (arith, e, l))

pub entries-off : (d : ℕ) (es : List Entry) → Rising 0 es → d ≤ first es → first es ≢ d → entries_of d es ≡ []
entries-off d es r b n = entries-low d 0 es r (omega (arith, b, n))

-- the first of a list that isn't at its end
pub one-first : (es : List Entry) → first es < terminated → (length (take 1 es) ≡ 1) × (scores_in (take 1 es) ≡ first_score es ∷ [])
one-first [] l = absurd (omega (arith, l))
one-first (e ∷ es) l = (refl, refl)

-- the score on which a list stands
pub scores-on : (d : ℕ) (es : List Entry) → Rising 0 es → first es ≡ d → d < terminated → scores_in (entries_of d es) ≡ first_score es ∷ []
scores-on d es r e l = ap scores_in (entries-on d es r e l) ∙ (one-first es (omega (arith, e, l))).1

-- it has no document twice
pub one-entry : (d low : ℕ) (es : List Entry) → Rising low es → length (entries_of d es) ≤ 1
one-entry d low [] r = omega arith
one-entry d low (e ∷ es) r =
    let ih = one-entry d (e.doc + 1) es r.3 in
    (elim (d == e.doc) as (λ b. (d == e.doc) ≡ b → length (if b then e ∷ entries_of d es else entries_of d es) ≤ 1) [
      | true ↦ (λ h. let same : d ≡ e.doc = grind (arith, nat_tests, h) in
          let none = ap length (entries-before d (e.doc + 1) es r.3 (omega (arith, same))) in
          let goal : length (e ∷ entries_of d es) ≤ 1 = omega (arith, none) in goal)
      | false ↦ (λ h. ih)
    ]) refl

-- a cut takes nothing behind it
pub entries-kept : (d t : ℕ) (es : List Entry) → t ≤ d → entries_of d (from t es) ≡ entries_of d es
entries-kept d t [] l = refl
entries-kept d t (e ∷ es) l =
    let ih = entries-kept d t es l in
    by_order t e.doc (entries_of d (from t (e ∷ es)) ≡ entries_of d (e ∷ es))
    (λ i. ap (entries_of d) (from-in t e es i) ∙ ap (λ xs. if d == e.doc then e ∷ xs else xs) ih)
    (λ o. let apart : (d == e.doc) ≡ false = grind (arith, nat_tests, o, l) in
    ap (entries_of d) (from-out t e es o) ∙ (ih ∙ sym (ap (λ b. if b then e ∷ entries_of d es else entries_of d es) apart)))

-- and all before it
pub entries-cut : (d t : ℕ) (es : List Entry) → d < t → entries_of d (from t es) ≡ []
entries-cut d t [] l = refl
entries-cut d t (e ∷ es) l =
    let ih = entries-cut d t es l in
    by_order t e.doc (entries_of d (from t (e ∷ es)) ≡ [])
    (λ i. let apart : (d == e.doc) ≡ false = grind (arith, nat_tests, i, l) in
    ap (entries_of d) (from-in t e es i) ∙ (ap (λ b. if b then e ∷ entries_of d (from t es) else entries_of d (from t es)) apart ∙ ih))
    (λ o. ap (entries_of d) (from-out t e es o) ∙ ih)

pub entries_at-kept : (d t : ℕ) (ess : List (List Entry)) → t ≤ d → entries_at d (map (from t) ess) ≡ entries_at d ess
entries_at-kept d t [] l = refl
entries_at-kept d t (es ∷ ess) l = ap (λ xs. xs ++ entries_at d (map (from t) ess)) (entries-kept d t es l) ∙ ap (λ xs. entries_of d es ++ xs) (entries_at-kept d t ess l)

pub entries_at-cut : (d t : ℕ) (ess : List (List Entry)) → d < t → entries_at d (map (from t) ess) ≡ []
entries_at-cut d t [] l = refl
entries_at-cut d t (es ∷ ess) l = ap (λ xs. xs ++ entries_at d (map (from t) ess)) (entries-cut d t es l) ∙ entries_at-cut d t ess l

-- ---- the greatest scores bound every sum

pub sum-append : (xs ys : List ℕ) → sum (xs ++ ys) ≡ sum xs + sum ys
sum-append xs ys = sum_by-append (λ n. n) xs ys

pub scores-append : (xs ys : List Entry) → scores_in (xs ++ ys) ≡ scores_in xs ++ scores_in ys
scores-append xs ys = map-append (λ e. e.score) xs ys

pub scores-then : (xs ys : List Entry) (zs : List ℕ) → scores_in (xs ++ ys) ++ zs ≡ scores_in xs ++ (scores_in ys ++ zs)
scores-then xs ys zs = ap (λ ss. ss ++ zs) (scores-append xs ys) ∙ append_assoc (scores_in xs) (scores_in ys) zs

pub sum-scores : (xs ys : List Entry) → sum (scores_in (xs ++ ys)) ≡ sum (scores_in xs) + sum (scores_in ys)
sum-scores xs ys = ap sum (scores-append xs ys) ∙ sum-append (scores_in xs) (scores_in ys)

-- the scores of a document in one list
pub sum-before : (d low : ℕ) (es : List Entry) → Rising low es → sum (scores_in (entries_of d es)) ≤ greatest_score es
sum-before d low [] r = omega arith
sum-before d low (e ∷ es) r =
    let ih = sum-before d (e.doc + 1) es r.3 in
    (elim (d == e.doc) as (λ b. (d == e.doc) ≡ b → sum (scores_in (if b then e ∷ entries_of d es else entries_of d es)) ≤ max e.score (greatest_score es)) [
      | true ↦ (λ h. let same : d ≡ e.doc = grind (arith, nat_tests, h) in
          let none = ap (λ xs. sum (scores_in xs)) (entries-before d (e.doc + 1) es r.3 (omega (arith, same))) in
          let more = sum-cons e.score (scores_in (entries_of d es)) in
          let goal : sum (e.score ∷ scores_in (entries_of d es)) ≤ max e.score (greatest_score es) = omega (arith, none, more) in goal)
      | false ↦ (λ h. let goal : sum (scores_in (entries_of d es)) ≤ max e.score (greatest_score es) = omega (arith, ih) in goal)
    ]) refl

-- the scores of a document add up to no more than the greatest scores of the lists do
pub sum-greatest : {X : Type 0} (entries : X → List Entry) → ((x : X) → Rising 0 (entries x)) → (d : ℕ) (xs : List X) → sum (scores_in (entries_at d (map entries xs))) ≤ greatest_sum (map entries xs)
sum-greatest entries rising d [] = omega arith
sum-greatest entries rising d (x ∷ xs) =
    let ih = sum-greatest entries rising d xs in
    let here = sum-before d 0 (entries x) (rising x) in
    let both = sum-scores (entries_of d (entries x)) (entries_at d (map entries xs)) in
    omega (arith, ih, here, both)

-- no more lists have a document than there are
pub few-have : {X : Type 0} (entries : X → List Entry) → ((x : X) → Rising 0 (entries x)) → (d : ℕ) (xs : List X) → length (entries_at d (map entries xs)) ≤ length xs
few-have entries rising d [] = omega arith
few-have entries rising d (x ∷ xs) =
    let ih = few-have entries rising d xs in
    let here = one-entry d 0 (entries x) (rising x) in
    let both = length-append (entries_of d (entries x)) (entries_at d (map entries xs)) in
    omega (arith, ih, here, both)

-- fewer have it where one hasn't
pub one-lacks : {X : Type 0} (entries : X → List Entry) → ((x : X) → Rising 0 (entries x)) → (d i : ℕ) (xs : List X) → i < length xs → entries_of d (get_or (map entries xs) i []) ≡ [] → length (entries_at d (map entries xs)) < length xs
one-lacks entries rising d i [] l none = absurd (omega (arith, l))
one-lacks entries rising d zero (x ∷ xs) l none =
    let here = ap length none in
    let rest = few-have entries rising d xs in
    let both = length-append (entries_of d (entries x)) (entries_at d (map entries xs)) in
    omega (arith, here, rest, both)
one-lacks entries rising d (suc i) (x ∷ xs) l none =
    let ih = one-lacks entries rising d i xs (omega (arith, l)) none in
    let here = one-entry d 0 (entries x) (rising x) in
    let both = length-append (entries_of d (entries x)) (entries_at d (map entries xs)) in
    omega (arith, ih, here, both)

-- lists that are the same from a document on have the same later
pub same-from : (t d : ℕ) (ess fss : List (List Entry)) → map (from t) ess ≡ map (from t) fss → t ≤ d → entries_at d ess ≡ entries_at d fss
same-from t d ess fss e l = sym (entries_at-kept d t ess l) ∙ (ap (entries_at d) e ∙ entries_at-kept d t fss l)

-- a cut takes scores away
pub sums-cut : (t d : ℕ) (ess : List (List Entry)) → sum (scores_in (entries_at d (map (from t) ess))) ≤ sum (scores_in (entries_at d ess))
sums-cut t d ess = by_order t d (sum (scores_in (entries_at d (map (from t) ess))) ≤ sum (scores_in (entries_at d ess)))
    (λ i. (let kept = ap (λ xs. sum (scores_in xs)) (entries_at-kept d t ess i) in omega (arith, kept)))
    (λ o. (let gone = ap (λ xs. sum (scores_in xs)) (entries_at-cut d t ess o) in omega (arith, gone)))

-- ---- the least document

pub least-both : (es : List Entry) (ess : List (List Entry)) → (least (es ∷ ess) ≤ first es) × (least (es ∷ ess) ≤ least ess)
least-both es ess = (omega arith, omega arith)

-- nothing is behind the end
pub least-small : {X : Type 0} (entries : X → List Entry) → ((x : X) → Rising 0 (entries x)) → (xs : List X) → least (map entries xs) ≤ terminated
least-small entries rising [] = omega arith
least-small entries rising (x ∷ xs) = let ih = least-small entries rising xs in omega (arith, ih)

-- it has the least, if it isn't the end
pub has-least : {X : Type 0} (entries : X → List Entry) → ((x : X) → Rising 0 (entries x)) → (xs : List X) → least (map entries xs) < terminated → 0 < length (entries_at (least (map entries xs)) (map entries xs))
has-least entries rising [] l = absurd (omega (arith, l))
has-least entries rising (x ∷ xs) l =
    let all : ℕ → ℕ = λ d. length (entries_of d (entries x) ++ entries_at d (map entries xs)) in
    by_order (first (entries x)) (least (map entries xs)) (0 < all (min (first (entries x)) (least (map entries xs))))
    (λ i. let here : min (first (entries x)) (least (map entries xs)) ≡ first (entries x) = omega (arith, i) in
    let on = ap length (entries-first 0 (entries x) (rising x) (omega (arith, here, l))) in
    let one = (one-first (entries x) (omega (arith, here, l))).0 in
    let both = length-append (entries_of (first (entries x)) (entries x)) (entries_at (first (entries x)) (map entries xs)) in
    let goal : 0 < all (first (entries x)) = omega (arith, on, one, both) in subst (λ d. 0 < all d) (sym here) goal)
    (λ o. let there : min (first (entries x)) (least (map entries xs)) ≡ least (map entries xs) = omega (arith, o) in
    let ih = has-least entries rising xs (omega (arith, there, l)) in
    let both = length-append (entries_of (least (map entries xs)) (entries x)) (entries_at (least (map entries xs)) (map entries xs)) in
    let goal : 0 < all (least (map entries xs)) = omega (arith, ih, both) in subst (λ d. 0 < all d) (sym there) goal)

-- lists that are cut at a document all stand there or later
pub least-cut : (t : ℕ) (ess : List (List Entry)) → t ≤ terminated → t ≤ least (map (from t) ess)
least-cut t [] l = l
least-cut t (es ∷ ess) l =
    let ih = least-cut t ess l in
    let here = first-from t es l in
    omega (arith, ih, here)

-- no list has what comes before the least
pub entries-least : {X : Type 0} (entries : X → List Entry) → ((x : X) → Rising 0 (entries x)) → (d : ℕ) (xs : List X) → d < least (map entries xs) → entries_at d (map entries xs) ≡ []
entries-least entries rising d [] l = refl
entries-least entries rising d (x ∷ xs) l =
    let both = least-both (entries x) (map entries xs) in
    ap (λ ys. ys ++ entries_at d (map entries xs)) (entries-low d 0 (entries x) (rising x) (omega (arith, l, both.0)))
    ∙ entries-least entries rising d xs (omega (arith, l, both.1))

-- the next document isn't before this one
pub first-next : (low : ℕ) (es : List Entry) → Rising low es → first es ≤ first (drop 1 es)
first-next low [] r = omega arith
first-next low (e ∷ []) r = omega (arith, r.1)
first-next low (e ∷ f ∷ es) r = omega (arith, r.3.0)

-- no list stands before the least
pub least-get : (ess : List (List Entry)) (i : ℕ) (d : List Entry) → i < length ess → least ess ≤ first (get_or ess i d)
least-get [] i d l = absurd (omega (arith, l))
least-get (es ∷ ess) zero d l = omega arith
least-get (es ∷ ess) (suc i) d l = let ih = least-get ess i d (omega (arith, l)) in omega (arith, ih)
