-- Laws of entries that remain.
use Rattle.std.proofs.Common.{[], ◌+◌, ◌-◌, ◌<◌, ◌∙◌, ◌∷◌, ◌≡◌, ◌≤◌, List, ap, arith, drop, false, if◌then◌else◌, le-leb, length, map, nat_le, refl, suc, sym, true, zero, ℕ, ◌^◌, max}
use Rattle.std.specs.Coded.{Unit-prop}
use Rattle.std.proofs.lemmas.Bool.{lt-leb}
use Rattle.std.proofs.Props.{props}
use Rattle.definitions.proofs.Lists.{by_order}
use Rattle.definitions.specs.Postings.{terminated}
use Rattle.definitions.specs.Scoring.{DontFall}
use Rattle.docsets.specs.Entries.{AreSingle, Entry, IsRest, Rising, first, first_positions, from, most_positions, single, highest}
use Rattle.docsets.specs.EntryLaws.{Rising-lower}
use Rattle.docsets.specs.ScoredEntries.{all_from, greatest_score}

-- ---- from

-- a document that isn't below stays
pub from-in : (t : ℕ) (e : Entry) (es : List Entry) → t ≤ e.doc → from t (e ∷ es) ≡ e ∷ from t es
from-in t e es l = ap (λ b. if b then e ∷ from t es else from t es) (le-leb t e.doc l)

-- one that is below goes
pub from-out : (t : ℕ) (e : Entry) (es : List Entry) → e.doc < t → from t (e ∷ es) ≡ from t es
from-out t e es l = ap (λ b. if b then e ∷ from t es else from t es) (lt-leb t e.doc l)

-- nothing is cut where all come later
pub from-low : (t low : ℕ) (es : List Entry) → t ≤ low → Rising low es → from t es ≡ es
from-low t low [] l r = refl
from-low t low (e ∷ es) l r = from-in t e es (omega (arith, r.0)) ∙ ap (λ xs. e ∷ xs) (from-low t (e.doc + 1) es (omega (arith, r.0)) r.3)

-- nor up to the first
pub from-first : (t low : ℕ) (es : List Entry) → t ≤ first es → Rising low es → from t es ≡ es
from-first t low [] l r = refl
from-first t low (e ∷ es) l r = from-in t e es l ∙ ap (λ xs. e ∷ xs) (from-low t (e.doc + 1) es (omega arith) r.3)

-- what comes later stays where more was cut before
pub from-from : (t u : ℕ) (es : List Entry) → t ≤ u → from u (from t es) ≡ from u es
from-from t u [] l = refl
from-from t u (e ∷ es) l =
    let ih = from-from t u es l in
    by_order t e.doc (from u (from t (e ∷ es)) ≡ from u (e ∷ es))
    (λ i. ap (from u) (from-in t e es i) ∙ ap (λ xs. if nat_le u e.doc then e ∷ xs else xs) ih)
    (λ o. ap (from u) (from-out t e es o) ∙ (ih ∙ sym (from-out u e es (omega (arith, o, l)))))

-- no document of what comes from one on is below it
pub first-from : (t : ℕ) (es : List Entry) → t ≤ terminated → t ≤ first (from t es)
first-from t [] l = l
first-from t (e ∷ es) l = by_order t e.doc (t ≤ first (from t (e ∷ es)))
    (λ i. rw (from-in t e es i) i)
    (λ o. rw (from-out t e es o) (first-from t es l))

-- ---- drop

-- the next document is the first after this one
pub drop-one : (low : ℕ) (es : List Entry) → Rising low es → drop 1 es ≡ from (first es + 1) es
drop-one low [] r = refl
drop-one low (e ∷ es) r = sym (from-out (e.doc + 1) e es (omega arith) ∙ from-low (e.doc + 1) (e.doc + 1) es (omega arith) r.3)

pub Rising-drop : (n low : ℕ) (es : List Entry) → Rising low es → Rising low (drop n es)
Rising-drop zero low es r = r
Rising-drop (suc n) low [] r = tt
Rising-drop (suc n) low (e ∷ es) r = Rising-lower low (e.doc + 1) (drop n es) (omega (arith, r.0)) (Rising-drop n (e.doc + 1) es r.3)

-- a step to a target that isn't reached yet changes nothing from the target on
pub from-step : (t : ℕ) (es : List Entry) → first es < t → from t (drop 1 es) ≡ from t es
from-step t [] l = refl
from-step t (e ∷ es) l = sym (from-out t e es l)

-- a cursor that is at its end has none
pub none_left : (low : ℕ) (es : List Entry) → Rising low es → terminated ≤ first es → es ≡ []
none_left low [] r l = refl
none_left low (e ∷ es) r l = absurd (omega (arith, l, r.1))

-- no entry is at the end or behind it
pub first_at_most : (low : ℕ) (es : List Entry) → Rising low es → first es ≤ terminated
first_at_most low [] r = omega arith
first_at_most low (e ∷ es) r = omega (arith, r.1)

-- each document takes a number below the end
pub few : (low : ℕ) (es : List Entry) → Rising low es → length es ≤ terminated - low
few low [] r = omega arith
few low (e ∷ es) r = let ih = few (e.doc + 1) es r.3 in omega (arith, ih, r.0, r.1)

-- ---- rests
-- what comes from a document on is a rest
pub IsRest-from : (t low : ℕ) (es : List Entry) → Rising low es → IsRest (from t es) es
IsRest-from t low [] r = (0, refl)
IsRest-from t low (e ∷ es) r = by_order t e.doc (IsRest (from t (e ∷ es)) (e ∷ es))
    (λ i. (0, from-first t low (e ∷ es) i r))
    (λ o. (let ih = IsRest-from t (e.doc + 1) es r.3 in (suc (ih.0), from-out t e es o ∙ ih.1)))

-- ---- entries of one term
pub DontFall-prop : (ns : List ℕ) → IsProp (DontFall ns)
DontFall-prop [] = Unit-prop
DontFall-prop (n ∷ []) = Unit-prop
DontFall-prop (n ∷ m ∷ ns) = let rest : IsProp (DontFall (m ∷ ns)) = DontFall-prop (m ∷ ns) in hlevel (props, rest)

pub AreSingle-prop : (es : List Entry) → IsProp (AreSingle es)
AreSingle-prop [] = Unit-prop
AreSingle-prop (e ∷ es) = let rest : IsProp (AreSingle es) = AreSingle-prop es in let falls : IsProp (DontFall (single e.positions)) = DontFall-prop (single e.positions) in hlevel (props, rest, falls)

pub AreSingle-drop : (n : ℕ) (es : List Entry) → AreSingle es → AreSingle (drop n es)
AreSingle-drop zero es s = s
AreSingle-drop (suc n) [] s = tt
AreSingle-drop (suc n) (e ∷ es) s = AreSingle-drop n es s.3

pub AreSingle-from : (t : ℕ) (es : List Entry) → AreSingle es → AreSingle (from t es)
AreSingle-from t [] s = tt
AreSingle-from t (e ∷ es) s = (let rest = AreSingle-from t es s.3 in elim (nat_le t e.doc) as (λ b. AreSingle (if b then e ∷ from t es else from t es)) [ true ↦ (s.0, s.1, s.2, rest) | false ↦ rest ])

pub most-drop : (n : ℕ) (es : List Entry) → most_positions (drop n es) ≤ most_positions es
most-drop zero es = omega arith
most-drop (suc n) [] = omega arith
most-drop (suc n) (e ∷ es) = (let ih = most-drop n es in omega (arith, ih))

pub most-from : (t : ℕ) (es : List Entry) → most_positions (from t es) ≤ most_positions es
most-from t [] = omega arith
most-from t (e ∷ es) = (let ih = most-from t es in by_order t e.doc (most_positions (from t (e ∷ es)) ≤ most_positions (e ∷ es)) (λ i. (let is = ap most_positions (from-in t e es i) in omega (arith, ih, is))) (λ o. (let is = ap most_positions (from-out t e es o) in omega (arith, ih, is))))

-- the first has no more
pub most-first : (es : List Entry) → length (single (first_positions es)) ≤ most_positions es
most-first [] = omega arith
most-first (e ∷ es) = omega arith

-- a list of no entries
pub none_of : (es : List Entry) → length es ≡ 0 → es ≡ []
none_of [] e = refl
none_of (e ∷ es) z = absurd (omega (arith, z))

-- what is single has its highest position at its first entry
pub highest_first : (es : List Entry) → AreSingle es → highest (single (first_positions es)) < 2 ^ 31
highest_first [] all = omega arith
highest_first (e ∷ es) all = all.2

-- a list of at most no entries
pub none_in : (es : List Entry) → length es ≤ 0 → es ≡ []
none_in [] l = refl
none_in (e ∷ es) l = absurd (omega (arith, l))

pub greatest_all : (doc count : ℕ) → greatest_score (all_from doc count) ≤ 1
greatest_all doc zero = omega arith
greatest_all doc (suc count) = let ih = greatest_all (doc + 1) count in let goal : max 1 (greatest_score (all_from (doc + 1) count)) ≤ 1 = omega (arith, ih) in goal

pub highest_moved : (offset : ℕ) (ps : List ℕ) → highest (map (λ p. p + offset) ps) ≤ highest ps + offset
highest_moved offset [] = omega arith
highest_moved offset (p ∷ ps) = (let ih = highest_moved offset ps in omega (arith, ih))
