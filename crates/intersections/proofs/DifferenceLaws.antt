-- Laws of differences.
use Rattle.std.proofs.Common.{[], ◌+◌, ◌<◌, ◌∙◌, ◌∷◌, ◌≡◌, ◌≤◌, Bool, List, ap, arith, drop, false, if◌then◌else◌, le-leb, length, nat_le, refl, sym, true, ℕ}
use Rattle.definitions.specs.Postings.{terminated}
use Rattle.docsets.specs.Bounds.{Covers}
use Rattle.docsets.specs.Danger.{Missed}
use Rattle.docsets.specs.Entries.{Entry, Rising, first, from}
use Rattle.docsets.specs.EntryLaws.{Rising-from}
use Rattle.docsets.proofs.EntryLaws.{from-from, from-in, from-out}
use Rattle.definitions.proofs.Lists.{by_order}
use Rattle.docsets.proofs.MemberLaws.{entries-kept, entries-low, entries-on, one-first}
use Rattle.docsets.specs.Members.{entries_of}
use Rattle.intersections.specs.Differences.{has, without}

-- what is excluded goes
pub without-out : (set : ℕ → Bool) (e : Entry) (es : List Entry) → set e.doc ≡ true → without set (e ∷ es) ≡ without set es
without-out set e es is = ap (λ b. if b then without set es else e ∷ without set es) is

-- and nothing else
pub without-in : (set : ℕ → Bool) (e : Entry) (es : List Entry) → set e.doc ≡ false → without set (e ∷ es) ≡ e ∷ without set es
without-in set e es is = ap (λ b. if b then without set es else e ∷ without set es) is

-- a cut of the list is a cut of the difference
pub from-without : (set : ℕ → Bool) (t : ℕ) (es : List Entry) → from t (without set es) ≡ without set (from t es)
from-without set t [] = refl
from-without set t (e ∷ es) =
    let ih = from-without set t es in
    elim (set e.doc) as (λ b. set e.doc ≡ b → from t (without set (e ∷ es)) ≡ without set (from t (e ∷ es))) [
      | true ↦ (λ out. ap (from t) (without-out set e es out) ∙ (ih ∙ by_order t e.doc (without set (from t es) ≡ without set (from t (e ∷ es)))
          (λ i. sym (ap (without set) (from-in t e es i) ∙ without-out set e (from t es) out))
          (λ o. sym (ap (without set) (from-out t e es o)))))
      | false ↦ (λ stays. ap (from t) (without-in set e es stays) ∙ by_order t e.doc (from t (e ∷ without set es) ≡ without set (from t (e ∷ es)))
          (λ i. from-in t e (without set es) i ∙ (ap (λ xs. e ∷ xs) ih ∙ sym (ap (without set) (from-in t e es i) ∙ without-in set e (from t es) stays)))
          (λ o. from-out t e (without set es) o ∙ (ih ∙ sym (ap (without set) (from-out t e es o)))))
    ] refl

-- sets that agree on what remains take the same from it
pub without-same : (f g : ℕ → Bool) (low : ℕ) (es : List Entry) → Rising low es → ((d : ℕ) → low ≤ d → f d ≡ g d) → without f es ≡ without g es
without-same f g low [] r same = refl
without-same f g low (e ∷ es) r same =
    let at = r.0 in
    ap (λ b. if b then without f es else e ∷ without f es) (same e.doc r.0)
    ∙ ap (λ xs. if g e.doc then xs else e ∷ xs) (without-same f g (e.doc + 1) es r.3 (λ d l. same d (omega (arith, l, at))))

-- from the first on
pub without-later : (f g : ℕ → Bool) (es : List Entry) → Rising 0 es → ((d : ℕ) → first es ≤ d → f d ≡ g d) → without f es ≡ without g es
without-later f g [] r same = refl
without-later f g (e ∷ es) r same = without-same f g e.doc (e ∷ es) (omega arith, r.1, r.2, r.3) same

-- the first goes where it is excluded
pub without-first : (set : ℕ → Bool) (es : List Entry) → set (first es) ≡ true → without set es ≡ without set (drop 1 es)
without-first set [] out = refl
without-first set (e ∷ es) out = without-out set e es out

-- ---- whether a list has a document

-- one that it stands on
pub has-first : (d : ℕ) (es : List Entry) → Rising 0 es → first es ≡ d → d < terminated → has es d ≡ true
has-first d es r e l = (let size = ap length (entries-on d es r e l) ∙ (one-first es (omega (arith, e, l))).0 in le-leb 1 (length (entries_of d es)) (omega (arith, size)))

-- none before its first
pub has-low : (d : ℕ) (es : List Entry) → Rising 0 es → d < first es → has es d ≡ false
has-low d es r l = ap (λ xs. nat_le 1 (length xs)) (entries-low d 0 es r l)

-- a cut takes nothing behind it
pub has-kept : (t d : ℕ) (before after : List Entry) → from t after ≡ from t before → t ≤ d → has after d ≡ has before d
has-kept t d before after e l = ap (λ xs. nat_le 1 (length xs)) (sym (entries-kept d t after l) ∙ (ap (entries_of d) e ∙ entries-kept d t before l))

-- what a cursor answers that was asked for a document
pub has-found : (d : ℕ) (before after : List Entry) → Rising 0 after → d < terminated → (first after ≡ d) × (after ≡ from d before) → has before d ≡ true
has-found d before after r l is = sym (has-kept d d before after (ap (from d) is.1 ∙ from-from d d before (omega arith)) (omega arith)) ∙ has-first d after r is.0 l

pub has-missed : (d bound : ℕ) (before after : List Entry) → Rising 0 before → Missed d bound before after → has before d ≡ false
has-missed d bound before after r m =
    let above = m.above in
    let next = m.before_next in
    sym (has-kept d d before (from d before) (from-from d d before (omega arith)) (omega arith)) ∙ has-low d (from d before) (Rising-from d 0 before r) (omega (arith, above, next))

-- ---- bounds

-- what bounds the scores of a list bounds those that stay
pub covers_without : (set : ℕ → Bool) (target until bound : ℕ) (es : List Entry) → Covers target until bound es → Covers target until bound (without set es)
covers_without set target until bound [] few = tt
covers_without set target until bound (e ∷ es) few =
    let ih = covers_without set target until bound es few.1 in
    elim (set e.doc) as (λ b. Covers target until bound (if b then without set es else e ∷ without set es)) [ true ↦ ih | false ↦ (few.0, ih) ]
