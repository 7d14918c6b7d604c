-- Laws of the entries of phrases.
use Rattle.std.proofs.Common.{[], ◌+◌, ◌<◌, ◌∙◌, ◌∷◌, ◌≡◌, ◌≤◌, List, ap, arith, drop, false, if◌then◌else◌, length, map, nat_le, refl, subst, suc, sym, true, zero, ℕ}
use Rattle.std.proofs.lemmas.List.{drop-drop, length-map}
use Rattle.docsets.specs.Danger.{IsDangerAnswer, Missed}
use Rattle.docsets.specs.declared.seek_danger_result.SeekDangerResult.{SeekDangerResult}
use Rattle.docsets.specs.declared.seek_danger_result.SeekDangerResult.TheVariants.{Found, SeekLowerBound}
use Rattle.docsets.specs.Entries.{Entry, IsRest, Rising, first, first_count, first_positions, first_score, from, most_positions, single}
use Rattle.docsets.proofs.EntryLaws.{from-in, from-out}
use Rattle.docsets.specs.ScoredEntries.{greatest_score}
use Rattle.definitions.proofs.Lists.{by_order}
use Rattle.definitions.specs.Postings.{terminated}
use Rattle.phrases.specs.PhraseEntries.{AreColumns, HaveColumns, longest, longest_column, phrased, placed}
use Rattle.phrases.specs.Places.{places_of}
use Rattle.phrases.specs.PhraseEntryLaws.{phrase_at, phrased-none, phrased-some, place}

-- nor are they more
pub most-placed : (o : ℕ) (es : List Entry) → most_positions (placed o es) ≡ most_positions es
most-placed o [] = refl
most-placed o (e ∷ es) = (let ih = most-placed o es in let long : length (map (λ p. p + o) (single e.positions)) ≡ length (single e.positions) = length-map (single e.positions) (λ p. p + o) in omega (arith, ih, long))

-- and they have no scores
pub greatest-placed : (o : ℕ) (es : List Entry) → greatest_score (placed o es) ≡ 0
greatest-placed o [] = refl
greatest-placed o (e ∷ es) = (let ih = greatest-placed o es in omega (arith, ih))

pub first-placed : (o : ℕ) (es : List Entry) → first (placed o es) ≡ first es
first-placed o [] = refl
first-placed o (e ∷ es) = refl

-- the first has as many positions
pub length-placed : (o : ℕ) (es : List Entry) → length (single (first_positions (placed o es))) ≡ length (single (first_positions es))
length-placed o [] = refl
length-placed o (e ∷ es) = length-map (single e.positions) (λ p. p + o)

pub drop-placed : (o n : ℕ) (es : List Entry) → drop n (placed o es) ≡ placed o (drop n es)
drop-placed o zero es = refl
drop-placed o (suc n) [] = refl
drop-placed o (suc n) (e ∷ es) = drop-placed o n es

pub from-placed : (o t : ℕ) (es : List Entry) → from t (placed o es) ≡ placed o (from t es)
from-placed o t [] = refl
from-placed o t (e ∷ es) = (let ih = from-placed o t es in elim (nat_le t e.doc) as (λ b. (if b then place o e ∷ from t (placed o es) else from t (placed o es)) ≡ placed o (if b then e ∷ from t es else from t es)) [ true ↦ ap (λ xs. place o e ∷ xs) ih | false ↦ ih ])

IsRest-placed : (o : ℕ) (rest es : List Entry) → IsRest rest es → IsRest (placed o rest) (placed o es)
IsRest-placed o rest es is = (is.0, ap (placed o) is.1 ∙ sym (drop-placed o is.0 es))

Missed-placed : (o t bound : ℕ) (before after : List Entry) → Missed t bound before after → Missed t bound (placed o before) (placed o after)
Missed-placed o t bound before after m = record {
  above = m.above;
  before_next = (let is = ap first (from-placed o t before) ∙ first-placed o (from t before) in let old = m.before_next in omega (arith, is, old));
  rest = IsRest-placed o after before m.rest;
  kept = from-placed o t after ∙ (ap (placed o) m.kept ∙ sym (from-placed o t before));
}

-- whatever a cursor that was asked for a document answers
pub danger-placed : (o : ℕ) (answer : SeekDangerResult) (t : ℕ) (before after : List Entry) → IsDangerAnswer answer t before after → IsDangerAnswer answer t (placed o before) (placed o after)
danger-placed o Found t before after d = (first-placed o after ∙ d.0, ap (placed o) d.1 ∙ sym (from-placed o t before))
danger-placed o (SeekLowerBound bound) t before after d = Missed-placed o t bound before after d

-- where the first document has no places it can be passed
pub phrased-pass : (score : ℕ → ℕ → ℕ) (slop : ℕ) (es : List Entry) → length (places_of slop (first_positions es)) ≡ 0 → phrased score slop (drop 1 es) ≡ phrased score slop es
phrased-pass score slop [] none = refl
phrased-pass score slop (e ∷ es) none = sym (phrased-none score slop e es none)

-- where it has some it is the first
pub phrased-stands : (score : ℕ → ℕ → ℕ) (slop : ℕ) (es : List Entry) → (first es < terminated → 0 < length (places_of slop (first_positions es))) → Rising 0 es → (first (phrased score slop es) ≡ first es) × (phrased score slop (drop 1 es) ≡ drop 1 (phrased score slop es))
phrased-stands score slop [] some r = (refl, refl)
phrased-stands score slop (e ∷ es) some r = (let is = phrased-some score slop e es (some r.1) in (ap first is, sym (ap (drop 1) is)))

pub phrased-first : (score : ℕ → ℕ → ℕ) (slop : ℕ) (es : List Entry) → first es < terminated → 0 < length (places_of slop (first_positions es)) → (first_count (phrased score slop es) ≡ length (places_of slop (first_positions es))) × (first_score (phrased score slop es) ≡ score (first es) (length (places_of slop (first_positions es)))) × (first_positions (phrased score slop es) ≡ places_of slop (first_positions es) ∷ [])
phrased-first score slop [] l some = absurd (omega (arith, l))
phrased-first score slop (e ∷ es) l some = (let is = phrased-some score slop e es some in (ap first_count is, ap first_score is, ap first_positions is))

pub from-phrased : (score : ℕ → ℕ → ℕ) (slop t : ℕ) (es : List Entry) → from t (phrased score slop es) ≡ phrased score slop (from t es)
from-phrased score slop t [] = refl
from-phrased score slop t (e ∷ es) =
    let ih = from-phrased score slop t es in
    let places : List ℕ = places_of slop e.positions in
    by_order t e.doc (from t (phrased score slop (e ∷ es)) ≡ phrased score slop (from t (e ∷ es)))
    (λ i. by_order 1 (length places) (from t (phrased score slop (e ∷ es)) ≡ phrased score slop (from t (e ∷ es)))
    (λ some. ap (from t) (phrased-some score slop e es (omega (arith, some))) ∙ (from-in t (phrase_at score e places) (phrased score slop es) i ∙ (ap (λ xs. phrase_at score e places ∷ xs) ih ∙ sym (ap (phrased score slop) (from-in t e es i) ∙ phrased-some score slop e (from t es) (omega (arith, some))))))
    (λ none. ap (from t) (phrased-none score slop e es (omega (arith, none))) ∙ (ih ∙ sym (ap (phrased score slop) (from-in t e es i) ∙ phrased-none score slop e (from t es) (omega (arith, none))))))
    (λ o. by_order 1 (length places) (from t (phrased score slop (e ∷ es)) ≡ phrased score slop (from t (e ∷ es)))
    (λ some. ap (from t) (phrased-some score slop e es (omega (arith, some))) ∙ (from-out t (phrase_at score e places) (phrased score slop es) o ∙ (ih ∙ sym (ap (phrased score slop) (from-out t e es o)))))
    (λ none. ap (from t) (phrased-none score slop e es (omega (arith, none))) ∙ (ih ∙ sym (ap (phrased score slop) (from-out t e es o)))))

-- ---- what is left has columns too
pub HaveColumns-drop : (n : ℕ) (es : List Entry) → HaveColumns es → HaveColumns (drop n es)
HaveColumns-drop zero es h = h
HaveColumns-drop (suc n) [] h = tt
HaveColumns-drop (suc n) (e ∷ es) h = HaveColumns-drop n es h.2

pub HaveColumns-rest : (rest es : List Entry) → IsRest rest es → HaveColumns es → HaveColumns rest
HaveColumns-rest rest es is h = subst HaveColumns (sym is.1) (HaveColumns-drop is.0 es h)

pub first-columns : (es : List Entry) → HaveColumns es → first es < terminated → (0 < length (first_positions es)) × AreColumns (first_positions es)
first-columns [] h l = absurd (omega (arith, l))
first-columns (e ∷ es) h l = (h.0, h.1)

longest-drop : (n : ℕ) (es : List Entry) → longest_column (drop n es) ≤ longest_column es
longest-drop zero es = omega arith
longest-drop (suc n) [] = omega arith
longest-drop (suc n) (e ∷ es) = (let ih = longest-drop n es in omega (arith, ih))

pub longest-rest : (rest es : List Entry) → IsRest rest es → longest_column rest ≤ longest_column es
longest-rest rest es is = (let le = longest-drop is.0 es in let same = ap longest_column is.1 in omega (arith, le, same))

pub longest-first : (es : List Entry) → longest (first_positions es) ≤ longest_column es
longest-first [] = omega arith
longest-first (e ∷ es) = omega arith

-- a rest of a rest
pub IsRest-on : (xs ys zs : List Entry) → IsRest xs ys → IsRest ys zs → IsRest xs zs
IsRest-on xs ys zs a b = (b.0 + a.0, a.1 ∙ (ap (drop a.0) b.1 ∙ drop-drop a.0 b.0 zs))
