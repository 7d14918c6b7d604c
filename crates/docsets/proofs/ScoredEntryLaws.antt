-- Laws of entries that have a document and a score alone, and of entries whose scores are changed.
use Rattle.std.proofs.Common.{[], ◌*◌, ◌+◌, ◌-◌, ◌<◌, ◌∙◌, ◌∷◌, ◌≡◌, ◌≤◌, Bool, List, ap, arith, cond, count_by, drop, false, if◌then◌else◌, length, map, nat_le, refl, subst, suc, sym, take, true, zero, ℕ, ℤ}
use Rattle.std.proofs.Math.Nat.{mul-le-mul_left}
use Rattle.std.proofs.lemmas.List.Sums.{sum_by-cons}
use Rattle.std.proofs.lemmas.List.{drop-drop}
use Rattle.docsets.specs.Danger.{IsDangerAnswer, Missed}
use Rattle.docsets.specs.declared.seek_danger_result.SeekDangerResult.{SeekDangerResult}
use Rattle.docsets.specs.declared.seek_danger_result.SeekDangerResult.TheVariants.{Found, SeekLowerBound}
use Rattle.docsets.specs.Entries.{Entry, IsRest, Rising, first, first_score, from}
use Rattle.docsets.proofs.EntryLaws.{IsRest-from, from-in, from-out}
use Rattle.definitions.specs.Postings.{terminated}
use Rattle.definitions.specs.ScoredLists.{AreScoredFrom, ScoredList, boosted, rescored}
use Rattle.definitions.specs.Scoring.{max_score}
use Rattle.docsets.specs.ScoredEntries.{AreScores, all_from, greatest_score, pairs_of, rescored_by, scored}
use Rattle.definitions.proofs.Lists.{by_order}

-- ---- documents and scores alone

-- they rise where their pairs do
pub Rising-scored : (low : ℕ) (ps : ScoredList) → AreScoredFrom low ps → Rising low (scored ps)
Rising-scored low [] r = tt
Rising-scored low (p ∷ ps) r = (r.0, r.1, r.2, Rising-scored (p.0 + 1) ps r.3)

AreScores-lower : (low high : ℕ) (ps : List (ℕ × ℤ)) → low ≤ high → AreScores high ps → AreScores low ps
AreScores-lower low high [] l r = tt
AreScores-lower low high (p ∷ ps) l r = (omega (arith, l, r.0), r.1, r.2, r.3, r.4)

-- what is left, one step on, has its scores too
pub AreScores-drop : (n low : ℕ) (ps : List (ℕ × ℤ)) → AreScores low ps → AreScores low (drop n ps)
AreScores-drop zero low ps r = r
AreScores-drop (suc n) low [] r = tt
AreScores-drop (suc n) low (p ∷ ps) r = AreScores-lower low (p.0 + 1) (drop n ps) (omega (arith, r.0)) (AreScores-drop n (p.0 + 1) ps r.4)

pub AreScores-next : (i : ℕ) (ps : List (ℕ × ℤ)) → AreScores 0 (drop i ps) → AreScores 0 (drop (i + 1) ps)
AreScores-next i ps r = subst (AreScores 0) (drop-drop 1 i ps) (AreScores-drop 1 0 (drop i ps) r)

scored-one : {X : Type 0} (g : X → ℕ × ℕ) (xs : List X) → scored (map g (drop 1 xs)) ≡ drop 1 (scored (map g xs))
scored-one g [] = refl
scored-one g (x ∷ xs) = refl

-- what is left, one step on, of a list that is mapped to pairs
pub scored-next : {X : Type 0} (g : X → ℕ × ℕ) (xs : List X) (i : ℕ) → scored (map g (drop (i + 1) xs)) ≡ drop 1 (scored (map g (drop i xs)))
scored-next g xs i = ap (λ ys. scored (map g ys)) (sym (drop-drop 1 i xs)) ∙ scored-one g (drop i xs)

-- the first of those below a number
pub first-all : (doc max_doc : ℕ) → doc < max_doc → first (all_from doc (max_doc - doc)) ≡ doc
first-all doc max_doc l = (let some : max_doc - doc ≡ suc (max_doc - doc - 1) = omega (arith, l) in rw some refl)

pub none-all : (doc max_doc : ℕ) → max_doc ≤ doc → all_from doc (max_doc - doc) ≡ []
none-all doc max_doc l = ap (all_from doc) (let none : max_doc - doc ≡ 0 = omega (arith, l) in none)

-- the next step leaves those from the next document on
pub all-next : (doc count : ℕ) → drop 1 (all_from doc count) ≡ all_from (doc + 1) (count - 1)
all-next doc zero = refl
all-next doc (suc n) = ap (all_from (doc + 1)) (let is : n ≡ suc n - 1 = omega arith in is)

kept : (t doc count : ℕ) → t ≤ doc → from t (all_from doc count) ≡ all_from doc count
kept t doc zero l = refl
kept t doc (suc n) l = from-in t (record { doc = doc; score = 1; count = 0; positions = [] }) (all_from (doc + 1) n) l ∙ ap (λ xs. record { doc = doc; score = 1; count = 0; positions = [] } ∷ xs) (kept t (doc + 1) n (omega (arith, l)))

-- those from a document on
pub all-from : (t doc count : ℕ) → doc ≤ t → from t (all_from doc count) ≡ all_from t (doc + count - t)
all-from t doc zero l = ap (all_from t) (let is : 0 ≡ doc + 0 - t = omega (arith, l) in is)
all-from t doc (suc n) l = by_order t doc (from t (all_from doc (suc n)) ≡ all_from t (doc + suc n - t))
    (λ i. (let same : doc ≡ t = omega (arith, i, l) in kept t doc (suc n) i ∙ (ap (λ d. all_from d (suc n)) same ∙ ap (all_from t) (let is : suc n ≡ doc + suc n - t = omega (arith, same) in is))))
    (λ o. from-out t (record { doc = doc; score = 1; count = 0; positions = [] }) (all_from (doc + 1) n) o ∙ (all-from t (doc + 1) n (omega (arith, o)) ∙ ap (all_from t) (let is : doc + 1 + n - t ≡ doc + suc n - t = omega (arith, o) in is)))

-- those from a target on, of those below a number
pub sought-all : (t doc max_doc : ℕ) → (max_doc ≤ doc → doc ≡ terminated) → first (all_from doc (max_doc - doc)) ≤ t → all_from t (max_doc - t) ≡ from t (all_from doc (max_doc - doc))
sought-all t doc max_doc ends ahead = by_order max_doc doc (all_from t (max_doc - t) ≡ from t (all_from doc (max_doc - doc)))
    (λ i. (let gone = none-all doc max_doc i in let past : terminated ≤ t = (let at = ap first gone in omega (arith, at, ahead)) in let end = ends i in none-all t max_doc (omega (arith, i, end, past)) ∙ ap (from t) (sym gone)))
    (λ o. (let at = first-all doc max_doc o in sym (all-from t doc (max_doc - doc) (omega (arith, at, ahead)) ∙ ap (all_from t) (let is : doc + (max_doc - doc) - t ≡ max_doc - t = omega (arith, o) in is))))

-- those behind a document, of those below a number
pub behind-all : (doc max_doc : ℕ) → all_from (doc + 1) (max_doc - (doc + 1)) ≡ drop 1 (all_from doc (max_doc - doc))
behind-all doc max_doc = sym (all-next doc (max_doc - doc) ∙ ap (all_from (doc + 1)) (let is : max_doc - doc - 1 ≡ max_doc - (doc + 1) = omega arith in is))

-- ---- changed scores
pub first-rescored : (f : Entry → ℕ) (es : List Entry) → first (rescored_by f es) ≡ first es
first-rescored f [] = refl
first-rescored f (e ∷ es) = refl

-- the first score is what the function makes of the first entry
pub first_score-rescored : (f : Entry → ℕ) (n : ℕ) (es : List Entry) → first es < terminated → ((e : Entry) → f e ≡ n) → first_score (rescored_by f es) ≡ n
first_score-rescored f n [] l is = absurd (omega (arith, l))
first_score-rescored f n (e ∷ es) l is = is e

pub drop-rescored : (f : Entry → ℕ) (n : ℕ) (es : List Entry) → drop n (rescored_by f es) ≡ rescored_by f (drop n es)
drop-rescored f zero es = refl
drop-rescored f (suc n) [] = refl
drop-rescored f (suc n) (e ∷ es) = drop-rescored f n es

pub from-rescored : (f : Entry → ℕ) (t : ℕ) (es : List Entry) → from t (rescored_by f es) ≡ rescored_by f (from t es)
from-rescored f t [] = refl
from-rescored f t (e ∷ es) = (let ih = from-rescored f t es in elim (nat_le t e.doc) as (λ b. (if b then (record e { score = f e } ∷ from t (rescored_by f es)) else from t (rescored_by f es)) ≡ rescored_by f (if b then e ∷ from t es else from t es)) [ true ↦ ap (λ xs. record e { score = f e } ∷ xs) ih | false ↦ ih ])

empty-rescored : (f : Entry → ℕ) (es : List Entry) → rescored_by f es ≡ [] → es ≡ []
empty-rescored f [] none = refl
empty-rescored f (e ∷ es) none = cc

pub length-rescored : (f : Entry → ℕ) (es : List Entry) → length (rescored_by f es) ≡ length es
length-rescored f [] = refl
length-rescored f (e ∷ es) = ap suc (length-rescored f es)

pub docs-taken : (f : Entry → ℕ) (n : ℕ) (es : List Entry) → map (λ e. e.doc) (take n (rescored_by f es)) ≡ map (λ e. e.doc) (take n es)
docs-taken f zero es = refl
docs-taken f (suc n) [] = refl
docs-taken f (suc n) (e ∷ es) = ap (λ ds. e.doc ∷ ds) (docs-taken f n es)

pub count-rescored : (f : Entry → ℕ) (p : ℕ → Bool) (es : List Entry) → count_by (λ e. p e.doc) (rescored_by f es) ≡ count_by (λ e. p e.doc) es
count-rescored f p [] = refl
count-rescored f p (e ∷ es) =
    let one = λ (x : Entry). cond (p x.doc) 1 0 in
    sum_by-cons one (record e { score = f e }) (rescored_by f es) ∙ (ap (λ n. cond (p e.doc) 1 0 + n) (count-rescored f p es) ∙ sym (sum_by-cons one e es))

-- where nothing is left nothing was left
pub none-rescored : (f : Entry → ℕ) (t : ℕ) (es : List Entry) → from t (rescored_by f es) ≡ [] → from t es ≡ []
none-rescored f t es none = empty-rescored f (from t es) (sym (from-rescored f t es) ∙ none)

pub IsRest-rescored : (f : Entry → ℕ) (rest es : List Entry) → IsRest rest es → IsRest (rescored_by f rest) (rescored_by f es)
IsRest-rescored f rest es is = (is.0, ap (rescored_by f) is.1 ∙ sym (drop-rescored f is.0 es))

-- a document that was missed is missed
pub Missed-rescored : (f : Entry → ℕ) (t bound : ℕ) (before after : List Entry) → Missed t bound before after → Missed t bound (rescored_by f before) (rescored_by f after)
Missed-rescored f t bound before after m = record {
  above = m.above;
  before_next = (let is = ap first (from-rescored f t before) ∙ first-rescored f (from t before) in let old = m.before_next in omega (arith, is, old));
  rest = IsRest-rescored f after before m.rest;
  kept = from-rescored f t after ∙ (ap (rescored_by f) m.kept ∙ sym (from-rescored f t before));
}

-- whatever a cursor that was asked for a document answers
pub danger-rescored : (f : Entry → ℕ) (answer : SeekDangerResult) (t : ℕ) (before after : List Entry) → IsDangerAnswer answer t before after → IsDangerAnswer answer t (rescored_by f before) (rescored_by f after)
danger-rescored f Found t before after d = (first-rescored f after ∙ d.0, ap (rescored_by f) d.1 ∙ sym (from-rescored f t before))
danger-rescored f (SeekLowerBound bound) t before after d = Missed-rescored f t bound before after d

pub IsRest-along : (xs ys es : List Entry) → xs ≡ ys → IsRest ys es → IsRest xs es
IsRest-along xs ys es same is = (is.0, same ∙ is.1)

-- what remains then is a rest
pub danger-rest : (answer : SeekDangerResult) (t : ℕ) (before after : List Entry) → Rising 0 before → IsDangerAnswer answer t before after → IsRest after before
danger-rest Found t before after r d = IsRest-along after (from t before) before d.1 (IsRest-from t 0 before r)
danger-rest (SeekLowerBound bound) t before after r d = d.rest

-- ---- the greatest score

-- no rest has a greater one
pub greatest-drop : (n : ℕ) (es : List Entry) → greatest_score (drop n es) ≤ greatest_score es
greatest-drop zero es = omega arith
greatest-drop (suc n) [] = omega arith
greatest-drop (suc n) (e ∷ es) = (let ih = greatest-drop n es in omega (arith, ih))

pub greatest-rest : (rest es : List Entry) → IsRest rest es → greatest_score rest ≤ greatest_score es
greatest-rest rest es is = (let le = greatest-drop is.0 es in let same = ap greatest_score is.1 in omega (arith, le, same))

-- nor the first
pub first_score-least : (es : List Entry) → first_score es ≤ greatest_score es
first_score-least [] = omega arith
first_score-least (e ∷ es) = omega arith

-- a boost of less fits where that of more does
pub boost-fits : (b m n : ℕ) → m ≤ n → b * n ≤ max_score → b * m ≤ max_score
boost-fits b m n l fits = (let le = mul-le-mul_left b l in omega (arith, le, fits))

-- ---- the definitions' words
pub pairs-scored : (ps : ScoredList) → pairs_of (scored ps) ≡ ps
pairs-scored [] = refl
pairs-scored (p ∷ ps) = ap (λ xs. p ∷ xs) (pairs-scored ps)

pub pairs-boosted : (b : ℕ) (es : List Entry) → pairs_of (rescored_by (λ e. b * e.score) es) ≡ boosted b (pairs_of es)
pairs-boosted b [] = refl
pairs-boosted b (e ∷ es) = ap (λ xs. (e.doc, b * e.score) ∷ xs) (pairs-boosted b es)

pub pairs-rescored : (constant : ℕ) (es : List Entry) → pairs_of (rescored_by (λ e. constant) es) ≡ rescored constant (pairs_of es)
pairs-rescored constant [] = refl
pairs-rescored constant (e ∷ es) = ap (λ xs. (e.doc, constant) ∷ xs) (pairs-rescored constant es)
