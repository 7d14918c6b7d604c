-- A walk over the union of several lists: the scores that it adds up, and what it leaves out.
use Rattle.std.proofs.Common.{[], Bool, List, ap, ap₂, arith, drop, false, get_or, if◌then◌else◌, length, map, min, nat_le, pos, refl, set, subst, suc, sum, sym, take, true, zero, ◌++◌, ◌+◌, ◌<◌, ◌∙◌, ◌∷◌, ◌≡◌, ◌≢◌, ◌≤◌, ◌≤ℤ◌, ℕ, ℤ}
use Rattle.std.specs.Prelude.{int_lt}
use Rattle.std.proofs.lemmas.Bool.Decides.{nat_tests}
use Rattle.std.proofs.lemmas.List.{drop-map, get_or-map, length-append, take-map}
use Rattle.definitions.specs.Postings.{terminated}
use Rattle.definitions.specs.Scoring.{max_score}
use Rattle.definitions.specs.Sinks.{fed}
use Rattle.docsets.proofs.AtLeastLaws.{chosen-from, too_few}
use Rattle.docsets.proofs.EntryLaws.{first-from, first_at_most, from-from}
use Rattle.docsets.proofs.MemberLaws.{entries-kept, entries-low, entries-off, from-listed, has-least, least-cut, listed-end, listed-found, listed-out, same-from, scores-on, sum-scores}
use Rattle.docsets.specs.Bounds.{Covers}
use Rattle.docsets.specs.Entries.{Entry, Rising, first, first_score, from}
use Rattle.docsets.specs.EntryLaws.{Rising-from}
use Rattle.docsets.specs.Members.{at_document, at_least, enough, entries_at, entries_of, joining, least, listed, scores_in}
use Rattle.docsets.specs.ScoredEntries.{greatest_score, pairs_of}
use Rattle.walks.proofs.BlockWalks.{not_above}
use Rattle.walks.proofs.EntryCuts.{length-from}
use Rattle.walks.proofs.TailChanges.{drop-tail, take-tail}
use Rattle.walks.specs.Unions.{AreLater, moved_before, moved_from, union}

-- lists that agree from a document on agree later
pub from_later : (t u : ℕ) (ess fss : List (List Entry)) → t ≤ u → map (from t) ess ≡ map (from t) fss → map (from u) ess ≡ map (from u) fss
from_later t u ess fss far same = sym (cut_again ess) ∙ (ap (map (from u)) same ∙ cut_again fss)
  where
    cut_again : (gss : List (List Entry)) → map (from u) (map (from t) gss) ≡ map (from u) gss
    cut_again [] = refl
    cut_again (es ∷ gss) = ap₂ (λ x xs. x ∷ xs) (from-from t u es far) (cut_again gss)

-- ---- one list

-- a list that stands on a document has its score
pub score_here : (d : ℕ) (es : List Entry) → Rising 0 es → first es ≡ d → d < terminated → sum (scores_in (entries_of d es)) ≡ first_score es
score_here d es rises on small = (let one = ap sum (scores-on d es rises on small) in omega (arith, one))

-- a list that was moved to a document has its score if it stands there
pub moved_on : (d : ℕ) (es after : List Entry) → Rising 0 es → after ≡ from d es → first after ≡ d → d < terminated → sum (scores_in (entries_of d es)) ≡ first_score after
moved_on d es after rises is on small =
    let kept = ap (λ xs. sum (scores_in xs)) (entries-kept d d es (omega arith)) in
    let same = ap (λ xs. sum (scores_in (entries_of d xs))) is in
    let here = score_here d after (subst (Rising 0) (sym is) (Rising-from d 0 es rises)) on small in
    omega (arith, kept, same, here)

-- and else none
pub none_here : (d : ℕ) (es : List Entry) → Rising 0 es → d ≤ first es → first es ≢ d → sum (scores_in (entries_of d es)) ≡ 0
none_here d es rises far off = ap (λ xs. sum (scores_in xs)) (entries-off d es rises far off)

pub moved_off : (d : ℕ) (es after : List Entry) → Rising 0 es → after ≡ from d es → first after ≢ d → d < terminated → sum (scores_in (entries_of d es)) ≡ 0
moved_off d es after rises is off small =
    let kept = ap (λ xs. sum (scores_in xs)) (entries-kept d d es (omega arith)) in
    let same = ap (λ xs. sum (scores_in (entries_of d xs))) is in
    let late = first-from d es (omega (arith, small)) in
    let stands = ap first is in
    let none = none_here d after (subst (Rising 0) (sym is) (Rising-from d 0 es rises)) (omega (arith, late, stands)) off in
    omega (arith, kept, same, none)

-- ---- bounds of one list

behind : (target until n low : ℕ) (es : List Entry) → until ≤ low → Rising low es → Covers target until n es
behind target until n low [] far rises = tt
behind target until n low (e ∷ es) far rises = ((λ late early. absurd (omega (arith, far, early, rises.0))), behind target until n (e.doc + 1) es (omega (arith, far, rises.0)) rises.3)

-- a list that stands behind a window has nothing in it
pub covers_behind : (target until n : ℕ) (es : List Entry) → until ≤ first es → Rising 0 es → Covers target until n es
covers_behind target until n [] far rises = tt
covers_behind target until n (e ∷ es) far rises = ((λ late early. absurd (omega (arith, far, early))), behind target until n (e.doc + 1) es (omega (arith, far)) rises.3)

-- a bound holds of less, and none need be above the greatest score
pub covers_less : (target until n before m low : ℕ) (es : List Entry) → before ≤ until → ((score : ℕ) → score ≤ n → score ≤ max_score → score ≤ m) → Rising low es → Covers target until n es → Covers target before m es
covers_less target until n before m low [] less fits rises covers = tt
covers_less target until n before m low (e ∷ es) less fits rises covers = ((λ late early. fits e.score (covers.0 late (omega (arith, early, less))) rises.2), covers_less target until n before m (e.doc + 1) es less fits rises.3 covers.1)

-- ---- the least document of several lists that are cut

-- it isn't behind the end
pub least_terminated : {X : Type 0} (entries : X → List Entry) → ((x : X) → Rising 0 (entries x)) → (t n : ℕ) (xs : List X) → min terminated (least (map (from t) (drop n (map entries xs)))) ≡ least (map (from t) (drop n (map entries xs)))
least_terminated entries rising t zero [] = refl
least_terminated entries rising t zero (x ∷ xs) =
    let rest = least_terminated entries rising t 0 xs in
    let here = first_at_most 0 (from t (entries x)) (Rising-from t 0 (entries x) (rising x)) in
    omega (arith, rest, here)
least_terminated entries rising t (suc n) [] = refl
least_terminated entries rising t (suc n) (x ∷ xs) = least_terminated entries rising t n xs

-- ---- sums over several lists

-- the first lists and the others
pub sum_parts : (d n : ℕ) (ess : List (List Entry)) → sum (scores_in (entries_at d ess)) ≡ sum (scores_in (entries_at d (take n ess))) + sum (scores_in (entries_at d (drop n ess)))
sum_parts d zero ess = omega arith
sum_parts d (suc n) [] = omega arith
sum_parts d (suc n) (es ∷ ess) =
    let ih = sum_parts d n ess in
    let whole = sum-scores (entries_of d es) (entries_at d ess) in
    let first = sum-scores (entries_of d es) (entries_at d (take n ess)) in
    omega (arith, ih, whole, first)

pub low_same : {a b : ℕ} {t : ℤ} → a ≡ b → pos a ≤ℤ t → pos b ≤ℤ t
low_same {t} same low = subst (λ n. pos n ≤ℤ t) same low

-- ---- lists that were moved on

greatest_from : (t : ℕ) (es : List Entry) → greatest_score (from t es) ≤ greatest_score es
greatest_from t [] = omega arith
greatest_from t (e ∷ es) =
    let ih = greatest_from t es in
    elim (nat_le t e.doc) as (λ b. greatest_score (if b then e ∷ from t es else from t es) ≤ greatest_score (e ∷ es)) [ true ↦ omega (arith, ih) | false ↦ omega (arith, ih) ]

pub later_same : (t : ℕ) (ess : List (List Entry)) → AreLater t ess ess
later_same t ess = record { same = refl; greatest = omega arith }

pub later_then : (t u : ℕ) (before next after : List (List Entry)) → AreLater t before next → AreLater u next after → t ≤ u → AreLater u before after
later_then t u before next after one other far =
    let few = one.greatest in
    let fewer = other.greatest in
    record { same = other.same ∙ from_later t u next before far one.same; greatest = omega (arith, few, fewer) }

pub later_on : (t u : ℕ) (before after : List (List Entry)) → t ≤ u → AreLater t before after → AreLater u before after
later_on t u before after far later = record { same = from_later t u after before far later.same; greatest = later.greatest }

-- those that are moved agree from there on
pub moved_all : (t : ℕ) (ess : List (List Entry)) → AreLater t ess (map (from t) ess)
moved_all t [] = record { same = refl; greatest = omega arith }
moved_all t (es ∷ ess) =
    let rest = moved_all t ess in
    let few = greatest_from t es in
    let fewer = rest.greatest in
    record { same = ap₂ (λ x xs. x ∷ xs) (from-from t t es (omega arith)) rest.same; greatest = omega (arith, few, fewer) }

pub later_before : (n t : ℕ) (ess : List (List Entry)) → AreLater t ess (moved_before n t ess)
later_before zero t ess = later_same t ess
later_before (suc n) t [] = later_same t []
later_before (suc n) t (es ∷ ess) =
    let rest = later_before n t ess in
    let few = greatest_from t es in
    let fewer = rest.greatest in
    record { same = ap₂ (λ x xs. x ∷ xs) (from-from t t es (omega arith)) rest.same; greatest = omega (arith, few, fewer) }

pub later_from : (n t : ℕ) (ess : List (List Entry)) → AreLater t ess (moved_from n t ess)
later_from zero t ess = moved_all t ess
later_from (suc n) t [] = later_same t []
later_from (suc n) t (es ∷ ess) =
    let rest = later_from n t ess in
    let fewer = rest.greatest in
    record { same = ap (λ xs. from t es ∷ xs) rest.same; greatest = omega (arith, fewer) }

-- one of them is moved
pub later_set : (i t : ℕ) (ess : List (List Entry)) (es : List Entry) → i < length ess → es ≡ from t (get_or ess i []) → AreLater t ess (set ess i es)
later_set i t [] es within is = absurd (omega (arith, within))
later_set zero t (x ∷ ess) es within is =
    let few = greatest_from t x in
    let same = ap greatest_score is in
    record { same = ap (λ y. y ∷ map (from t) ess) (ap (from t) is ∙ from-from t t x (omega arith)); greatest = omega (arith, few, same) }
later_set (suc i) t (x ∷ ess) es within is =
    let rest = later_set i t ess es (omega (arith, within)) is in
    let fewer = rest.greatest in
    record { same = ap (λ xs. from t x ∷ xs) rest.same; greatest = omega (arith, fewer) }

-- what one of them has of a document from which on they agree
pub same_one : (d i : ℕ) (ess fss : List (List Entry)) → map (from d) ess ≡ map (from d) fss → i < length ess → i < length fss → entries_of d (get_or ess i []) ≡ entries_of d (get_or fss i [])
same_one d i ess fss same within inside =
    let one = get_or-map (from d) ess i [] [] within in
    let other = get_or-map (from d) fss i [] [] inside in
    sym (entries-kept d d (get_or ess i []) (omega arith))
    ∙ (ap (entries_of d) (sym one ∙ (ap (λ xs. get_or xs i []) same ∙ other))
    ∙ entries-kept d d (get_or fss i []) (omega arith))

-- the first of them, and the others
pub same_taken : (n t : ℕ) (ess fss : List (List Entry)) → map (from t) ess ≡ map (from t) fss → map (from t) (take n ess) ≡ map (from t) (take n fss)
same_taken n t ess fss same = sym (take-map (from t) n ess) ∙ (ap (take n) same ∙ take-map (from t) n fss)

pub same_left : (n t : ℕ) (ess fss : List (List Entry)) → map (from t) ess ≡ map (from t) fss → map (from t) (drop n ess) ≡ map (from t) (drop n fss)
same_left n t ess fss same = sym (drop-map (from t) n ess) ∙ (ap (drop n) same ∙ drop-map (from t) n fss)

-- what lists that are cut don't have before the least document of them
pub none_before : {X : Type 0} (entries : X → List Entry) → ((x : X) → Rising 0 (entries x)) → (t d n : ℕ) (xs : List X) → t ≤ d → d < least (map (from t) (drop n (map entries xs))) → entries_at d (drop n (map entries xs)) ≡ []
none_before entries rising t d zero [] late early = refl
none_before entries rising t d zero (x ∷ xs) late early =
    let rest = none_before entries rising t d 0 xs late (omega (arith, early)) in
    let here = sym (entries-kept d t (entries x) late) ∙ entries-low d 0 (from t (entries x)) (Rising-from t 0 (entries x) (rising x)) (omega (arith, early)) in
    ap₂ (λ a b. a ++ b) here rest
none_before entries rising t d (suc n) [] late early = refl
none_before entries rising t d (suc n) (x ∷ xs) late early = none_before entries rising t d n xs late early

-- how many have a document
pub length_parts : (d n : ℕ) (ess : List (List Entry)) → length (entries_at d ess) ≡ length (entries_at d (take n ess)) + length (entries_at d (drop n ess))
length_parts d zero ess = omega arith
length_parts d (suc n) [] = omega arith
length_parts d (suc n) (es ∷ ess) =
    let ih = length_parts d n ess in
    let whole = length-append (entries_of d es) (entries_at d ess) in
    let first = length-append (entries_of d es) (entries_at d (take n ess)) in
    omega (arith, ih, whole, first)

-- ---- what is left of a union

-- the score of a document
abbrev pub score_at : List (List Entry) → ℕ → ℕ
score_at ess d = sum (scores_in (entries_at d ess))

-- its documents from one on
abbrev pub left : List (List Entry) → ℕ → List Entry
left ess t = listed (enough 1 ess) (λ d. joining d (entries_at d ess)) t

pub left_is : (t : ℕ) (ess : List (List Entry)) → t ≤ terminated → from t (union ess) ≡ left ess t
left_is t ess small = from-listed (enough 1 ess) (λ d. joining d (entries_at d ess)) 0 t (omega arith) small

pub later_left : (t : ℕ) (before after : List (List Entry)) → t ≤ terminated → AreLater t before after → from t (union after) ≡ from t (union before)
later_left t before after small later = sym (chosen-from 1 joining after t (omega arith) small) ∙ (ap (at_least 1 joining) later.same ∙ chosen-from 1 joining before t (omega arith) small)

have_it : (ess : List (List Entry)) (d : ℕ) → 0 < length (entries_at d ess) → enough 1 ess d ≡ true
have_it ess d some = grind (arith, nat_tests, some)

lack_it : (ess : List (List Entry)) (d : ℕ) → length (entries_at d ess) ≡ 0 → enough 1 ess d ≡ false
lack_it ess d none = too_few 1 ess d (omega (arith, none))

-- a document that some have, and then those behind it
pub left_here : (ess : List (List Entry)) (d : ℕ) → d < terminated → 0 < length (entries_at d ess) → left ess d ≡ at_document d (joining d (entries_at d ess)) ∷ left ess (d + 1)
left_here ess d small some = listed-found (enough 1 ess) (λ x. joining x (entries_at x ess)) d small (have_it ess d some)

-- a document that is fed
pub take_fed : {S : Type 0} (limit : S → ℤ) (taken : S → ℕ × ℕ → S) (s : S) (ess : List (List Entry)) (d : ℕ) → d < terminated → 0 < length (entries_at d ess) → fed limit taken (fed limit taken s ((d, score_at ess d) ∷ [])) (pairs_of (left ess (d + 1))) ≡ fed limit taken s (pairs_of (left ess d))
take_fed limit taken s ess d small some = sym (ap (λ es. fed limit taken s (pairs_of es)) (left_here ess d small some))

-- documents whose scores aren't above the threshold
pub gap_fed : {S : Type 0} (limit : S → ℤ) (taken : S → ℕ × ℕ → S) (s : S) (ess : List (List Entry)) (k t u : ℕ) → t + k ≡ u → u ≤ terminated → ((d : ℕ) → t ≤ d → d < u → 0 < length (entries_at d ess) → int_lt (limit s) (pos (score_at ess d)) ≡ false) → fed limit taken s (pairs_of (left ess t)) ≡ fed limit taken s (pairs_of (left ess u))
gap_fed limit taken s ess zero t u there small low = (let same : t ≡ u = omega (arith, there) in ap (λ x. fed limit taken s (pairs_of (left ess x))) same)
gap_fed {S} limit taken s ess (suc k) t u there small low =
    go (length (entries_at t ess)) refl ∙ gap_fed limit taken s ess k (t + 1) u (omega (arith, there)) small (λ d late early. low d (omega (arith, late)) early)
  where
    go : (n : ℕ) → length (entries_at t ess) ≡ n → fed limit taken s (pairs_of (left ess t)) ≡ fed limit taken s (pairs_of (left ess (t + 1)))
    go zero none = ap (λ es. fed limit taken s (pairs_of es)) (listed-out (enough 1 ess) (λ x. joining x (entries_at x ess)) t (omega (arith, there, small)) (lack_it ess t none))
    go (suc n) some =
        let have : 0 < length (entries_at t ess) = omega (arith, some) in
        ap (λ es. fed limit taken s (pairs_of es)) (left_here ess t (omega (arith, there, small)) have)
        ∙ ap (λ (b : Bool). fed limit taken (if b then taken s (t, score_at ess t) else s) (pairs_of (left ess (t + 1)))) (low t (omega arith) (omega (arith, there)) have)

-- fewer are left later
pub fewer_left : (ess : List (List Entry)) (t u : ℕ) → t ≤ u → u ≤ terminated → length (left ess u) ≤ length (left ess t)
fewer_left ess t u far small =
    let cut = ap length (from-listed (enough 1 ess) (λ d. joining d (entries_at d ess)) t u far small) in
    let few = length-from u (left ess t) in
    omega (arith, cut, few)

pub one_less : (ess : List (List Entry)) (d : ℕ) → d < terminated → 0 < length (entries_at d ess) → length (left ess d) ≡ length (left ess (d + 1)) + 1
one_less ess d small some = (let here = ap length (left_here ess d small some) in omega (arith, here))

pub none_left : (ess : List (List Entry)) (t : ℕ) → terminated ≤ t → left ess t ≡ []
none_left ess t late = listed-end (enough 1 ess) (λ d. joining d (entries_at d ess)) t late

-- free scorers alone don't exceed a threshold that isn't below their bound
pub free_low : {S : Type 0} (limit : S → ℤ) (s : S) (ess : List (List Entry)) (d n bound : ℕ) (t : ℤ) → t ≡ limit s → entries_at d (drop n ess) ≡ [] → score_at (take n ess) d ≤ bound → (0 < n → pos bound ≤ℤ t) → 0 < length (entries_at d ess) → int_lt (limit s) (pos (score_at ess d)) ≡ false
free_low limit s ess d n bound t is none few low some =
    let parts = length_parts d n ess in
    let sums = sum_parts d n ess in
    let without = ap length none in
    let nothing = ap (λ es. sum (scores_in es)) none in
    let free : 0 < n = go n (omega (arith, parts, without, some)) in
    subst (λ u. int_lt u (pos (score_at ess d)) ≡ false) is (not_above t bound (score_at ess d) (low free) (omega (arith, sums, nothing, few)))
  where
    go : (m : ℕ) → 0 < length (entries_at d (take m ess)) → 0 < m
    go zero some = absurd (omega (arith, some))
    go (suc m) some = omega arith

-- ---- one step of a walk: the scorers that aren't free are on a document, and it is fed

-- some scorer is on it
pub some_here : {X : Type 0} (entries : X → List Entry) → ((x : X) → Rising 0 (entries x)) → (ess : List (List Entry)) (d n : ℕ) (xs : List X) → d ≡ least (drop n (map entries xs)) → d < terminated → map (from d) (map entries xs) ≡ map (from d) ess → 0 < length (entries_at d ess)
some_here entries rising ess d n xs at small same =
    let those = drop-map entries n xs in
    let low = at ∙ ap least those in
    let have = has-least entries rising (drop n xs) (omega (arith, low, small)) in
    let here : entries_at (least (map entries (drop n xs))) (map entries (drop n xs)) ≡ entries_at d (drop n (map entries xs)) = ap₂ entries_at (sym low) (sym those) in
    let some = ap length here in
    let parts = length_parts d n (map entries xs) in
    let agree = ap length (same-from d d (map entries xs) ess same (omega arith)) in
    omega (arith, have, some, parts, agree)

same_head : (n t : ℕ) (ess moved : List (List Entry)) → moved ≡ moved_from n t ess → n ≤ length ess → take n moved ≡ take n ess
same_head n t ess moved is few = ap (take n) is ∙ take-tail n ess (map (from t) (drop n ess)) few

take_fewer : {X : Type 0} (m n : ℕ) (xs : List X) → m ≤ n → take m (take n xs) ≡ take m xs
take_fewer zero n xs few = refl
take_fewer (suc m) zero xs few = absurd (omega (arith, few))
take_fewer (suc m) (suc n) [] few = refl
take_fewer (suc m) (suc n) (x ∷ xs) few = ap (λ ys. x ∷ ys) (take_fewer m n xs (omega (arith, few)))

-- the score by the first of the free ones is that at the start
pub first_scores : (m n d t : ℕ) (start ess moved : List (List Entry)) → moved ≡ moved_from n t ess → n ≤ length ess → map (from d) ess ≡ map (from d) start → m ≤ n → score_at (take m moved) d ≡ score_at (take m start) d
first_scores m n d t start ess moved is few same early =
    ap (λ xs. score_at xs d) (sym (take_fewer m n moved early) ∙ (ap (take m) (same_head n t ess moved is few) ∙ take_fewer m n ess early))
    ∙ ap (λ xs. sum (scores_in xs)) (same-from d d (take m ess) (take m start) (same_taken m d ess start same) (omega arith))

-- and all scores are those at the start
pub all_scores : (n d t score : ℕ) (start ess moved : List (List Entry)) → score ≡ score_at (drop n ess) d → moved ≡ moved_from n t ess → n ≤ length ess → map (from d) ess ≡ map (from d) start → score + score_at (take n moved) d ≡ score_at start d
all_scores n d t score start ess moved others is few same =
    let head = ap (λ xs. score_at xs d) (same_head n t ess moved is few) in
    let parts = sum_parts d n ess in
    let agree = ap (λ xs. sum (scores_in xs)) (same-from d d ess start same (omega arith)) in
    omega (arith, others, head, parts, agree)

pub step_later : (d n : ℕ) (start ess moved after : List (List Entry)) → AreLater d start ess → moved ≡ moved_from n (d + 1) ess → AreLater d moved after → AreLater (d + 1) start after
step_later d n start ess moved after later is further =
    later_then (d + 1) (d + 1) start moved after
    (later_then d (d + 1) start ess moved later (subst (AreLater (d + 1) ess) (sym is) (later_from n (d + 1) ess)) (omega arith))
    (later_on d (d + 1) moved after (omega arith) further)
    (omega arith)

-- the next document is behind it
pub step_far : (d n next : ℕ) (ess moved : List (List Entry)) → d < terminated → moved ≡ moved_from n (d + 1) ess → next ≡ least (drop n moved) → d < next
step_far d n next ess moved small is at =
    let cut = least-cut (d + 1) (drop n ess) (omega (arith, small)) in
    let those = ap least (ap (drop n) is ∙ drop-tail (from (d + 1)) n ess) in
    omega (arith, cut, those, at)

-- no other scorer than the free ones has what comes between them
pub between_none : {X : Type 0} (entries : X → List Entry) → ((x : X) → Rising 0 (entries x)) → (t d n next : ℕ) (xs : List X) (ess moved : List (List Entry)) → moved ≡ moved_from n t ess → next ≡ least (drop n moved) → map (from t) ess ≡ map (from t) (map entries xs) → t ≤ d → d < next → entries_at d (drop n (map entries xs)) ≡ []
between_none entries rising t d n next xs ess moved is at same late early =
    let those = ap least (ap (drop n) is ∙ (drop-tail (from t) n ess ∙ same_left n t ess (map entries xs) same)) in
    none_before entries rising t d n xs late (omega (arith, early, at, those))
