-- A walk over what several lists all have: the scores that it adds up, and what it leaves out.
use Rattle.std.proofs.Common.{[], List, ap, ap₂, arith, drop, false, if◌then◌else◌, le-leb, leb-false, leb-true, length, map, pos, refl, subst, sum, sym, true, ◌++◌, ◌+◌, ◌<◌, ◌∙◌, ◌∷◌, ◌≡◌, ◌≢◌, ◌≤◌, ◌≤ℤ◌, ℕ, ℤ}
use Rattle.std.specs.Prelude.{int_lt}
use Rattle.std.proofs.lemmas.Int.{ints}
use Rattle.std.proofs.lemmas.List.{length-append, length-map}
use Rattle.definitions.specs.Postings.{terminated}
use Rattle.definitions.specs.Scoring.{max_score}
use Rattle.definitions.specs.Sinks.{fed}
use Rattle.docsets.proofs.AtLeastLaws.{chosen-from, too_few}
use Rattle.docsets.proofs.EntryLaws.{first-from, from-from, from-step}
use Rattle.docsets.proofs.LeaderLaws.{one-on}
use Rattle.docsets.proofs.MemberLaws.{entries-kept, entries-low, entries-off, from-listed, listed-end, listed-found, listed-out, listed-skip, one-lacks, same-from, scores-on, sum-greatest, sum-scores}
use Rattle.docsets.proofs.ScoredEntryLaws.{greatest-drop}
use Rattle.docsets.specs.Entries.{Entry, Rising, first, first_score, from}
use Rattle.docsets.specs.EntryLaws.{Rising-from}
use Rattle.docsets.specs.Members.{at_least, enough, entries_at, entries_of, greatest_sum, joining, listed, scores_in}
use Rattle.docsets.specs.ScoredEntries.{greatest_score, pairs_of}
use Rattle.intersections.proofs.BoundLaws.{covers_listed}
use Rattle.intersections.proofs.MeetingLaws.{Rising-meeting}
use Rattle.intersections.specs.Meetings.{meeting}
use Rattle.walks.proofs.UnionWalks.{later_on, later_same, later_then, moved_all, score_at}
use Rattle.walks.proofs.WindowWalks.{window_left_out}
use Rattle.walks.specs.Meets.{met_at}
use Rattle.walks.specs.Unions.{AreLater}

-- ---- one list

-- a list that was moved to a document has it once if it stands there
pub one_of : (d : ℕ) (es after : List Entry) → Rising 0 es → after ≡ from d es → first after ≡ d → d < terminated → length (entries_of d es) ≡ 1
one_of d es after rises is on small =
    let kept = ap length (entries-kept d d es (omega arith)) in
    let same = ap (λ xs. length (entries_of d xs)) is in
    let one = one-on d after (subst (Rising 0) (sym is) (Rising-from d 0 es rises)) on small in
    omega (arith, kept, same, one)

-- and else lacks it
pub none_of : (d : ℕ) (es after : List Entry) → Rising 0 es → after ≡ from d es → first after ≢ d → d < terminated → entries_of d es ≡ []
none_of d es after rises is off small =
    let late = first-from d es (omega (arith, small)) in
    let stands = ap first is in
    sym (entries-kept d d es (omega arith))
    ∙ (ap (entries_of d) (sym is) ∙ entries-off d after (subst (Rising 0) (sym is) (Rising-from d 0 es rises)) (omega (arith, late, stands)) off)

-- ---- all lists

-- the documents that all lists have, from one on
abbrev pub met : List (List Entry) → ℕ → List Entry
met ess t = listed (enough (length ess) ess) (λ d. joining d (entries_at d ess)) t

pub met_is : (t : ℕ) (ess : List (List Entry)) → t ≤ terminated → from t (meeting ess) ≡ met ess t
met_is t ess small = from-listed (enough (length ess) ess) (λ d. joining d (entries_at d ess)) 0 t (omega arith) small

-- lists that agree from a document on are as many
pub as_many : (t : ℕ) (ess fss : List (List Entry)) → map (from t) ess ≡ map (from t) fss → length ess ≡ length fss
as_many t ess fss same =
    let cut = length-map ess (from t) in
    let other = length-map fss (from t) in
    let all = ap length same in
    omega (arith, cut, other, all)

-- and meet alike from there on
pub met_later : (t : ℕ) (before after : List (List Entry)) → t ≤ terminated → 0 < length before → AreLater t before after → from t (meeting after) ≡ from t (meeting before)
met_later t before after small some later =
    let long = as_many t after before later.same in
    sym (chosen-from (length after) joining after t (omega (arith, long, some)) small)
    ∙ (ap (λ n. at_least n joining (map (from t) after)) long
    ∙ (ap (at_least (length before) joining) later.same ∙ chosen-from (length before) joining before t (omega (arith, some)) small))

-- none is at the end
pub none_met : (ess : List (List Entry)) (t : ℕ) → terminated ≤ t → met ess t ≡ []
none_met ess t late = listed-end (enough (length ess) ess) (λ d. joining d (entries_at d ess)) t late

-- ---- the first list leads

-- what it has passed isn't met
pub met_passed : {X : Type 0} (entries : X → List Entry) → ((x : X) → Rising 0 (entries x)) → (t u : ℕ) (start : List (List Entry)) (x : X) (xs : List X) → map (from t) (map entries (x ∷ xs)) ≡ map (from t) start → t ≤ u → u ≤ first (entries x) → u ≤ terminated → met start t ≡ met start u
met_passed entries rising t u start x xs same far late small =
    let many = as_many t (map entries (x ∷ xs)) start same in
    let long = length-map xs entries in
    listed-skip (enough (length start) start) (λ d. joining d (entries_at d start)) t u far small
    (λ d l h. too_few (length start) start d
    (let lacks = one-lacks entries rising d 0 (x ∷ xs) (omega arith) (entries-low d 0 (entries x) (rising x) (omega (arith, h, late))) in
    let here = ap length (same-from t d (map entries (x ∷ xs)) start same l) in
    omega (arith, lacks, here, many, long)))

-- a document on which it stands has its score and those of the others
score_met : (start : List (List Entry)) (es : List Entry) (ess : List (List Entry)) (d : ℕ) → Rising 0 es → first es ≡ d → d < terminated → map (from d) (es ∷ ess) ≡ map (from d) start → score_at start d ≡ first_score es + score_at ess d
score_met start es ess d rises on small same =
    let own = ap sum (scores-on d es rises on small) in
    let sums = sum-scores (entries_of d es) (entries_at d ess) in
    let whole = ap (λ xs. sum (scores_in xs)) (same-from d d (es ∷ ess) start same (omega arith)) in
    omega (arith, own, sums, whole)

pub fits_met : {X : Type 0} (entries : X → List Entry) → ((x : X) → Rising 0 (entries x)) → (xs : List X) (es : List Entry) (ess : List (List Entry)) (d : ℕ) → Rising 0 es → first es ≡ d → d < terminated → map (from d) (es ∷ ess) ≡ map (from d) (map entries xs) → greatest_sum (map entries xs) ≤ max_score → first_score es + score_at ess d ≤ max_score
fits_met entries rising xs es ess d rises on small same fits =
    let score = score_met (map entries xs) es ess d rises on small same in
    let most = sum-greatest entries rising d xs in
    omega (arith, score, most, fits)

-- it is met if the others have it
pub met_here : (start : List (List Entry)) (es : List Entry) (ess : List (List Entry)) (d : ℕ) → Rising 0 es → first es ≡ d → d < terminated → map (from d) (es ∷ ess) ≡ map (from d) start → pairs_of (met start d) ≡ met_at d (first_score es) ess ++ pairs_of (met start (d + 1))
met_here start es ess d rises on small same =
    let both = same-from d d (es ∷ ess) start same (omega arith) in
    let many = as_many d (es ∷ ess) start same in
    let one = one-on d es rises on small in
    let count = length-append (entries_of d es) (entries_at d ess) in
    let all = ap length both in
    let score = score_met start es ess d rises on small same in
    (elim (enough (length ess) ess d) as (λ b. enough (length ess) ess d ≡ b → pairs_of (met start d) ≡ (if b then (d, first_score es + sum (scores_in (entries_at d ess))) ∷ [] else []) ++ pairs_of (met start (d + 1))) [
      | true ↦ (λ yes.
          (let have = leb-true (length ess) (length (entries_at d ess)) yes in
          let enough_there = le-leb (length start) (length (entries_at d start)) (omega (arith, have, many, one, count, all)) in
          ap pairs_of (listed-found (enough (length start) start) (λ x. joining x (entries_at x start)) d small enough_there)
          ∙ ap (λ n. (d, n) ∷ pairs_of (met start (d + 1))) score))
      | false ↦ (λ no.
          (let lack = leb-false (length ess) (length (entries_at d ess)) no in
          ap pairs_of (listed-out (enough (length start) start) (λ x. joining x (entries_at x start)) d small (too_few (length start) start d (omega (arith, lack, many, one, count, all))))))
    ]) refl

fed_both : {S : Type 0} (limit : S → ℤ) (taken : S → ℕ × ℕ → S) (s : S) (xs ys : List (ℕ × ℕ)) → fed limit taken (fed limit taken s xs) ys ≡ fed limit taken s (xs ++ ys)
fed_both limit taken s [] ys = refl
fed_both limit taken s (x ∷ xs) ys = fed_both limit taken (if int_lt (limit s) (pos x.1) then taken s x else s) xs ys

-- it is fed, and then what is met behind it
pub take_met : {S : Type 0} (limit : S → ℤ) (taken : S → ℕ × ℕ → S) (s : S) (start : List (List Entry)) (es : List Entry) (ess : List (List Entry)) (d : ℕ) → Rising 0 es → first es ≡ d → d < terminated → map (from d) (es ∷ ess) ≡ map (from d) start → fed limit taken (fed limit taken s (met_at d (first_score es) ess)) (pairs_of (met start (d + 1))) ≡ fed limit taken s (pairs_of (met start d))
take_met limit taken s start es ess d rises on small same = fed_both limit taken s (met_at d (first_score es) ess) (pairs_of (met start (d + 1))) ∙ ap (fed limit taken s) (sym (met_here start es ess d rises on small same))

pub room_met : (start : List (List Entry)) (es : List Entry) (ess : List (List Entry)) (d : ℕ) → Rising 0 es → first es ≡ d → d < terminated → map (from d) (es ∷ ess) ≡ map (from d) start → length (met start d) ≡ length (met_at d (first_score es) ess) + length (met start (d + 1))
room_met start es ess d rises on small same =
    let both = ap length (met_here start es ess d rises on small same) in
    let parts = length-append (met_at d (first_score es) ess) (pairs_of (met start (d + 1))) in
    let here = length-map {B = ℕ × ℕ} (met start d) (λ e. (e.doc, e.score)) in
    let next = length-map {B = ℕ × ℕ} (met start (d + 1)) (λ e. (e.doc, e.score)) in
    omega (arith, both, parts, here, next)

-- one that another lacks isn't met
pub lacks_met : (d score : ℕ) (ess : List (List Entry)) → length (entries_at d ess) < length ess → met_at d score ess ≡ []
lacks_met d score ess few = ap (λ b. if b then (d, score + score_at ess d) ∷ [] else []) (too_few (length ess) ess d few)

-- ---- lists that were moved on

pub later_beside : (t : ℕ) (es fs : List Entry) (ess fss : List (List Entry)) → from t fs ≡ from t es → greatest_score fs ≤ greatest_score es → AreLater t ess fss → AreLater t (es ∷ ess) (fs ∷ fss)
later_beside t es fs ess fss same few later = (let fewer = later.greatest in record { same = ap₂ (λ x xs. x ∷ xs) same later.same; greatest = omega (arith, few, fewer) })

-- the first list is moved
pub lead_moved : (t : ℕ) (es fs : List Entry) (ess : List (List Entry)) → fs ≡ from t es → AreLater t (es ∷ ess) (fs ∷ ess)
lead_moved t es fs ess is =
    let few = (moved_all t (es ∷ [])).greatest in
    let same = ap greatest_score is in
    later_beside t es fs ess ess (ap (from t) is ∙ from-from t t es (omega arith)) (omega (arith, few, same)) (later_same t ess)

-- the others may be moved to its document, and it goes on to the next
pub led_on : (d : ℕ) (start : List (List Entry)) (es fs : List Entry) (ess fss : List (List Entry)) → AreLater d start (es ∷ ess) → first es ≡ d → fs ≡ drop 1 es → AreLater d ess fss → AreLater (d + 1) start (fs ∷ fss)
led_on d start es fs ess fss later on is others =
    let lead : from (d + 1) fs ≡ from (d + 1) es = ap (from (d + 1)) is ∙ from-step (d + 1) es (omega (arith, on)) in
    let same = ap greatest_score is in
    let few = greatest-drop 1 es in
    later_then d (d + 1) start (es ∷ ess) (fs ∷ fss) later (later_beside (d + 1) es fs ess fss lead (omega (arith, same, few)) (later_on d (d + 1) ess fss (omega arith) others)) (omega arith)

-- ---- a window whose bound isn't above the threshold

pub met_low : {X : Type 0} (entries : X → List Entry) → ((x : X) → Rising 0 (entries x)) → {S : Type 0} (limit : S → ℤ) (taken : S → ℕ × ℕ → S) (s : S) (target until bound : ℕ) (xs : List X) → greatest_sum (map entries xs) ≤ max_score → target ≤ until → ((d : ℕ) → target ≤ d → d < until → score_at (map entries xs) d ≤ bound) → pos bound ≤ℤ limit s → fed limit taken s (pairs_of (from until (meeting (map entries xs)))) ≡ fed limit taken s (pairs_of (from target (meeting (map entries xs))))
met_low entries rising limit taken s target until bound xs fits far few low =
    let ess = map entries xs in
    let rises = Rising-meeting entries rising xs fits in
    window_left_out limit taken s (limit s) (pos bound) target until (meeting ess) refl (omega (arith, ints)) low far rises
    (covers_listed (enough (length ess) ess) (λ d. joining d (entries_at d ess)) target until bound rises (λ d late early. (let l = few d late early in omega (arith, l))))
