-- Lists whose scores of each document are bounded.
use Rattle.std.proofs.Common.{[], Bool, List, ap, arith, false, if◌then◌else◌, length, map, max, negsuc, not, pos, subst, sum, sym, true, ◌&&◌, ◌++◌, ◌+◌, ◌<◌, ◌==◌, ◌∷◌, ◌≡◌, ◌≤ℤ◌, ◌≤◌, ℕ, ℤ}
use Rattle.std.proofs.Math.Facts.{leb_yes}
use Rattle.std.proofs.lemmas.Bool.Decides.{nat_tests}
use Rattle.any_scorer.proofs.ByClauses.{sum_both}
use Rattle.any_scorer.specs.Clauses.{by_best, by_clauses, scores_at, scores_of}
use Rattle.docsets.specs.Entries.{Entry, Rising}
use Rattle.definitions.proofs.Bounds.{tie_below}
use Rattle.definitions.specs.Postings.{terminated}
use Rattle.definitions.specs.Scoring.{best_and_tie, max_score, natural}
use Rattle.docsets.specs.CombiningLaws.{sum-cons}
use Rattle.docsets.specs.ScoredEntries.{greatest_score}
use Rattle.docsets.proofs.MemberLaws.{Rising-listed, sum-greatest}
use Rattle.docsets.specs.Members.{at_least, combining, enough, entries_at, entries_of, greatest_sum, scores_in}
use Rattle.intersections.proofs.MeetingLaws.{Rising-meeting}
use Rattle.intersections.specs.Meetings.{meeting}

pub first_here : (e : Entry) (es : List Entry) → scores_of e.doc (e ∷ es) ≡ e.score ∷ scores_of e.doc es
first_here e es = ap (λ b. scores_in (if b then e ∷ entries_of e.doc es else entries_of e.doc es)) (let n : ℕ = e.doc in let same : (n == n) ≡ true = grind (arith, nat_tests) in same)

pub later_here : (d : ℕ) (e : Entry) (es : List Entry) → e.doc < d → scores_of d (e ∷ es) ≡ scores_of d es
later_here d e es l = ap (λ b. scores_in (if b then e ∷ entries_of d es else entries_of d es)) (let n : ℕ = e.doc in let other : (d == n) ≡ false = grind (arith, nat_tests, l) in other)

-- none of the scores is greater
pub least_bound : (bound low : ℕ) (es : List Entry) → Rising low es → ((d : ℕ) → low ≤ d → d < terminated → sum (scores_of d es) ≤ bound) → greatest_score es ≤ bound
least_bound bound low [] r each = omega arith
least_bound bound low (e ∷ es) r each =
    let at = r.0 in
    let ih = least_bound bound (e.doc + 1) es r.3 (λ d l t. (let here = each d (omega (arith, l, at)) t in let same = ap sum (later_here d e es (omega (arith, l))) in omega (arith, here, same))) in
    let here = each e.doc r.0 r.1 in
    let same = ap sum (first_here e es) in
    let more = sum-cons e.score (scores_of e.doc es) in
    let goal : max e.score (greatest_score es) ≤ bound = omega (arith, ih, here, same, more) in
    goal

sum_if : (b : Bool) (n : ℕ) → sum (if b then n ∷ [] else []) ≤ n
sum_if true n = let more = sum-cons n [] in omega (arith, more)
sum_if false n = omega arith

pub bounded_clauses : {X : Type 0} (entries : X → List Entry) → ((x : X) → Rising 0 (entries x)) → (minimum : ℕ) (xs ys : List X) (must_nots : List (List Entry)) (list : List Entry) → Rising 0 list → ((d : ℕ) → d < terminated → scores_of d list ≡ by_clauses minimum (map entries xs) (map entries ys) must_nots d) → greatest_score list ≤ greatest_sum (map entries xs) + greatest_sum (map entries ys)
bounded_clauses entries rising minimum xs ys must_nots list r are =
    least_bound (greatest_sum (map entries xs) + greatest_sum (map entries ys)) 0 list r (λ d l t.
    (let same = ap sum (are d t) in
    let total = sum_both d (map entries xs) (map entries ys) in
    let first = sum-greatest entries rising d xs in
    let second = sum-greatest entries rising d ys in
    let most = sum_if (enough (length (map entries xs)) (map entries xs) d && enough minimum (map entries ys) d && enough 1 (map entries xs ++ map entries ys) d && not (enough 1 must_nots d)) (sum (scores_at d (map entries xs ++ map entries ys))) in
    omega (arith, same, total, first, second, most)))

pub bounded_best : {X : Type 0} (entries : X → List Entry) → ((x : X) → Rising 0 (entries x)) → (tie : ℕ) → tie ≤ 1000 → (xs : List X) (list : List Entry) → Rising 0 list → ((d : ℕ) → d < terminated → scores_of d list ≡ by_best tie (map entries xs) d) → greatest_score list ≤ greatest_sum (map entries xs)
bounded_best entries rising tie small xs list r are =
    least_bound (greatest_sum (map entries xs)) 0 list r (λ d l t.
    (let same = ap sum (are d t) in
    let total = sum-greatest entries rising d xs in
    let best = tie_below tie (scores_at d (map entries xs)) small in
    let most = sum_if (enough 1 (map entries xs) d) (best_and_tie tie (scores_at d (map entries xs))) in
    omega (arith, same, total, best, most)))

-- the best scores fit where the sums do
pub best_rises : {X : Type 0} (entries : X → List Entry) → ((x : X) → Rising 0 (entries x)) → (f : List ℕ → ℕ) (tie : ℕ) → tie ≤ 1000 → ((ys : List ℕ) → f ys ≡ best_and_tie tie ys) → (xs : List X) → greatest_sum (map entries xs) ≤ max_score → (es : List Entry) → es ≡ at_least 1 (combining f) (map entries xs) → Rising 0 es
best_rises entries rising f tie small agree xs fits es is =
    let ess : List (List Entry) = map entries xs in
    subst (Rising 0) (sym is) (Rising-listed (enough 1 ess) (λ d. combining f d (entries_at d ess)) 0 (λ d l t has.
    (let made = agree (scores_at d ess) in
    let most = sum-greatest entries rising d xs in
    let best = tie_below tie (scores_at d ess) small in
    omega (arith, made, most, best, fits))))

-- what both of two lists have ascends
pub both_rise : (es fs : List Entry) → Rising 0 es → Rising 0 fs → greatest_score es + greatest_score fs ≤ max_score → Rising 0 (meeting (es ∷ fs ∷ []))
both_rise es fs left right fits =
    let entries : ((xs : List Entry) × Rising 0 xs) → List Entry = λ p. p.0 in
    let rising : (p : (xs : List Entry) × Rising 0 xs) → Rising 0 (entries p) = λ p. p.1 in
    let first : (xs : List Entry) × Rising 0 xs = (es, left) in
    let second : (xs : List Entry) × Rising 0 xs = (fs, right) in
    Rising-meeting entries rising (first ∷ second ∷ []) (omega (arith, fits))

pub natural_below : (z : ℤ) (n : ℕ) → z ≤ℤ pos n → natural z ≤ n
natural_below (pos m) n l = leb_yes l.le
natural_below (negsuc m) n l = omega arith
