-- Laws of lists that go on together.
use Rattle.std.proofs.Common.{[], ◌+◌, ◌<◌, ◌∙◌, ◌∷◌, ◌≡◌, ◌≤◌, List, ap, arith, get_or, le-leb, length, map, nat_le, refl, set, subst, suc, sum, sym, zero, ℕ}
use Rattle.std.proofs.Math.Seq.{map-set_same}
use Rattle.std.proofs.lemmas.List.{get_or-map, length-map, length-set, map-set}
use Rattle.definitions.specs.Postings.{terminated}
use Rattle.definitions.specs.Scoring.{max_score}
use Rattle.docsets.specs.Entries.{Entry, Rising, first, first_score, from}
use Rattle.docsets.specs.EntryLaws.{Rising-from}
use Rattle.docsets.proofs.EntryLaws.{first_at_most, from-from}
use Rattle.definitions.proofs.Lists.{by_order}
use Rattle.docsets.proofs.AtLeastLaws.{too_few}
use Rattle.docsets.proofs.MemberLaws.{Rising-listed, entries-kept, entries-least, entries-low, from-listed, listed-end, listed-found, listed-same, listed-skip, listed-stands, one-lacks, same-from, sum-greatest}
use Rattle.docsets.specs.Members.{at_least, enough, entries_at, entries_of, greatest_sum, joining, least, listed, scores_in}
use Rattle.intersections.specs.Meetings.{IsMeeting, Passes, meeting}

pub from-each : (t u : ℕ) (ess : List (List Entry)) → t ≤ u → map (from u) (map (from t) ess) ≡ map (from u) ess
from-each t u [] l = refl
from-each t u (es ∷ ess) l = ap (λ xs. xs ∷ map (from u) (map (from t) ess)) (from-from t u es l) ∙ ap (λ xs. from u es ∷ xs) (from-each t u ess l)

-- what is the same from a document on is the same later
pub kept-later : (t u : ℕ) (ess fss : List (List Entry)) → map (from t) ess ≡ map (from t) fss → t ≤ u → map (from u) ess ≡ map (from u) fss
kept-later t u ess fss e l = sym (from-each t u ess l) ∙ (ap (map (from u)) e ∙ from-each t u fss l)

-- lists that go on twice
pub Passes-on : (a b c : ℕ) (xss yss zss : List (List Entry)) → Passes a b xss yss → Passes b c yss zss → Passes a c xss zss
Passes-on a b c xss yss zss p q =
    let up = p.up in
    let further = q.up in
    let long = p.long in
    record {
      up = omega (arith, up, further);
      small = q.small;
      long = q.long ∙ p.long;
      kept = q.kept ∙ kept-later b c yss xss p.kept q.up;
      passed = λ d l h. by_order b d (length (entries_at d xss) < length xss)
          (λ i. (let few = q.passed d i h in let same = ap length (same-from b d yss xss p.kept i) in omega (arith, few, same, long)))
          (λ o. p.passed d l o);
    }

-- lists that are the same from a document on
pub kept-passes : (t : ℕ) (olds news : List (List Entry)) → t ≤ terminated → map (from t) news ≡ map (from t) olds → Passes t t olds news
kept-passes t olds news small kept = record {
  up = omega arith;
  small = small;
  long = sym (length-map news (from t)) ∙ (ap length kept ∙ length-map olds (from t));
  kept = kept;
  passed = λ d l h. absurd (omega (arith, l, h));
}

-- one list moves, and keeps what comes from a document on
pub set-kept : {X : Type 0} (entries : X → List Entry) (t i : ℕ) (xs : List X) (old new : X) → i < length xs → old ≡ get_or xs i old → from t (entries new) ≡ from t (entries old) → map (from t) (map entries (set xs i new)) ≡ map (from t) (map entries xs)
set-kept entries t i xs old new l is kept =
    ap (map (from t)) (map-set entries xs i new)
    ∙ map-set_same (from t) (map entries xs) i (entries new) [] (kept ∙ ap (from t) (sym (get_or-map entries xs i old [] l ∙ ap entries (sym is))))

-- what it passes not all have
pub one-passes : {X : Type 0} (entries : X → List Entry) → ((x : X) → Rising 0 (entries x)) → (t bound i : ℕ) (xs : List X) (old new : X) → i < length xs → old ≡ get_or xs i old → from t (entries new) ≡ from t (entries old) → t ≤ terminated → t ≤ bound → bound ≤ first (from t (entries old)) → Passes t bound (map entries xs) (map entries (set xs i new))
one-passes entries rising t bound i xs old new l is kept small up next =
    let all : Rising 0 (from t (entries old)) = Rising-from t 0 (entries old) (rising old) in
    let end = first_at_most 0 (from t (entries old)) all in
    record {
      up = omega (arith, up);
      small = omega (arith, next, end);
      long = length-map (set xs i new) entries ∙ (length-set xs i new ∙ sym (length-map xs entries));
      kept = kept-later t bound (map entries (set xs i new)) (map entries xs) (set-kept entries t i xs old new l is kept) (omega (arith, up));
      passed = λ d b h. (let lacks = one-lacks entries rising d i xs l (ap (entries_of d) (get_or-map entries xs i old [] l ∙ ap entries (sym is)) ∙ (sym (entries-kept d t (entries old) b) ∙ entries-low d 0 (from t (entries old)) all (omega (arith, h, next)))) in
          let long = length-map xs entries in omega (arith, lacks, long));
    }

-- where those that have a document before the one reached are fewer than all, what they have together is what they
-- had from the first on
pub meeting-same : (low doc : ℕ) (olds news : List (List Entry)) → Passes low doc olds news → ((d : ℕ) → d < doc → length (entries_at d news) < length news) → meeting news ≡ from low (meeting olds)
meeting-same low doc olds news p few =
    let up = p.up in
    let n : ℕ = length news in
    let entry : List (List Entry) → ℕ → Entry = λ ess d. joining d (entries_at d ess) in
    listed-skip (enough n news) (entry news) 0 doc (omega arith) p.small (λ d b h. too_few n news d (few d h))
    ∙ (listed-same (enough n news) (enough n olds) (entry news) (entry olds) doc
    (λ d l t. ap (λ xs. nat_le n (length xs)) (same-from doc d news olds p.kept l))
    (λ d l t. ap (joining d) (same-from doc d news olds p.kept l))
    ∙ (sym (listed-skip (enough n olds) (entry olds) low doc p.up p.small (λ d l h. too_few n olds d (let less = p.passed d l h in let long = p.long in omega (arith, less, long))))
    ∙ (sym (from-listed (enough n olds) (entry olds) 0 low (omega arith) (let small = p.small in omega (arith, up, small)))
    ∙ ap (λ m. from low (at_least m joining olds)) p.long)))

-- lists that went on to a document before which not all have one meet as before from there on
pub meeting-left : (doc : ℕ) (olds news : List (List Entry)) → doc ≤ terminated → length news ≡ length olds → map (from doc) news ≡ map (from doc) olds → ((d : ℕ) → d < doc → length (entries_at d news) < length news) → meeting news ≡ from doc (meeting olds)
meeting-left doc olds news small long kept few =
    let n : ℕ = length news in
    let entry : List (List Entry) → ℕ → Entry = λ ess d. joining d (entries_at d ess) in
    listed-skip (enough n news) (entry news) 0 doc (omega arith) small (λ d b h. too_few n news d (few d h))
    ∙ (listed-same (enough n news) (enough n olds) (entry news) (entry olds) doc
    (λ d l t. ap (λ xs. nat_le n (length xs)) (same-from doc d news olds kept l))
    (λ d l t. ap (joining d) (same-from doc d news olds kept l))
    ∙ (sym (from-listed (enough n olds) (entry olds) 0 doc (omega arith) small)
    ∙ ap (λ m. from doc (at_least m joining olds)) long))

-- the document that all have is the first of the meeting
pub meeting-first : (doc : ℕ) (ess : List (List Entry)) → doc < terminated → ((d : ℕ) → d < doc → length (entries_at d ess) < length ess) → length (entries_at doc ess) ≡ length ess → doc ≡ first (meeting ess)
meeting-first doc ess l few all =
    let n : ℕ = length ess in
    sym (ap first (listed-skip (enough n ess) (λ d. joining d (entries_at d ess)) 0 doc (omega arith) (omega (arith, l)) (λ d b h. too_few n ess d (few d h)) ∙ listed-found (enough n ess) (λ d. joining d (entries_at d ess)) doc l (le-leb n (length (entries_at doc ess)) (omega (arith, all)))))

-- where not all have any there is none
pub meeting-end : (ess : List (List Entry)) → ((d : ℕ) → d < terminated → length (entries_at d ess) < length ess) → meeting ess ≡ []
meeting-end ess few =
    let n : ℕ = length ess in
    listed-skip (enough n ess) (λ d. joining d (entries_at d ess)) 0 terminated (omega arith) (omega arith) (λ d b h. too_few n ess d (few d h)) ∙ listed-end (enough n ess) (λ d. joining d (entries_at d ess)) terminated (omega arith)

-- fewer than all have what comes before the least
pub few-before : {X : Type 0} (entries : X → List Entry) → ((x : X) → Rising 0 (entries x)) → (doc d : ℕ) (xs : List X) → doc ≤ least (map entries xs) → d < doc → 0 < length xs → length (entries_at d (map entries xs)) < length (map entries xs)
few-before entries rising doc d xs leads l some =
    let none = ap length (entries-least entries rising d xs (omega (arith, leads, l))) in
    let long = length-map xs entries in
    omega (arith, none, long, some)

-- what stands first
pub meeting-here : {X : Type 0} (entries : X → List Entry) → ((x : X) → Rising 0 (entries x)) → (xs : List X) (doc : ℕ) → IsMeeting (map entries xs) doc → 0 < length xs → doc < terminated → meeting (map entries xs) ≡ joining doc (entries_at doc (map entries xs)) ∷ listed (enough (length (map entries xs)) (map entries xs)) (λ d. joining d (entries_at d (map entries xs))) (doc + 1)
meeting-here entries rising xs doc m some l =
    let ess : List (List Entry) = map entries xs in
    let n : ℕ = length ess in
    let entry : ℕ → Entry = λ d. joining d (entries_at d ess) in
    let low = listed-skip (enough n ess) entry 0 doc (omega arith) (omega (arith, l)) (λ d b h. too_few n ess d (few-before entries rising doc d xs (m.leads l) h some)) in
    let at : doc ≡ first (listed (enough n ess) entry doc) = m.at ∙ ap first low in
    low ∙ listed-found (enough n ess) entry doc l (listed-stands (enough n ess) entry doc l at)

-- its scores add up to no more than the greatest score
pub meeting-fits : {X : Type 0} (entries : X → List Entry) → ((x : X) → Rising 0 (entries x)) → (xs : List X) (doc : ℕ) → IsMeeting (map entries xs) doc → 0 < length xs → doc < terminated → sum (scores_in (entries_at doc (map entries xs))) ≤ max_score
meeting-fits entries rising xs doc m some l = (subst (Rising 0) (meeting-here entries rising xs doc m some l) m.rises).2

pub meeting-score : {X : Type 0} (entries : X → List Entry) → ((x : X) → Rising 0 (entries x)) → (xs : List X) (doc : ℕ) → IsMeeting (map entries xs) doc → 0 < length xs → doc < terminated → first_score (meeting (map entries xs)) ≡ sum (scores_in (entries_at doc (map entries xs)))
meeting-score entries rising xs doc m some l = ap first_score (meeting-here entries rising xs doc m some l)

pub Rising-meeting : {X : Type 0} (entries : X → List Entry) → ((x : X) → Rising 0 (entries x)) → (xs : List X) → greatest_sum (map entries xs) ≤ max_score → Rising 0 (meeting (map entries xs))
Rising-meeting entries rising xs fits = Rising-listed (enough (length (map entries xs)) (map entries xs)) (λ d. joining d (entries_at d (map entries xs))) 0 (λ d l t e. (let bound = sum-greatest entries rising d xs in omega (arith, bound, fits)))

-- lists that went on from one document meet as before from there on
pub meets-on : (low doc : ℕ) (olds news : List (List Entry)) → Rising 0 (meeting olds) → meeting news ≡ from low (meeting olds) → doc ≡ first (meeting news) → (doc < terminated → doc ≤ least news) → IsMeeting news doc
meets-on low doc olds news r same at leads = record { at = at; leads = leads; rises = subst (Rising 0) (sym same) (Rising-from low 0 (meeting olds) r) }

-- what a list among several gives rises
rising-get : {X : Type 0} (entries : X → List Entry) → ((x : X) → Rising 0 (entries x)) → (i : ℕ) (xs : List X) → Rising 0 (get_or (map entries xs) i [])
rising-get entries rising i [] = tt
rising-get entries rising zero (x ∷ xs) = rising x
rising-get entries rising (suc i) (x ∷ xs) = rising-get entries rising i xs

-- fewer than all have what comes before one of them
pub few-led : {X : Type 0} (entries : X → List Entry) → ((x : X) → Rising 0 (entries x)) → (i doc : ℕ) (xs : List X) → i < length xs → doc ≡ first (get_or (map entries xs) i []) → (d : ℕ) → d < doc → length (entries_at d (map entries xs)) < length (map entries xs)
few-led entries rising i doc xs within at d l =
    let lacks = one-lacks entries rising d i xs within (entries-low d 0 (get_or (map entries xs) i []) (rising-get entries rising i xs) (omega (arith, l, at))) in
    let long = length-map xs entries in
    omega (arith, lacks, long)

-- lists that are the same from a document on are as many
pub kept-within : {X : Type 0} (entries : X → List Entry) (t i : ℕ) (xs ys : List X) → map (from t) (map entries xs) ≡ map (from t) (map entries ys) → i < length ys → i < length xs
kept-within entries t i xs ys kept l =
    let same = ap length kept in
    let cut_xs = length-map (map entries xs) (from t) in
    let long_xs = length-map xs entries in
    let cut_ys = length-map (map entries ys) (from t) in
    let long_ys = length-map ys entries in
    omega (arith, same, cut_xs, long_xs, cut_ys, long_ys, l)

pub passes-within : {X : Type 0} (entries : X → List Entry) (low high i : ℕ) (xs ys : List X) → Passes low high (map entries ys) (map entries xs) → i < length ys → i < length xs
passes-within entries low high i xs ys p l = kept-within entries high i xs ys p.kept l
