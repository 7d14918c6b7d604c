-- Moves over a term's entries.
use Rattle.std.proofs.Common.{[], Bool, IsSome, List, None, Option, Some, ap, ap₂, arith, cond, drop, false, get_or, length, nat_lt, refl, subst, suc, sum, sym, take, true, zero, ◌*◌, ◌+◌, ◌/◌, ◌%◌, ◌<◌, ◌≡◌, ◌≤◌, ◌∙◌, ◌∷◌, ◌⊎◌, inl, inr, ℕ}
use Rattle.std.proofs.lemmas.Bool.{cases_lt}
use Rattle.std.proofs.lemmas.Bool.Decides.{nat_tests}
use Rattle.std.proofs.lemmas.List.{drop-drop, drop_all, drop_more, get_or-drop, get_or_default, get_or_past}
use Rattle.std.proofs.lemmas.List.Sums.{prefix_len-le-length, sum_by-take-le}
use Rattle.std.proofs.Math.Seq.{drop-nil, take-nil}
use Rattle.definitions.specs.Postings.{terminated}
use Rattle.segment_postings.proofs.Passing.{below_stops, sum_of_more}
use Rattle.definitions.specs.Scoring.{DontFall}
use Rattle.docsets.specs.Entries.{AreSingle, Entry, first, first_count, first_positions, from, highest, most_positions, single}
use Rattle.docsets.proofs.EntryLaws.{AreSingle-drop, AreSingle-from, from-low, from-out}
use Rattle.segment_postings.specs.Reading.{Ascends, below}
use Rattle.codes.specs.PositionPlaces.{places}
use Rattle.codes.specs.UnpackedBlocks.{listed}
use Rattle.segment_postings.specs.TermEntries.{entries_from, entries_of}
use Rattle.segment_postings.specs.TermEntryLaws.{Ascends-behind, Rising-entries_of}
use Rattle.segment_postings.proofs.TermEntryLaws.{first-entries_of}

-- ---- one document on

sum_one : (xs : List ℕ) → sum (take 1 xs) ≡ get_or xs 0 0
sum_one [] = refl
sum_one (x ∷ xs) = omega arith

drop_one : (docs counts numbers : List ℕ) → drop 1 (entries_of docs counts numbers) ≡ entries_of (drop 1 docs) (drop 1 counts) (drop (get_or counts 0 0) numbers)
drop_one [] counts numbers = refl
drop_one (d ∷ ds) counts numbers = refl

pub one_on : (cur offset : ℕ) (docs counts numbers : List ℕ) → entries_from (cur + 1) offset docs counts numbers ≡ drop 1 (entries_from cur offset docs counts numbers)
one_on cur offset docs counts numbers =
    let behind = offset + sum (take cur counts) in
    let total : behind + get_or (drop cur counts) 0 0 ≡ offset + sum (take (cur + 1) counts) = omega (arith, sum_of_more cur 1 counts, sum_one (drop cur counts)) in
    sym (drop_one (drop cur docs) (drop cur counts) (drop behind numbers)
    ∙ (ap (λ xs. entries_of xs (drop 1 (drop cur counts)) (drop (get_or (drop cur counts) 0 0) (drop behind numbers))) (drop-drop 1 cur docs)
    ∙ (ap (λ xs. entries_of (drop (cur + 1) docs) xs (drop (get_or (drop cur counts) 0 0) (drop behind numbers))) (drop-drop 1 cur counts)
    ∙ ap (λ xs. entries_of (drop (cur + 1) docs) (drop (cur + 1) counts) xs) (drop-drop (get_or (drop cur counts) 0 0) behind numbers ∙ ap (λ k. drop k numbers) total))))

-- where no document is left the positions don't count
entries_same : (docs counts a b : List ℕ) → (0 < length docs → a ≡ b) → entries_of docs counts a ≡ entries_of docs counts b
entries_same [] counts a b same = refl
entries_same (d ∷ ds) counts a b same = ap (λ xs. entries_of (d ∷ ds) counts xs) (same (omega arith))

pub numbers_same : (o : Option (List ℕ)) (m n : ℕ) → (IsSome o → m ≡ n) → drop m (listed o) ≡ drop n (listed o)
numbers_same None m n same = drop-nil m ∙ sym (drop-nil n)
numbers_same (Some xs) m n same = ap (λ k. drop k xs) (same refl)

-- to the block after one
pub block_on : (cur offset next : ℕ) (docs counts docs' counts' : List ℕ) (o : Option (List ℕ)) → cur ≡ 127 → docs' ≡ drop 128 docs → counts' ≡ drop 128 counts → (IsSome o → 0 < length docs' → next ≡ offset + sum (take 128 counts)) → entries_from 0 next docs' counts' (listed o) ≡ drop 1 (entries_from cur offset docs counts (listed o))
block_on cur offset next docs counts docs' counts' o last docs_are counts_are told =
    let end : cur + 1 ≡ 128 = omega (arith, last) in
    let here : next + sum (take 0 counts') ≡ next = omega arith in
    let P : List ℕ → Type 0 = λ xs. (IsSome o → 0 < length xs → next ≡ offset + sum (take 128 counts)) in
    ap₂ (λ xs ys. entries_of xs ys (drop (next + sum (take 0 counts')) (listed o))) docs_are counts_are
    ∙ (entries_same (drop 128 docs) (drop 128 counts) (drop (next + sum (take 0 counts')) (listed o)) (drop (offset + sum (take 128 counts)) (listed o)) (λ some. numbers_same o (next + sum (take 0 counts')) (offset + sum (take 128 counts)) (λ yes. here ∙ subst P docs_are told yes some))
    ∙ (ap (λ k. entries_from k offset docs counts (listed o)) (sym end)
    ∙ one_on cur offset docs counts (listed o)))

-- ---- to a document

-- what is from a document on
pub entries_below : (target low : ℕ) (docs counts numbers : List ℕ) → Ascends low docs → from target (entries_of docs counts numbers) ≡ entries_of (drop (below target docs) docs) (drop (below target docs) counts) (drop (sum (take (below target docs) counts)) numbers)
entries_below target low [] counts numbers a = refl
entries_below target low (d ∷ ds) counts numbers a = go (nat_lt d target) refl (entries_below target (d + 1) ds (drop 1 counts) (drop (get_or counts 0 0) numbers) a.2)
  where
    whole : ℕ → List Entry
    whole m = entries_of (drop m (d ∷ ds)) (drop m counts) (drop (sum (take m counts)) numbers)

    go : (b : Bool) → nat_lt d target ≡ b → from target (entries_of ds (drop 1 counts) (drop (get_or counts 0 0) numbers)) ≡ entries_of (drop (below target ds) ds) (drop (below target ds) (drop 1 counts)) (drop (sum (take (below target ds) (drop 1 counts))) (drop (get_or counts 0 0) numbers)) → from target (entries_of (d ∷ ds) counts numbers) ≡ whole (cond b (1 + below target ds) 0)
    go false e ih =
        let late : target ≤ d = grind (arith, nat_tests) in
        from-low target d (entries_of (d ∷ ds) counts numbers) late (omega arith, a.1, omega arith, Rising-entries_of (d + 1) ds (drop 1 counts) (drop (get_or counts 0 0) numbers) a.2)
    go true e ih =
        let early : d < target = grind (arith, nat_tests) in
        let m = below target ds in
        let first = get_or counts 0 0 in
        let one : suc m ≡ 1 + m = omega arith in
        let total : first + sum (take m (drop 1 counts)) ≡ sum (take (1 + m) counts) = omega (arith, sum_of_more 1 m counts, sum_one counts) in
        from-out target (record { doc = d; score = 0; count = first; positions = places 0 (take first numbers) ∷ [] }) (entries_of ds (drop 1 counts) (drop first numbers)) early
        ∙ (ih
        ∙ (ap (λ xs. entries_of (drop m ds) xs (drop (sum (take m (drop 1 counts))) (drop first numbers))) (drop-drop m 1 counts)
        ∙ (ap (λ xs. entries_of (drop m ds) (drop (1 + m) counts) xs) (drop-drop (sum (take m (drop 1 counts))) first numbers ∙ ap (λ k. drop k numbers) total)
        ∙ ap (λ k. entries_of (drop k (d ∷ ds)) (drop (1 + m) counts) (drop (sum (take (1 + m) counts)) numbers)) one)))

ascends_next : (i low : ℕ) (docs : List ℕ) → Ascends low docs → low ≤ terminated → low ≤ get_or docs i terminated
ascends_next i low [] a l = l
ascends_next zero low (x ∷ xs) a l = a.0
ascends_next (suc i) low (x ∷ xs) a l = (let ih = ascends_next i (x + 1) xs a.2 (omega (arith, a.1)) in omega (arith, ih, a.0))

-- where a cursor doesn't stand behind a document, all before it are below
pub below_ahead : (cur target low : ℕ) (docs : List ℕ) → Ascends low docs → cur ≤ length docs → get_or docs cur terminated ≤ target → below target docs ≡ cur + below target (drop cur docs)
below_ahead zero target low docs a inside ahead = omega arith
below_ahead (suc cur) target low [] a inside ahead = absurd (omega (arith, inside))
below_ahead (suc cur) target low (d ∷ ds) a inside ahead =
    let ih = below_ahead cur target (d + 1) ds a.2 (omega (arith, inside)) ahead in
    let least = ascends_next cur (d + 1) ds a.2 (omega (arith, a.1)) in
    let yes : nat_lt d target ≡ true = grind (arith, nat_tests) in
    let one = ap (λ b. cond b (1 + below target ds) 0) yes in
    omega (arith, ih, one)

-- a cursor that isn't at its end stands on a document
pub stands_within : (cur : ℕ) (docs counts numbers : List ℕ) → first (entries_of (drop cur docs) counts numbers) < terminated → cur < length docs
stands_within cur docs counts numbers on = go (cases_lt cur (length docs))
  where
    go : (cur < length docs) ⊎ (length docs ≤ cur) → cur < length docs
    go (inl within) = within
    go (inr past) = (let none = ap (λ xs. first (entries_of xs counts numbers)) (drop_all cur docs past) in absurd (omega (arith, on, none)))

-- the document on which a cursor stands is that of its index
stands_at : (cur : ℕ) (docs counts numbers : List ℕ) → first (entries_of (drop cur docs) counts numbers) ≡ get_or docs cur terminated
stands_at cur docs counts numbers = (let e : cur + 0 ≡ cur = omega arith in first-entries_of (drop cur docs) counts numbers ∙ (get_or-drop cur docs 0 terminated ∙ ap (λ k. get_or docs k terminated) e))

-- where a cursor stands behind a document, none at its index or behind it is below
pub below_behind : (target cur : ℕ) (docs counts numbers : List ℕ) → target < first (entries_of (drop cur docs) counts numbers) → below target docs ≤ cur
below_behind target cur docs counts numbers late = go (cases_lt cur (length docs))
  where
    go : (cur < length docs) ⊎ (length docs ≤ cur) → below target docs ≤ cur
    go (inl within) =
        let at = stands_at cur docs counts numbers in
        let same = get_or_default docs cur 0 terminated within in
        below_stops target cur docs within (omega (arith, late, at, same))
    go (inr past) = (let most = prefix_len-le-length (λ d. nat_lt d target) docs in omega (arith, past, most))

-- and where it doesn't, all before its index are
pub below_from : (target cur : ℕ) (docs counts numbers : List ℕ) → Ascends 0 docs → first (entries_of (drop cur docs) counts numbers) ≤ target → target < terminated → cur ≤ below target docs
below_from target cur docs counts numbers ascends ahead small =
    let at = stands_at cur docs counts numbers in
    let within = stands_within cur docs counts numbers (omega (arith, ahead, small)) in
    let all = below_ahead cur target 0 docs ascends (omega (arith, within)) (omega (arith, at, ahead)) in
    omega (arith, all)

-- what is from a document on is what is from its index on
pub from_index : (target cur offset : ℕ) (docs counts numbers : List ℕ) → Ascends 0 docs → first (entries_from cur offset docs counts numbers) ≤ target → from target (entries_from cur offset docs counts numbers) ≡ entries_from (below target docs) offset docs counts numbers
from_index target cur offset docs counts numbers a ahead = go (cases_lt (length docs) cur)
  where
    stands : get_or docs cur terminated ≤ target
    stands = (let is = first-entries_of (drop cur docs) (drop cur counts) (drop (offset + sum (take cur counts)) numbers) in let at = get_or-drop cur docs 0 terminated in let same : get_or docs (cur + 0) terminated ≡ get_or docs cur terminated = ap (λ k. get_or docs k terminated) (let e : cur + 0 ≡ cur = omega arith in e) in omega (arith, ahead, is, at, same))

    go : (length docs < cur) ⊎ (cur ≤ length docs) → from target (entries_from cur offset docs counts numbers) ≡ entries_from (below target docs) offset docs counts numbers
    go (inl past) =
        let none = drop_all cur docs (omega (arith, past)) in
        let end : get_or docs cur terminated ≡ terminated = get_or_past docs cur terminated (omega (arith, past)) in
        let at_end : get_or docs (length docs) terminated ≡ terminated = get_or_past docs (length docs) terminated (omega arith) in
        let all = below_ahead (length docs) target 0 docs a (omega arith) (omega (arith, at_end, end, stands)) in
        let no_docs = drop_all (below target docs) docs (omega (arith, all)) in
        ap (λ xs. from target (entries_of xs (drop cur counts) (drop (offset + sum (take cur counts)) numbers))) none
        ∙ sym (ap (λ xs. entries_of xs (drop (below target docs) counts) (drop (offset + sum (take (below target docs) counts)) numbers)) no_docs)
    go (inr inside) =
        let m = below target (drop cur docs) in
        let behind = offset + sum (take cur counts) in
        let index : cur + m ≡ below target docs = sym (below_ahead cur target 0 docs a inside stands) in
        let total : behind + sum (take m (drop cur counts)) ≡ offset + sum (take (cur + m) counts) = omega (arith, sum_of_more cur m counts) in
        entries_below target 0 (drop cur docs) (drop cur counts) (drop behind numbers) (Ascends-behind cur 0 docs a)
        ∙ (ap₂ (λ xs ys. entries_of xs ys (drop (sum (take m (drop cur counts))) (drop behind numbers))) (drop-drop m cur docs) (drop-drop m cur counts)
        ∙ (ap (λ xs. entries_of (drop (cur + m) docs) (drop (cur + m) counts) xs) (drop-drop (sum (take m (drop cur counts))) behind numbers ∙ ap (λ k. drop k numbers) total)
        ∙ ap (λ k. entries_from k offset docs counts numbers) index))

-- an index by blocks
pub index_on : (index offset next inner : ℕ) (docs counts docs' counts' : List ℕ) (o : Option (List ℕ)) → docs' ≡ drop (128 * (index / 128)) docs → counts' ≡ drop (128 * (index / 128)) counts → inner ≡ index % 128 → (IsSome o → next ≡ offset + sum (take (128 * (index / 128)) counts)) → entries_from inner next docs' counts' (listed o) ≡ entries_from index offset docs counts (listed o)
index_on index offset next inner docs counts docs' counts' o docs_are counts_are is told =
    let q = 128 * (index / 128) in
    let whole : q + inner ≡ index = omega (arith, is) in
    let total : IsSome o → next + sum (take inner (drop q counts)) ≡ offset + sum (take (q + inner) counts) = λ yes. (let t = told yes in omega (arith, t, sum_of_more q inner counts)) in
    ap₂ (λ xs ys. entries_of (drop inner xs) (drop inner ys) (drop (next + sum (take inner ys)) (listed o))) docs_are counts_are
    ∙ (ap₂ (λ xs ys. entries_of xs ys (drop (next + sum (take inner (drop q counts))) (listed o))) (drop-drop inner q docs) (drop-drop inner q counts)
    ∙ (ap (λ xs. entries_of (drop (q + inner) docs) (drop (q + inner) counts) xs) (numbers_same o (next + sum (take inner (drop q counts))) (offset + sum (take (q + inner) counts)) total)
    ∙ ap (λ k. entries_from k offset docs counts (listed o)) whole))

-- ---- without positions

pub no_positions : (docs counts numbers : List ℕ) → numbers ≡ [] → AreSingle (entries_of docs counts numbers) × (most_positions (entries_of docs counts numbers) ≡ 0)
no_positions [] counts numbers none = (tt, refl)
no_positions (d ∷ ds) counts numbers none =
    let n = get_or counts 0 0 in
    let taken : take n numbers ≡ [] = ap (take n) none ∙ take-nil n in
    let later = no_positions ds (drop 1 counts) (drop n numbers) (ap (drop n) none ∙ drop-nil n) in
    let few : highest (places 0 (take n numbers)) ≡ 0 = ap (λ xs. highest (places 0 xs)) taken in
    let long : length (places 0 (take n numbers)) ≡ 0 = ap (λ xs. length (places 0 xs)) taken in
    let rest = later.1 in
    ((refl, subst (λ xs. DontFall (places 0 xs)) (sym taken) tt, omega (arith, few), later.0), omega (arith, long, rest))

-- ---- what a move keeps

pub single_on : (before after : List Entry) → after ≡ drop 1 before → AreSingle before → AreSingle after
single_on before after is s = subst AreSingle (sym is) (AreSingle-drop 1 before s)

pub single_from : (t : ℕ) (before after : List Entry) → after ≡ from t before → AreSingle before → AreSingle after
single_from t before after is s = subst AreSingle (sym is) (AreSingle-from t before s)

-- ---- the document on which a cursor stands

pub count_there : (cur : ℕ) (docs counts numbers : List ℕ) → cur < length docs → first_count (entries_of (drop cur docs) (drop cur counts) numbers) ≡ get_or counts cur 0
count_there cur docs counts numbers within =
    let e : cur + 0 ≡ cur = omega arith in
    ap (λ xs. first_count (entries_of xs (drop cur counts) numbers)) (drop_more docs cur 0 within) ∙ (get_or-drop cur counts 0 0 ∙ ap (λ k. get_or counts k 0) e)

pub positions_there : (cur : ℕ) (docs counts numbers : List ℕ) → cur < length docs → single (first_positions (entries_of (drop cur docs) (drop cur counts) numbers)) ≡ places 0 (take (get_or counts cur 0) numbers)
positions_there cur docs counts numbers within =
    let e : cur + 0 ≡ cur = omega arith in
    ap (λ xs. single (first_positions (entries_of xs (drop cur counts) numbers))) (drop_more docs cur 0 within) ∙ ap (λ k. places 0 (take k numbers)) (get_or-drop cur counts 0 0 ∙ ap (λ k. get_or counts k 0) e)

pub count_within : (cur : ℕ) (counts : List ℕ) → sum (take cur counts) + get_or counts cur 0 ≤ sum counts
count_within cur counts =
    let one = sum_of_more cur 1 counts in
    let here = sum_one (drop cur counts) in
    let e : cur + 0 ≡ cur = omega arith in
    let at : get_or (drop cur counts) 0 0 ≡ get_or counts cur 0 = get_or-drop cur counts 0 0 ∙ ap (λ k. get_or counts k 0) e in
    let all = sum_by-take-le (λ x. x) counts (cur + 1) in
    omega (arith, one, here, at, all)
