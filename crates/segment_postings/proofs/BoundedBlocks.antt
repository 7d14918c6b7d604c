-- Bounds of blocks.
use Rattle.std.proofs.Common.{[], Bool, List, ap, arith, drop, false, get_or, if◌then◌else◌, length, length-drop, length-take, map, nat_lt, replicate, subst, suc, sym, take, true, zero, ◌*◌, ◌+◌, ◌-◌, ◌/◌, ◌<◌, ◌^◌, ◌≡◌, ◌≤◌, ◌∙◌, ◌∷◌, ℕ}
use Rattle.std.proofs.lemmas.List.{drop-drop, get_or-drop, get_or-take}
use Rattle.std.specs.List.{AllByRecursion}
use Rattle.definitions.specs.Blocks.{least_of}
use Rattle.definitions.specs.Schema.{IndexRecordOption}
use Rattle.definitions.specs.Scoring.{greatest_of}
use Rattle.layouts.specs.SkipEntries.{SkipEntry, count_code}
use Rattle.layouts.specs.TermPostings.{id_of, next_after, skip_entries}
use Rattle.segment_postings.specs.BoundedBlocks.{AreBounded}
use Rattle.segment_postings.proofs.Lists.{greatest_each}

-- ---- as they are written

least_each : (f : ℕ → ℕ) (xs : List ℕ) (i : ℕ) → i < length xs → least_of (map f xs) ≤ f (get_or xs i 0)
least_each f [] i within = absurd (omega (arith, within))
least_each f (x ∷ []) zero within = omega arith
least_each f (x ∷ []) (suc i) within = absurd (omega (arith, within))
least_each f (x ∷ y ∷ xs) zero within = omega arith
least_each f (x ∷ y ∷ xs) (suc i) within = (let ih = least_each f (y ∷ xs) i (omega (arith, within)) in omega (arith, ih))

code_above : (g c : ℕ) → count_code g ≤ 254 → c ≤ g → c ≤ count_code g
code_above g c few l = go (nat_lt 254 g) few
  where
    go : (b : Bool) → (if b then 255 else g) ≤ 254 → c ≤ (if b then 255 else g)
    go true h = absurd (omega (arith, h))
    go false h = l

-- the bounds that are written hold
pub written_bounded : (option : IndexRecordOption) (ids : List ℕ) (blocks next : ℕ) (docs counts : List ℕ) → AreBounded ids (skip_entries option ids blocks next docs counts) docs counts
written_bounded option ids zero next docs counts = tt
written_bounded option ids (suc blocks) next docs counts = (
  record {
    least = λ few i within. least_each (id_of ids) (take 128 docs) i within;
    greatest = λ few i within. code_above (greatest_of (take 128 counts)) (get_or (take 128 counts) i 0) few (greatest_each (take 128 counts) i);
  },
  written_bounded option ids blocks (next_after docs) (drop 128 docs) (drop 128 counts),
)

-- ---- where counts aren't read

greatest_some : (xs : List ℕ) → 0 < length xs → AllByRecursion (λ n. 0 < n) xs → 1 ≤ greatest_of xs
greatest_some [] some all = absurd (omega (arith, some))
greatest_some (x ∷ xs) some all = (let here = all.0 in omega (arith, here))

all_take : (k : ℕ) (xs : List ℕ) → AllByRecursion (λ n. 0 < n) xs → AllByRecursion (λ n. 0 < n) (take k xs)
all_take zero xs all = tt
all_take (suc k) [] all = tt
all_take (suc k) (x ∷ xs) all = (all.0, all_take k xs all.1)

all_drop : (k : ℕ) (xs : List ℕ) → AllByRecursion (λ n. 0 < n) xs → AllByRecursion (λ n. 0 < n) (drop k xs)
all_drop zero xs all = all
all_drop (suc k) [] all = tt
all_drop (suc k) (x ∷ xs) all = all_drop k xs all.1

-- each number of a list is at most 1
abbrev AreOnes : List ℕ → Type 0
AreOnes xs = (i : ℕ) → get_or xs i 0 ≤ 1

code_some : (g : ℕ) → 1 ≤ g → 1 ≤ count_code g
code_some g some = go (nat_lt 254 g)
  where
    go : (b : Bool) → 1 ≤ (if b then 255 else g)
    go true = omega arith
    go false = some

-- the bounds that are written hold of counts of 1
pub ones_bounded : (option : IndexRecordOption) (ids : List ℕ) (blocks next : ℕ) (docs counts ones : List ℕ) → 128 * blocks ≤ length counts → AllByRecursion (λ n. 0 < n) counts → AreOnes ones → AreBounded ids (skip_entries option ids blocks next docs counts) docs ones
ones_bounded option ids zero next docs counts ones many all are = tt
ones_bounded option ids (suc blocks) next docs counts ones many all are =
    let taken = length-take 128 counts in
    let left = length-drop 128 counts in
    let some = greatest_some (take 128 counts) (omega (arith, taken, many)) (all_take 128 counts all) in
    let code = code_some (greatest_of (take 128 counts)) some in (
      record {
        least = λ few i within. least_each (id_of ids) (take 128 docs) i within;
        greatest = λ few i within. (let one = first_ones 128 ones i are in omega (arith, one, code));
      },
      ones_bounded option ids blocks (next_after docs) (drop 128 docs) (drop 128 counts) (drop 128 ones) (omega (arith, left, many)) (all_drop 128 counts all) (λ i. (let one = are (128 + i) in let same = get_or-drop 128 ones i 0 in omega (arith, one, same))),
    )
  where
    first_ones : (k : ℕ) (xs : List ℕ) (i : ℕ) → ((j : ℕ) → get_or xs j 0 ≤ 1) → get_or (take k xs) i 0 ≤ 1
    first_ones zero xs i h = omega arith
    first_ones (suc k) [] i h = omega arith
    first_ones (suc k) (x ∷ xs) zero h = h 0
    first_ones (suc k) (x ∷ xs) (suc i) h = first_ones k xs i (λ j. h (suc j))

-- ---- as blocks are passed

pub bounded_on : (k : ℕ) (ids : List ℕ) (es : List SkipEntry) (docs counts : List ℕ) → AreBounded ids es docs counts → AreBounded ids (drop k es) (drop (128 * k) docs) (drop (128 * k) counts)
bounded_on zero ids es docs counts all = all
bounded_on (suc k) ids [] docs counts all = tt
bounded_on (suc k) ids (e ∷ es) docs counts all =
    let ih = bounded_on k ids es (drop 128 docs) (drop 128 counts) all.1 in
    let index : 128 + 128 * k ≡ 128 * suc k = omega arith in
    subst (λ xs. AreBounded ids (drop k es) xs (drop (128 * suc k) counts)) (drop-drop (128 * k) 128 docs ∙ ap (λ n. drop n docs) index)
    (subst (λ xs. AreBounded ids (drop k es) (drop (128 * k) (drop 128 docs)) xs) (drop-drop (128 * k) 128 counts ∙ ap (λ n. drop n counts) index) ih)

-- ---- of one document

-- what is told of the block of an index holds of the document there
pub bound_holds : (k index : ℕ) (ids : List ℕ) (es : List SkipEntry) (docs counts : List ℕ) (e : SkipEntry) (rest : List SkipEntry) → AreBounded ids es docs counts → drop k es ≡ e ∷ rest → index < length docs → index / 128 ≡ k → e.greatest_count ≤ 254 → (e.least_id ≤ id_of ids (get_or docs index 0)) × (get_or counts index 0 ≤ e.greatest_count)
bound_holds k index ids es docs counts e rest all here within block few =
    let cut = bounded_on k ids es docs counts all in
    let at = index - 128 * k in
    let back : at + 128 * k ≡ index = omega (arith, block) in
    let first : at < 128 = omega (arith, block) in
    let told : AreBounded ids (e ∷ rest) (drop (128 * k) docs) (drop (128 * k) counts) = subst (λ xs. AreBounded ids xs (drop (128 * k) docs) (drop (128 * k) counts)) here cut in
    let len = length-drop (128 * k) docs in
    let taken = length-take 128 (drop (128 * k) docs) in
    let inside : at < length (take 128 (drop (128 * k) docs)) = omega (arith, taken, len, first, within, back) in
    let there : 128 * k + at ≡ index = omega (arith, back) in
    let doc : get_or (take 128 (drop (128 * k) docs)) at 0 ≡ get_or docs index 0 = get_or-take 128 (drop (128 * k) docs) at 0 first ∙ (get_or-drop (128 * k) docs at 0 ∙ ap (λ n. get_or docs n 0) there) in
    let count : get_or (take 128 (drop (128 * k) counts)) at 0 ≡ get_or counts index 0 = get_or-take 128 (drop (128 * k) counts) at 0 first ∙ (get_or-drop (128 * k) counts at 0 ∙ ap (λ n. get_or counts n 0) there) in
    let least = told.0.least few at inside in
    let greatest = told.0.greatest few at inside in
    (subst (λ d. e.least_id ≤ id_of ids d) doc least, subst (λ n. n ≤ e.greatest_count) count greatest)

-- ---- as they are opened

-- counts that are read, or each 1
pub opened_bounded : (reads : Bool) (option : IndexRecordOption) (ids docs counts : List ℕ) (n : ℕ) (es : List SkipEntry) (left left_counts : List ℕ) → length counts ≡ length docs → AllByRecursion (λ m. 0 < m) counts → es ≡ skip_entries option ids (length docs / 128) 0 docs counts → left ≡ docs → left_counts ≡ (if reads then counts else replicate n 1) → AreBounded ids es left left_counts
opened_bounded reads option ids docs counts n es left left_counts same some entries are told =
    subst (λ xs. AreBounded ids xs left left_counts) (sym entries) (subst (λ xs. AreBounded ids (skip_entries option ids (length docs / 128) 0 docs counts) xs left_counts) (sym are) (subst (λ xs. AreBounded ids (skip_entries option ids (length docs / 128) 0 docs counts) docs xs) (sym told) (go reads)))
  where
    one_each : (n i : ℕ) → get_or (replicate n 1) i 0 ≤ 1
    one_each zero i = omega arith
    one_each (suc n) zero = omega arith
    one_each (suc n) (suc i) = one_each n i

    go : (b : Bool) → AreBounded ids (skip_entries option ids (length docs / 128) 0 docs counts) docs (if b then counts else replicate n 1)
    go true = written_bounded option ids (length docs / 128) 0 docs counts
    go false = ones_bounded option ids (length docs / 128) 0 docs counts (replicate n 1) (omega (arith, same)) some (one_each n)

pub positive_counts : (counts : List ℕ) → AllByRecursion (λ n. (0 < n) × (n < 2 ^ 32)) counts → AllByRecursion (λ n. 0 < n) counts
positive_counts [] all = tt
positive_counts (n ∷ ns) all = (all.0.0, positive_counts ns all.1)
