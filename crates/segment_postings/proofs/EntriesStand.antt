-- The skip entries of a term are entries in their ranges.
use Rattle.std.proofs.Common.{[], Bool, List, ap, ap₂, arith, drop, false, get_or, length, length-drop, length-take, nat_eq, nat_le, nat_lt, refl, suc, sum, sym, take, true, zero, ◌&&◌, ◌*◌, ◌+◌, ◌<◌, ◌≡◌, ◌≤◌, ◌∙◌, ◌∷◌, ◌^◌, ℕ, if◌then◌else◌}
use Rattle.std.proofs.lemmas.Bool.Decides.{nat_tests}
use Rattle.std.proofs.lemmas.List.{get_or-take}
use Rattle.std.specs.List.{AllByRecursion, list_all}
use Rattle.codes.proofs.BlockBytes.{all_hold}
use Rattle.definitions.specs.Schema.{IndexRecordOption, has_freq, has_positions}
use Rattle.definitions.specs.Scoring.{greatest_of}
use Rattle.layouts.specs.Deltas.{deltas}
use Rattle.layouts.specs.PackedBytes.{width_from, width_of}
use Rattle.layouts.specs.SkipEntries.{are_entries, count_code, is_entry}
use Rattle.layouts.specs.TermPostings.{SumsFit, less_1, next_after, skip_entries, skip_entry}
use Rattle.segment_postings.proofs.ReadBack.{Posted, ascends_far, deltas_small, less_small, posted_drop, posted_take, width_fits}

-- ---- widths

pub width_at_most : (k more from : ℕ) (numbers : List ℕ) → ((i : ℕ) → get_or numbers i 0 < 2 ^ k) → from ≤ k → k ≤ from + more → width_from more from numbers ≤ k
width_at_most k zero from numbers small low high = low
width_at_most k (suc more) from numbers small low high = go (nat_lt from k) refl (λ less. width_at_most k more (from + 1) numbers small less (omega (arith, high)))
  where
    test : (b : Bool) → from ≤ k → width_from more (from + 1) numbers ≤ k → (if b then from else width_from more (from + 1) numbers) ≤ k
    test true l m = l
    test false l m = m

    go : (b : Bool) → nat_lt from k ≡ b → (from + 1 ≤ k → width_from more (from + 1) numbers ≤ k) → (if list_all (λ n. nat_lt n (2 ^ from)) numbers then from else width_from more (from + 1) numbers) ≤ k
    go true e later = (let less : from < k = grind (arith, nat_tests) in test (list_all (λ n. nat_lt n (2 ^ from)) numbers) low (later (omega (arith, less))))
    go false e later =
        let same : k ≡ from = (let past : k ≤ from = grind (arith, nat_tests) in omega (arith, past, low)) in
        let holds : list_all (λ n. nat_lt n (2 ^ from)) numbers ≡ true = ap (λ j. list_all (λ n. nat_lt n (2 ^ j)) numbers) (sym same) ∙ all_hold (2 ^ k) numbers small in
        let is = ap (λ b. if b then from else width_from more (from + 1) numbers) holds in
        omega (arith, is, low)

width_31 : (numbers : List ℕ) → ((i : ℕ) → get_or numbers i 0 < 2 ^ 31) → width_of numbers ≤ 31
unfolding width_of
width_31 numbers small = width_at_most 31 32 0 numbers small (omega arith) (omega arith)

-- ---- bounds

greatest_some : (counts : List ℕ) → 0 < length counts → ((i : ℕ) → i < length counts → 0 < get_or counts i 0) → 0 < greatest_of counts
greatest_some [] l some = absurd (omega (arith, l))
greatest_some (n ∷ ns) l some = (let h = some 0 (omega arith) in omega (arith, h))

greatest_of_ones : (counts : List ℕ) → AllByRecursion (λ n. n ≡ 1) counts → greatest_of counts ≤ 1
greatest_of_ones [] ones = omega arith
greatest_of_ones (n ∷ ns) ones = (let h = ones.0 in let ih = greatest_of_ones ns ones.1 in omega (arith, h, ih))

code_some : (n : ℕ) → 0 < n → 0 < count_code n
code_some n some = go (nat_lt 254 n)
  where
    go : (b : Bool) → 0 < (if b then 255 else n)
    go true = omega arith
    go false = some

ones_take : (k : ℕ) (counts : List ℕ) → AllByRecursion (λ n. n ≡ 1) counts → AllByRecursion (λ n. n ≡ 1) (take k counts)
ones_take zero counts ones = tt
ones_take (suc k) [] ones = tt
ones_take (suc k) (n ∷ ns) ones = (ones.0, ones_take k ns ones.1)

ones_drop : (k : ℕ) (counts : List ℕ) → AllByRecursion (λ n. n ≡ 1) counts → AllByRecursion (λ n. n ≡ 1) (drop k counts)
ones_drop zero counts ones = ones
ones_drop (suc k) [] ones = tt
ones_drop (suc k) (n ∷ ns) ones = ones_drop k ns ones.1

-- ---- one entry

tests : (a b c d e f g : Bool) → a ≡ true → b ≡ true → c ≡ true → d ≡ true → e ≡ true → f ≡ true → g ≡ true → (a && b && c && d && e && f && g) ≡ true
tests a b c d e f g ta tb tc td te tf tg = ap₂ (λ x y. x && y) (ap₂ (λ x y. x && y) (ap₂ (λ x y. x && y) (ap₂ (λ x y. x && y) (ap₂ (λ x y. x && y) (ap₂ (λ x y. x && y) ta tb) tc) td) te) tf) tg

-- what isn't recorded
unrecorded : (c : Bool) (w m : ℕ) → (c ≡ false → m ≡ 1) → (if c then true else nat_eq (if c then w else 0) 0 && nat_eq m 1) ≡ true
unrecorded true w m one = refl
unrecorded false w m one = (let is : nat_eq m 1 ≡ true = (let e = one refl in grind (arith, nat_tests)) in is)

unsummed : (p : Bool) (s : ℕ) → (p ≡ true → s < 2 ^ 32) → (if p then nat_lt (if p then s else 0) (2 ^ 32) else nat_eq (if p then s else 0) 0) ≡ true
unsummed true s few = (let is : nat_lt s (2 ^ 32) ≡ true = (let h = few refl in grind (arith, nat_tests)) in is)
unsummed false s few = refl

width_if : (c : Bool) (w : ℕ) → w ≤ 32 → (if c then w else 0) ≤ 32
width_if true w few = few
width_if false w few = omega arith

entry_stands : (option : IndexRecordOption) (ids : List ℕ) (next : ℕ) (docs counts : List ℕ) → Posted option next docs counts → length docs ≡ 128 → (has_freq option ≡ false → AllByRecursion (λ n. n ≡ 1) counts) → (has_positions option ≡ true → sum counts < 2 ^ 32) → is_entry (has_freq option) (has_positions option) next (skip_entry option ids next docs counts) ≡ true
entry_stands option ids next docs counts posted full ones summed =
    let long = posted.long in
    let far = ascends_far 127 next docs posted.ascending (omega (arith, full)) in
    let small = posted.docs_fit 127 in
    let last = get_or docs 127 0 in
    let w = width_of (deltas next docs) in
    let v = width_of (less_1 counts) in
    let few_w = width_31 (deltas next docs) (deltas_small next (2 ^ 31) docs (omega arith) (λ i. (let h = posted.docs_fit i in omega (arith, h)))) in
    let few_v = (width_fits (less_1 counts) (less_small (2 ^ 32) counts (omega arith) posted.counts_fit)).0 in
    let v_if = if has_freq option then v else 0 in
    let few_if : v_if ≤ 32 = width_if (has_freq option) v few_v in
    let some = greatest_some counts (omega (arith, full, long)) posted.counted in
    let code = count_code (greatest_of counts) in
    let coded : 0 < code = code_some (greatest_of counts) some in
    let t1 : nat_le (next + 127) last ≡ true = grind (arith, nat_tests) in
    let t2 : nat_lt last 2147483647 ≡ true = grind (arith, nat_tests) in
    let t3 : nat_le w 31 ≡ true = grind (arith, nat_tests) in
    let t4 : nat_le v_if 32 ≡ true = grind (arith, nat_tests) in
    let t5 : nat_lt 0 code ≡ true = grind (arith, nat_tests) in
    let one : has_freq option ≡ false → code ≡ 1 = λ none. (let most = greatest_of_ones counts (ones none) in let is : greatest_of counts ≡ 1 = omega (arith, most, some) in ap count_code is) in
    tests (nat_le (next + 127) last) (nat_lt last 2147483647) (nat_le w 31) (nat_le v_if 32) (nat_lt 0 code) (if has_freq option then true else nat_eq v_if 0 && nat_eq code 1) (if has_positions option then nat_lt (if has_positions option then sum counts else 0) (2 ^ 32) else nat_eq (if has_positions option then sum counts else 0) 0) t1 t2 t3 t4 t5 (unrecorded (has_freq option) v code one) (unsummed (has_positions option) (sum counts) summed)

-- ---- all entries

pub entries_stand : (option : IndexRecordOption) (ids : List ℕ) (blocks next n : ℕ) (docs counts : List ℕ) → Posted option next docs counts → length docs ≡ 128 * blocks + n → (has_freq option ≡ false → AllByRecursion (λ k. k ≡ 1) counts) → (has_positions option ≡ true → SumsFit blocks counts) → are_entries (has_freq option) (has_positions option) next (skip_entries option ids blocks next docs counts) ≡ true
entries_stand option ids zero next n docs counts posted long ones summed = refl
entries_stand option ids (suc blocks) next n docs counts posted long ones summed =
    let many : 128 ≤ length docs = omega (arith, long) in
    let first = entry_stands option ids next (take 128 docs) (take 128 counts) (posted_take option next docs counts posted) (omega (arith, length-take 128 docs, many)) (λ none. ones_take 128 counts (ones none)) (λ told. (summed told).0) in
    let later = entries_stand option ids blocks (next_after docs) n (drop 128 docs) (drop 128 counts) (posted_drop option next docs counts posted many) (omega (arith, length-drop 128 docs, long)) (λ none. ones_drop 128 counts (ones none)) (λ told. (summed told).1) in
    let same : get_or (take 128 docs) 127 0 + 1 ≡ next_after docs = ap (λ k. k + 1) (get_or-take 128 docs 127 0 (omega arith)) in
    ap₂ (λ a b. a && b) first (ap (λ k. are_entries (has_freq option) (has_positions option) k (skip_entries option ids blocks (next_after docs) (drop 128 docs) (drop 128 counts))) same ∙ later)

pub many_entries : (option : IndexRecordOption) (ids : List ℕ) (blocks next : ℕ) (docs counts : List ℕ) → length (skip_entries option ids blocks next docs counts) ≡ blocks
many_entries option ids zero next docs counts = refl
many_entries option ids (suc blocks) next docs counts = ap suc (many_entries option ids blocks (next_after docs) (drop 128 docs) (drop 128 counts))
