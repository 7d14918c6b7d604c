-- Bounds of counts, told by skip entries.
use Rattle.std.proofs.Common.{[], Bool, List, ap, arith, drop, false, get_or, if◌then◌else◌, max, min, nat_eq, nat_lt, refl, subst, suc, sum, sym, take, true, zero, ◌*◌, ◌+◌, ◌-◌, ◌<◌, ◌≡◌, ◌≤◌, ◌∙◌, ◌∷◌, ◌^◌, ℕ}
use Rattle.std.proofs.lemmas.Bool.Decides.{nat_tests}
use Rattle.std.proofs.Math.Logic.{∥∥₁_elim}
use Rattle.std.proofs.Props.{props}
use Rattle.std.proofs.lemmas.List.{drop-drop}
use Rattle.std.proofs.lemmas.List.Sums.{sum_by-cons}
use Rattle.definitions.specs.Scoring.{greatest_of}
use Rattle.layouts.specs.SkipEntries.{SkipEntry, count_code}
use Rattle.definitions.specs.Schema.{IndexRecordOption}
use Rattle.definitions.proofs.Bounds.{greatest_below_sum}
use Rattle.layouts.specs.TermPostings.{next_after, skip_entries, skip_entry}
use Rattle.segment_postings.proofs.PlacedEntries.{below_sum}
use Rattle.segment_postings.specs.CountBounds.{TellCounts}
use Rattle.segment_postings.proofs.Lists.{greatest_each}
use Rattle.codes.specs.SkipBlocks.{Skips, counts_len, info_of, passed}
use Rattle.codes.specs.declared.skip_reader.BlockInfo.{BlockInfo}
use Rattle.codes.specs.declared.skip_reader.BlockInfo.TheVariants.{BitPacked, VInt}

-- what an entry tells of the counts in its block
abbrev pub entry_bound : SkipEntry → ℕ
entry_bound e = if nat_eq e.greatest_count 255 then e.count_sum else e.greatest_count

code_bounds : (g s c : ℕ) → c ≤ g → c ≤ s → c ≤ (if nat_eq (if nat_lt 254 g then 255 else g) 255 then s else (if nat_lt 254 g then 255 else g))
code_bounds g s c few many = go (nat_lt 254 g) refl
  where
    go : (b : Bool) → nat_lt 254 g ≡ b → c ≤ (if nat_eq (if b then 255 else g) 255 then s else (if b then 255 else g))
    go true is = many
    go false is =
        let small : g ≤ 254 = grind (arith, nat_tests) in
        let other : nat_eq g 255 ≡ false = grind (arith, nat_tests) in
        subst (λ b. c ≤ (if b then s else g)) (sym other) few

code_fits : (g s : ℕ) → g ≤ s → (if nat_eq (if nat_lt 254 g then 255 else g) 255 then s else (if nat_lt 254 g then 255 else g)) ≤ s
code_fits g s small = go (nat_lt 254 g) refl
  where
    go : (b : Bool) → nat_lt 254 g ≡ b → (if nat_eq (if b then 255 else g) 255 then s else (if b then 255 else g)) ≤ s
    go true is = omega arith
    go false is =
        let few : g ≤ 254 = grind (arith, nat_tests) in
        let other : nat_eq g 255 ≡ false = grind (arith, nat_tests) in
        subst (λ b. (if b then s else g) ≤ s) (sym other) small

split_sum : (n : ℕ) (xs : List ℕ) → sum xs ≡ sum (take n xs) + sum (drop n xs)
split_sum zero xs = omega arith
split_sum (suc n) [] = omega arith
split_sum (suc n) (x ∷ xs) = (let ih = split_sum n xs in let all = sum_by-cons (λ y. y) x xs in let first = sum_by-cons (λ y. y) x (take n xs) in omega (arith, ih, all, first))

-- numbers that are bounded in front and behind
parts_bound : (n : ℕ) (xs : List ℕ) (a b : ℕ) → ((i : ℕ) → get_or (take n xs) i 0 ≤ a) → ((i : ℕ) → get_or (drop n xs) i 0 ≤ b) → (i : ℕ) → get_or xs i 0 ≤ max a b
parts_bound zero xs a b front back i = (let h = back i in omega (arith, h))
parts_bound (suc n) [] a b front back i = omega arith
parts_bound (suc n) (x ∷ xs) a b front back zero = (let h = front 0 in omega (arith, h))
parts_bound (suc n) (x ∷ xs) a b front back (suc i) = parts_bound n xs a b (λ k. front (suc k)) back i

fits_behind : (n : ℕ) (xs : List ℕ) → ((i : ℕ) → get_or xs i 0 < 2 ^ 32) → (i : ℕ) → get_or (drop n xs) i 0 < 2 ^ 32
fits_behind zero xs fit i = fit i
fits_behind (suc n) [] fit i = fit i
fits_behind (suc n) (x ∷ xs) fit i = fits_behind n xs (λ k. fit (suc k)) i

-- ---- blocks that were passed

pub record Later (num : ℕ) (s : Skips) (counts : List ℕ) (most : ℕ) : Type 0 where
  pub rest : List ℕ
  pub told : TellCounts num s rest
  pub fits : most ≤ num
  pub above : (b : ℕ) → ((j : ℕ) → get_or rest j 0 ≤ b) → (i : ℕ) → get_or counts i 0 ≤ max most b

pub none_passed : (num : ℕ) (s : Skips) (counts : List ℕ) → TellCounts num s counts → Later num s counts 0
none_passed num s counts told = record { rest = counts; told = told; fits = omega arith; above = λ b few i. (let h = few i in omega (arith, h)) }

abbrev head_of : SkipEntry → List SkipEntry → SkipEntry
head_of other [] = other
head_of other (e ∷ es) = e

pub one_passed : (num : ℕ) (s : Skips) (counts : List ℕ) (most : ℕ) (e : SkipEntry) (es : List SkipEntry) → s.left ≡ e ∷ es → Later num s counts most → Later num (passed 1 s) counts (max most (entry_bound e))
one_passed num s counts most e es left later = go later.told.blocks (sym left ∙ later.told.entries)
  where
    step : (m : ℕ) → e ∷ es ≡ skip_entries later.told.option later.told.ids (suc m) later.told.next later.told.docs later.rest → Later num (passed 1 s) counts (max most (entry_bound e))
    step m are =
        let option = later.told.option in
        let rest = later.rest in
        let made = skip_entry option later.told.ids later.told.next (take 128 later.told.docs) (take 128 rest) in
        let first : e ≡ made = ap (head_of e) are in
        let others : es ≡ skip_entries option later.told.ids m (next_after later.told.docs) (drop 128 later.told.docs) (drop 128 rest) = ap (drop 1) are in
        let own_sum : made.count_sum ≡ sum (take 128 rest) = ap (λ b. if b then sum (take 128 rest) else 0) later.told.positions in
        let count : counts_len (take 1 s.left) ≡ sum (take 128 rest) = ap (λ xs. counts_len (take 1 xs)) left ∙ ap (λ (x : SkipEntry). counts_len (x ∷ [])) first ∙ (let h = own_sum in omega (arith, h)) in
        let bounded : (i : ℕ) → get_or (take 128 rest) i 0 ≤ entry_bound e = λ i. subst (λ (x : SkipEntry). get_or (take 128 rest) i 0 ≤ entry_bound x) (sym first) (subst (λ n. get_or (take 128 rest) i 0 ≤ (if nat_eq (count_code (greatest_of (take 128 rest))) 255 then n else count_code (greatest_of (take 128 rest)))) (sym own_sum) (code_bounds (greatest_of (take 128 rest)) (sum (take 128 rest)) (get_or (take 128 rest) i 0) (greatest_each (take 128 rest) i) (below_sum (take 128 rest) i))) in
        record {
          rest = drop 128 rest;
          told = record {
            option = option;
            ids = later.told.ids;
            blocks = m;
            next = next_after later.told.docs;
            docs = drop 128 later.told.docs;
            entries = ap (drop 1) left ∙ others;
            positions = later.told.positions;
            fit = fits_behind 128 rest later.told.fit;
            total = (let all = later.told.total in let parts = split_sum 128 rest in omega (arith, all, parts, count));
          };
          fits = (let so_far = later.fits in let all = later.told.total in let parts = split_sum 128 rest in let one = subst (λ (x : SkipEntry). entry_bound x ≤ x.count_sum) (sym first) (code_fits (greatest_of (take 128 rest)) made.count_sum (omega (arith, own_sum, greatest_below_sum (take 128 rest)))) in let own = ap (λ (x : SkipEntry). x.count_sum) first in omega (arith, so_far, all, parts, one, own, own_sum));
          above = λ b few i. (let h = later.above (max (entry_bound e) b) (parts_bound 128 rest (entry_bound e) b bounded few) i in omega (arith, h));
        }

    go : (n : ℕ) → e ∷ es ≡ skip_entries later.told.option later.told.ids n later.told.next later.told.docs later.rest → Later num (passed 1 s) counts (max most (entry_bound e))
    go zero are = absurd cc
    go (suc m) are = step m are

-- the counts of the rest are below how many positions are left
pub rest_bounded : (num : ℕ) (s : Skips) (counts : List ℕ) (most left : ℕ) → Later num s counts most → (s.position_offset ≤ num → left ≡ num - s.position_offset) → (i : ℕ) → get_or counts i 0 ≤ max most (min left 4294967295)
rest_bounded num s counts most left later is i = later.above (min left 4294967295) few i
  where
    few : (j : ℕ) → get_or later.rest j 0 ≤ min left 4294967295
    few j = (let all = later.told.total in let small = below_sum later.rest j in let fit = later.told.fit j in let same = is (omega (arith, all)) in omega (arith, all, small, fit, same))

-- and all are within how many positions there are
pub rest_fits : (num : ℕ) (s : Skips) (counts : List ℕ) (most left : ℕ) → Later num s counts most → (s.position_offset ≤ num → left ≡ num - s.position_offset) → max most (min left 4294967295) ≤ num
rest_fits num s counts most left later is = (let all = later.told.total in let so_far = later.fits in let same = is (omega (arith, all)) in omega (arith, all, so_far, same))

-- ---- what an entry tells

abbrev sum_in : BlockInfo → ℕ
sum_in (VInt rest) = 0
sum_in (BitPacked doc_width count_width count_sum least_id greatest_count) = count_sum

abbrev greatest_in : BlockInfo → ℕ
greatest_in (VInt rest) = 0
greatest_in (BitPacked doc_width count_width count_sum least_id greatest_count) = greatest_count

pub record First (left : List SkipEntry) (count_sum greatest_count : ℕ) : Type 0 where
  pub entry : SkipEntry
  pub others : List SkipEntry
  pub left_is : left ≡ entry ∷ others
  pub bound_is : entry_bound entry ≡ (if nat_eq greatest_count 255 then count_sum else greatest_count)

pub first_told : (left : List SkipEntry) (rest a b c d e : ℕ) → info_of left rest ≡ BitPacked a b c d e → First left c e
first_told [] rest a b c d e is = absurd cc
first_told (x ∷ xs) rest a b c d e is = record {
  entry = x;
  others = xs;
  left_is = refl;
  bound_is = ap (λ n. if nat_eq n 255 then x.count_sum else n) (ap greatest_in is) ∙ ap (λ n. if nat_eq e 255 then n else e) (ap sum_in is);
}

-- ---- behind some blocks

record Behind (option : IndexRecordOption) (ids : List ℕ) (left : List SkipEntry) (counts : List ℕ) : Type 0 where
  blocks : ℕ
  next : ℕ
  docs : List ℕ
  are : left ≡ skip_entries option ids blocks next docs counts

behind : (option : IndexRecordOption) (ids : List ℕ) (k n next : ℕ) (docs counts : List ℕ) → Behind option ids (drop k (skip_entries option ids n next docs counts)) (drop (128 * k) counts)
behind option ids zero n next docs counts = record { blocks = n; next = next; docs = docs; are = refl }
behind option ids (suc k) zero next docs counts = record { blocks = 0; next = next; docs = docs; are = refl }
behind option ids (suc k) (suc n) next docs counts =
    let later = behind option ids k n (next_after docs) (drop 128 docs) (drop 128 counts) in
    let more : 128 + 128 * k ≡ 128 * suc k = omega arith in
    record {
      blocks = later.blocks;
      next = later.next;
      docs = later.docs;
      are = later.are ∙ ap (λ xs. skip_entries option ids later.blocks later.next later.docs xs) (drop-drop (128 * k) 128 counts ∙ ap (λ j. drop j counts) more);
    }

-- the entries that are left still tell the counts that are
pub still_told : (k num : ℕ) (s t : Skips) (counts rest : List ℕ) → t.left ≡ drop k s.left → rest ≡ drop (128 * k) counts → t.position_offset + sum rest ≤ s.position_offset + sum counts → TellCounts num s counts → TellCounts num t rest
still_told k num s t counts rest left are room told =
    let there = behind told.option told.ids k told.blocks told.next told.docs counts in
    record {
      option = told.option;
      ids = told.ids;
      blocks = there.blocks;
      next = there.next;
      docs = there.docs;
      entries = left ∙ ap (drop k) told.entries ∙ there.are ∙ ap (λ xs. skip_entries told.option told.ids there.blocks there.next there.docs xs) (sym are);
      positions = told.positions;
      fit = λ i. subst (λ xs. get_or xs i 0 < 2 ^ 32) (sym are) (fits_behind (128 * k) counts told.fit i);
      total = (let all = told.total in omega (arith, room, all));
    }

-- the positions that they count are there
pub told_room : (num : ℕ) (s : Skips) (counts : List ℕ) → ∥ TellCounts num s counts ∥₁ → s.position_offset + sum counts ≤ num
told_room num s counts told = ∥∥₁_elim told (hlevel props) (λ known. known.total)
