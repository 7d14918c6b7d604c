-- Documents and counts after the full blocks, walked number by number.
use Rattle.std.proofs.Common.{[], Bool, List, None, Option, Some, ap, ap₂, arith, false, refl, subst, suc, sum, sym, true, ◌&&◌, ◌+◌, ◌-◌, ◌<◌, ◌≡◌, ◌≤◌, ◌∙◌, ◌∷◌, ◌^◌, ℕ}
use Rattle.std.proofs.lemmas.Bool.Decides.{nat_tests}
use Rattle.std.proofs.lemmas.List.Sums.{sum_by-cons}
use Rattle.std.specs.List.{AllByRecursion, list_all}
use Rattle.definitions.specs.Json.{only_if, ◌>>=◌}
use Rattle.definitions.specs.NumberCodes.{AreBytes}
use Rattle.definitions.specs.Schema.{IndexRecordOption, has_freq}
use Rattle.layouts.specs.Deltas.{documents, next_of}
use Rattle.layouts.specs.TermPostings.{less_1}
use Rattle.layouts.specs.VintBlocks.{is_u32, take_documents, take_number, take_numbers}
use Rattle.codes.proofs.VintLists.{before}
use Rattle.codes.proofs.VintListLaws.{kept, some_if}
use Rattle.common.proofs.TakenBack.{string_of as list_in}
use Rattle.segment_postings.proofs.BlockChecks.{counts_are_more, fit_small}
use Rattle.segment_postings.proofs.RestChecks.{left_in, rest_counts_read, rest_counts_taken}
use Rattle.segment_postings.specs.Blocks.{BeginsWithDocs, HasCounts, HasRestCounts, more_1}

-- ---- one number

-- a number stands first, and others behind it
first_more : (n x : ℕ) (bytes after : List ℕ) → take_number bytes ≡ Some (x, after) → take_numbers (suc n) bytes ≡ before x (take_numbers n after)
first_more n x bytes after first = ap (λ o. o >>= (λ p. before p.0 (take_numbers n p.1))) first

first_none : (n : ℕ) (bytes : List ℕ) → take_number bytes ≡ None → take_numbers (suc n) bytes ≡ None
first_none n bytes none = ap (λ o. o >>= (λ p. before p.0 (take_numbers n p.1))) none

-- what stands behind a number
record Behind (n x : ℕ) (numbers after left : List ℕ) : Type 0 where
  others : List ℕ
  is : numbers ≡ x ∷ others
  taken : take_numbers n after ≡ Some (others, left)

behind : (n x : ℕ) (bytes after numbers left : List ℕ) → take_number bytes ≡ Some (x, after) → take_numbers (suc n) bytes ≡ Some (numbers, left) → Behind n x numbers after left
behind n x bytes after numbers left first taken = go (take_numbers n after) refl (sym (first_more n x bytes after first) ∙ taken)
  where
    go : (o : Option (List ℕ × List ℕ)) → take_numbers n after ≡ o → before x o ≡ Some (numbers, left) → Behind n x numbers after left
    go None e is = cc
    go (Some (others, end)) e is =
        let whole : Some (x ∷ others, end) ≡ Some (numbers, left) = is in
        record { others = others; is = sym (ap list_in whole); taken = e ∙ ap (λ r. Some (others, r)) (ap left_in whole) }

not_taken : (n : ℕ) (bytes numbers left : List ℕ) → take_number bytes ≡ None → take_numbers (suc n) bytes ≡ Some (numbers, left) → ⊥
not_taken n bytes numbers left none taken = (let apart : ◌≡◌ {A = Option (List ℕ × List ℕ)} None (Some (numbers, left)) = sym (first_none n bytes none) ∙ taken in absurd cc)

-- ---- documents

docs_more : (num next n x : ℕ) (bytes after left : List ℕ) → take_number bytes ≡ Some (x, after) → next + x < num → BeginsWithDocs num (next + x + 1) n after left → BeginsWithDocs num next (suc n) bytes left
docs_more num next n x bytes after left first less r = record {
  deltas = x ∷ r.deltas;
  taken = first_more n x bytes after first ∙ ap (λ o. before x o) r.taken;
  within = (less, r.within);
}

docs_less : (num next n x : ℕ) (bytes after left : List ℕ) → take_number bytes ≡ Some (x, after) → BeginsWithDocs num next (suc n) bytes left → (next + x < num) × BeginsWithDocs num (next + x + 1) n after left
docs_less num next n x bytes after left first r =
    let b = behind n x bytes after r.deltas left first r.taken in
    let within = subst (λ xs. AllByRecursion (λ doc. doc < num) (documents next xs)) b.is r.within in
    (within.0, record { deltas = b.others; taken = b.taken; within = within.1 })

-- the documents so far stand first, and what is left decides
pub record WalksDocs (num next count : ℕ) (bytes : List ℕ) (i least : ℕ) (rest : List ℕ) : Type 0 where
  pub sound : (left : List ℕ) → BeginsWithDocs num least (count - i) rest left → BeginsWithDocs num next count bytes left
  pub complete : (left : List ℕ) → BeginsWithDocs num next count bytes left → BeginsWithDocs num least (count - i) rest left

one_of : (count i : ℕ) → i < count → count - i ≡ suc (count - (i + 1))
one_of count i more = omega (arith, more)

pub walks_more : (num next count : ℕ) (bytes : List ℕ) (i least : ℕ) (rest : List ℕ) (x : ℕ) (after : List ℕ) → WalksDocs num next count bytes i least rest → i < count → take_number rest ≡ Some (x, after) → least + x < num → WalksDocs num next count bytes (i + 1) (least + x + 1) after
walks_more num next count bytes i least rest x after w more first less =
    let same = one_of count i more in
    record {
      sound = λ left r. w.sound left (subst (λ k. BeginsWithDocs num least k rest left) (sym same) (docs_more num least (count - (i + 1)) x rest after left first less r));
      complete = λ left r. (docs_less num least (count - (i + 1)) x rest after left first (subst (λ k. BeginsWithDocs num least k rest left) same (w.complete left r))).1;
    }

pub walks_past : (num next count : ℕ) (bytes : List ℕ) (i least : ℕ) (rest : List ℕ) (x : ℕ) (after left : List ℕ) → WalksDocs num next count bytes i least rest → i < count → take_number rest ≡ Some (x, after) → num ≤ least + x → BeginsWithDocs num next count bytes left → ⊥
walks_past num next count bytes i least rest x after left w more first past r =
    let d = docs_less num least (count - (i + 1)) x rest after left first (subst (λ k. BeginsWithDocs num least k rest left) (one_of count i more) (w.complete left r)) in
    let less = d.0 in
    absurd (omega (arith, less, past))

pub walks_unread : (num next count : ℕ) (bytes : List ℕ) (i least : ℕ) (rest left : List ℕ) → WalksDocs num next count bytes i least rest → i < count → take_number rest ≡ None → BeginsWithDocs num next count bytes left → ⊥
walks_unread num next count bytes i least rest left w more none r =
    let d = subst (λ k. BeginsWithDocs num least k rest left) (one_of count i more) (w.complete left r) in
    not_taken (count - (i + 1)) rest d.deltas left none d.taken

pub walks_all : (num next count : ℕ) (bytes : List ℕ) (i least : ℕ) (rest : List ℕ) → WalksDocs num next count bytes i least rest → count ≤ i → BeginsWithDocs num next count bytes rest
walks_all num next count bytes i least rest w all =
    let none : count - i ≡ 0 = omega (arith, all) in
    w.sound rest (subst (λ k. BeginsWithDocs num least k rest rest) (sym none) (record { deltas = []; taken = refl; within = tt }))

-- ---- documents behind an offset

all_u32 : (num : ℕ) (xs : List ℕ) → num ≤ 2 ^ 32 → AllByRecursion (λ d. d < num) xs → list_all is_u32 xs ≡ true
all_u32 num [] few all = refl
all_u32 num (x ∷ xs) few all =
    let below = all.0 in
    let small : x < 2 ^ 32 = omega (arith, below, few) in
    let e : is_u32 x ≡ true = grind (arith, nat_tests) in
    ap₂ (λ a b. a && b) e (all_u32 num xs few all.1)

pub docs_taken : (num before n : ℕ) (bytes left : List ℕ) → num ≤ 2 ^ 32 → (r : BeginsWithDocs num (next_of before) n bytes left) → take_documents before n bytes ≡ Some (documents (next_of before) r.deltas, left)
docs_taken num before n bytes left few r =
    let next = next_of before in
    ap (λ o. o >>= kept next) r.taken
    ∙ ap (λ t. only_if t (Some (documents next r.deltas, left))) (all_u32 num (documents next r.deltas) few r.within)

pub docs_begin : (num before n : ℕ) (bytes docs left : List ℕ) → take_documents before n bytes ≡ Some (docs, left) → AllByRecursion (λ d. d < num) docs → BeginsWithDocs num (next_of before) n bytes left
docs_begin num before n bytes docs left taken within = go (take_numbers n bytes) refl taken
  where
    of_some : (xs more : List ℕ) (t : Bool) → take_numbers n bytes ≡ Some (xs, more) → some_if t (documents (next_of before) xs, more) ≡ Some (docs, left) → BeginsWithDocs num (next_of before) n bytes left
    of_some xs more false first is = cc
    of_some xs more true first is =
        let whole : Some (documents (next_of before) xs, more) ≡ Some (docs, left) = is in
        record {
          deltas = xs;
          taken = first ∙ ap (λ r. Some (xs, r)) (ap left_in whole);
          within = subst (λ ds. AllByRecursion (λ d. d < num) ds) (sym (ap list_in whole)) within;
        }

    go : (o : Option (List ℕ × List ℕ)) → take_numbers n bytes ≡ o → (o >>= kept (next_of before)) ≡ Some (docs, left) → BeginsWithDocs num (next_of before) n bytes left
    go None e is = cc
    go (Some (xs, more)) e is = of_some xs more (list_all is_u32 (documents (next_of before) xs)) e is

-- ---- counts

counts_more : (n x t : ℕ) (bytes after : List ℕ) → take_number bytes ≡ Some (x, after) → x + 1 < 2 ^ 32 → HasCounts n after t → HasCounts (suc n) bytes (x + 1 + t)
counts_more n x t bytes after first few h =
    let total : sum ((x + 1) ∷ more_1 h.numbers) ≡ x + 1 + sum (more_1 h.numbers) = sum_by-cons (λ y. y) (x + 1) (more_1 h.numbers) in
    let is = h.total_is in
    record {
      numbers = x ∷ h.numbers;
      taken = first_more n x bytes after first ∙ ap (λ o. before x o) h.taken;
      fit = (few, h.fit);
      total_is = omega (arith, total, is);
    }

counts_less : (n x t : ℕ) (bytes after : List ℕ) → take_number bytes ≡ Some (x, after) → HasCounts (suc n) bytes t → (x + 1 < 2 ^ 32) × HasCounts n after (t - (x + 1))
counts_less n x t bytes after first h =
    let b = behind n x bytes after h.numbers [] first h.taken in
    let fit = subst (λ xs. AllByRecursion (λ k. k < 2 ^ 32) (more_1 xs)) b.is h.fit in
    let whole : t ≡ sum (more_1 (x ∷ b.others)) = h.total_is ∙ ap (λ xs. sum (more_1 xs)) b.is in
    let total : sum ((x + 1) ∷ more_1 b.others) ≡ x + 1 + sum (more_1 b.others) = sum_by-cons (λ y. y) (x + 1) (more_1 b.others) in
    (fit.0, record { numbers = b.others; taken = b.taken; fit = fit.1; total_is = omega (arith, total, whole) })

-- the counts so far stand first, and what is left decides
pub record WalksCounts (count : ℕ) (bytes : List ℕ) (i total : ℕ) (rest : List ℕ) : Type 0 where
  pub sound : (t : ℕ) → HasCounts (count - i) rest t → HasCounts count bytes (total + t)
  pub complete : (t : ℕ) → HasCounts count bytes t → HasCounts (count - i) rest (t - total)

pub counts_step : (count : ℕ) (bytes : List ℕ) (i total : ℕ) (rest : List ℕ) (x : ℕ) (after : List ℕ) → WalksCounts count bytes i total rest → i < count → take_number rest ≡ Some (x, after) → x + 1 < 2 ^ 32 → WalksCounts count bytes (i + 1) (total + (x + 1)) after
counts_step count bytes i total rest x after w more first few =
    let same = one_of count i more in
    record {
      sound = λ t h. (let sum_is : total + (x + 1 + t) ≡ total + (x + 1) + t = omega arith in subst (λ u. HasCounts count bytes u) sum_is (w.sound (x + 1 + t) (subst (λ k. HasCounts k rest (x + 1 + t)) (sym same) (counts_more (count - (i + 1)) x t rest after first few h))));
      complete = λ t h. (let left_is : t - total - (x + 1) ≡ t - (total + (x + 1)) = omega arith in subst (λ u. HasCounts (count - (i + 1)) after u) left_is (counts_less (count - (i + 1)) x (t - total) rest after first (subst (λ k. HasCounts k rest (t - total)) same (w.complete t h))).1);
    }

pub counts_past : (count : ℕ) (bytes : List ℕ) (i total : ℕ) (rest : List ℕ) (x t : ℕ) (after : List ℕ) → WalksCounts count bytes i total rest → i < count → take_number rest ≡ Some (x, after) → 2 ^ 32 ≤ x + 1 → HasCounts count bytes t → ⊥
counts_past count bytes i total rest x t after w more first past h =
    let d = counts_less (count - (i + 1)) x (t - total) rest after first (subst (λ k. HasCounts k rest (t - total)) (one_of count i more) (w.complete t h)) in
    let less = d.0 in
    absurd (omega (arith, less, past))

pub counts_unread : (count : ℕ) (bytes : List ℕ) (i total : ℕ) (rest : List ℕ) (t : ℕ) → WalksCounts count bytes i total rest → i < count → take_number rest ≡ None → HasCounts count bytes t → ⊥
counts_unread count bytes i total rest t w more none h =
    let d = subst (λ k. HasCounts k rest (t - total)) (one_of count i more) (w.complete t h) in
    not_taken (count - (i + 1)) rest d.numbers [] none d.taken

nothing_behind : (rest : List ℕ) (t : ℕ) → HasCounts 0 rest t → rest ≡ []
nothing_behind rest t h = ap left_in h.taken

pub counts_over : (count : ℕ) (bytes : List ℕ) (i total : ℕ) (rest : List ℕ) (t : ℕ) → WalksCounts count bytes i total rest → count ≤ i → HasCounts count bytes t → rest ≡ []
counts_over count bytes i total rest t w all h =
    let none : count - i ≡ 0 = omega (arith, all) in
    nothing_behind rest (t - total) (subst (λ k. HasCounts k rest (t - total)) none (w.complete t h))

pub counts_all : (count : ℕ) (bytes : List ℕ) (i total : ℕ) (rest : List ℕ) → WalksCounts count bytes i total rest → count ≤ i → rest ≡ [] → HasCounts count bytes total
counts_all count bytes i total rest w all end =
    let none : count - i ≡ 0 = omega (arith, all) in
    let sum_is : total + 0 ≡ total = omega arith in
    let nothing : HasCounts 0 [] 0 = record { numbers = []; taken = refl; fit = tt; total_is = refl } in
    subst (λ u. HasCounts count bytes u) sum_is (w.sound 0 (subst (λ k. HasCounts k rest 0) (sym none) (subst (λ xs. HasCounts 0 xs 0) (sym end) nothing)))

-- ---- counts of documents

pub counts_stand : (option : IndexRecordOption) (n : ℕ) (bytes : List ℕ) (total : ℕ) → has_freq option ≡ true → AreBytes bytes → HasCounts n bytes total → HasRestCounts option n bytes total
counts_stand option n bytes total recorded digits h = rest_counts_read option n bytes h.numbers total recorded digits h.taken h.fit h.total_is

pub counts_held : (option : IndexRecordOption) (n : ℕ) (bytes : List ℕ) (total : ℕ) → has_freq option ≡ true → HasRestCounts option n bytes total → HasCounts n bytes total
counts_held option n bytes total recorded h =
    let back : more_1 (less_1 h.counts) ≡ h.counts = counts_are_more h.counts h.counts_are.fit in
    record {
      numbers = less_1 h.counts;
      taken = rest_counts_taken option n bytes total recorded h;
      fit = subst (λ xs. AllByRecursion (λ k. k < 2 ^ 32) xs) (sym back) (fit_small h.counts h.counts_are.fit);
      total_is = h.total_is ∙ ap sum (sym back);
    }
