-- Blocks that are passed.
use Rattle.std.proofs.Common.{[], Bool, List, None, Option, Some, ap, arith, cond, drop, false, get_or, length, length-append, length-drop, length-take, nat_eq, nat_lt, refl, replicate, subst, suc, sum, sym, take, true, zero, ◌*◌, ◌++◌, ◌+◌, ◌-◌, ◌/◌, ◌%◌, ◌<◌, ◌≡◌, ◌≤◌, ◌∙◌, ◌∷◌, ◌^◌, ℕ}
use Rattle.std.proofs.lemmas.Bool.Decides.{nat_tests}
use Rattle.std.proofs.lemmas.List.{drop-drop, drop_all, get_or-replicate, get_or_append_left, length-map, length-replicate}
use Rattle.std.proofs.lemmas.List.Sums.{prefix_len-le-length, sum_by-append, sum_by-take-drop}
use Rattle.definitions.specs.Json.{only_if, ◌>>=◌}
use Rattle.definitions.specs.Postings.{terminated}
use Rattle.codes.proofs.AscendingNumbers.{ascends_least}
use Rattle.codes.proofs.StrictDeltaSums.{ascending-documents}
use Rattle.codes.proofs.VintListLaws.{length-documents}
use Rattle.codes.specs.UnpackedBlocks.{unpacked}
use Rattle.layouts.specs.Deltas.{IsAscendingFrom, documents, next_of}
use Rattle.layouts.specs.SkipEntries.{SkipEntry}
use Rattle.layouts.specs.VintBlocks.{is_u32, take_documents, take_number, take_numbers}
use Rattle.std.specs.List.{list_all}
use Rattle.std.proofs.Math.Seq.{take-nil}
use Rattle.segment_postings.proofs.BlockLists.{length-block_counts, length-block_docs}
use Rattle.segment_postings.proofs.HeldBlocks.{none_above_last}
use Rattle.segment_postings.specs.Reading.{AreReadable, Ascends, IsHeld, StandsIn, below, block_counts, block_docs, counts_at, counts_in, docs_at, docs_in, found, rest_counts, rest_docs}
use Rattle.segment_postings.proofs.Lists.{behind, first_of}
use Rattle.segment_postings.specs.TermEntryLaws.{Ascends-from_lower}
use Rattle.codes.specs.SkipBlocks.{Skips, block_size, ended, last_doc, passed}

-- ---- how many documents the rest has

taken_at_most : (n : ℕ) (bs : List ℕ) → length (found (take_numbers n bs)).0 ≤ n
taken_at_most zero bs = omega arith
taken_at_most (suc n) bs = go (take_number bs) (λ left. taken_at_most n left)
  where
    more : (x : ℕ) (ys : List ℕ) (o : Option (List ℕ × List ℕ)) → length (found o).0 ≤ n → length (found (o >>= (λ q. Some (x ∷ q.0, q.1)))).0 ≤ suc n
    more x ys None few = omega arith
    more x ys (Some q) few = omega (arith, few)

    go : (o : Option (ℕ × List ℕ)) → ((left : List ℕ) → length (found (take_numbers n left)).0 ≤ n) → length (found (o >>= (λ p. take_numbers n p.1 >>= (λ q. Some (p.0 ∷ q.0, q.1))))).0 ≤ suc n
    go None few = omega arith
    go (Some p) few = more p.0 p.1 (take_numbers n p.1) (few p.1)

pub rest_at_most : (before n : ℕ) (bs : List ℕ) → length (rest_docs before n bs) ≤ n
rest_at_most before n bs = go (take_numbers n bs) (taken_at_most n bs)
  where
    one : (b : Bool) (ds rest : List ℕ) → length ds ≤ n → length (found (only_if {A = List ℕ × List ℕ} b (Some (ds, rest)))).0 ≤ n
    one true ds rest few = few
    one false ds rest few = omega arith

    go : (o : Option (List ℕ × List ℕ)) → length (found o).0 ≤ n → length (found (o >>= (λ p. only_if (list_all is_u32 (documents (next_of before) p.0)) (Some (documents (next_of before) p.0, p.1))))).0 ≤ n
    go None few = omega arith
    go (Some p) few = one (list_all is_u32 (documents (next_of before) p.0)) (documents (next_of before) p.0) p.1 (omega (arith, few, length-documents (next_of before) p.0))

-- ---- one block

-- from one block to the one after it
pub record Step (reads sums : Bool) (before : ℕ) (s : Skips) (after : ℕ) (t : Skips) (bytes : List ℕ) : Type 0 where
  pub stands : StandsIn reads sums after t bytes
  pub docs : docs_at after t bytes ≡ drop 128 (docs_at before s bytes)
  pub counts : counts_at reads after t bytes ≡ drop 128 (counts_at reads before s bytes)
  pub passes : (target : ℕ) → last_doc s.left < target → target ≤ terminated → below target (docs_at before s bytes) ≡ 128 + below target (docs_at after t bytes)
  pub offset : sums ≡ true → t.position_offset ≡ s.position_offset + sum (take 128 (counts_at reads before s bytes))

abbrev pub reader : Bool → Bool → List SkipEntry → ℕ → ℕ → ℕ → Skips
reader c p l r b q = record { counts = c; positions = p; left = l; rest = r; byte_offset = b; position_offset = q }

-- all documents of a list are below one
below_all : (target : ℕ) (xs ys : List ℕ) → ((i : ℕ) → i < length xs → get_or xs i 0 < target) → below target (xs ++ ys) ≡ length xs + below target ys
below_all target [] ys all = omega arith
below_all target (x ∷ xs) ys all =
    let here : x < target = all 0 (omega arith) in
    let yes : nat_lt x target ≡ true = grind (arith, nat_tests) in
    let ih = below_all target xs ys (λ i h. all (suc i) (omega (arith, h))) in
    ap (λ b. cond b (1 + below target (xs ++ ys)) 0) yes ∙ (let e : 1 + below target (xs ++ ys) ≡ suc (length xs) + below target ys = omega (arith, ih) in e)

-- a document isn't below one
pub below_stops : (target i : ℕ) (xs : List ℕ) → i < length xs → target ≤ get_or xs i 0 → below target xs ≤ i
below_stops target i [] within late = absurd (omega arith)
below_stops target zero (x ∷ xs) within late = (let no : nat_lt x target ≡ false = grind (arith, nat_tests) in let e : below target (x ∷ xs) ≡ 0 = ap (λ b. cond b (1 + below target xs) 0) no in omega (arith, e))
below_stops target (suc i) (x ∷ xs) within late = go (nat_lt x target) (below_stops target i xs (omega arith) late)
  where
    go : (b : Bool) → below target xs ≤ i → cond b (1 + below target xs) 0 ≤ suc i
    go true few = omega (arith, few)
    go false few = omega arith

step_full : (reads sums : Bool) (before : ℕ) (c p : Bool) (l : List SkipEntry) (r b q : ℕ) (bytes : List ℕ) → StandsIn reads sums before (reader c p l r b q) bytes → 0 < length l → Step reads sums before (reader c p l r b q) (last_doc l) (passed 1 (reader c p l r b q)) bytes
step_full reads sums before c p [] r b q bytes stands some = absurd (omega arith)
step_full reads sums before c p (e ∷ es) r b q bytes stands some =
    let here = drop b bytes in
    let size = block_size e in
    let index : b + (size + 0) ≡ b + size = omega arith in
    let next : drop (b + (size + 0)) bytes ≡ drop size here = ap (λ k. drop k bytes) index ∙ sym (drop-drop size b bytes) in
    let first = block_docs before e.doc_width here in
    let first_counts = block_counts reads e.count_width (drop (16 * e.doc_width) here) in
    let long = length-block_docs before e.doc_width here in
    let long_counts = length-block_counts reads e.count_width (drop (16 * e.doc_width) here) in
    let block = stands.readable.0 in
    let room = block.room in
    let docs_are : docs_in e.last_doc es r (drop (b + (size + 0)) bytes) ≡ docs_in e.last_doc es r (drop size here) = ap (λ xs. docs_in e.last_doc es r xs) next in
    let counts_are : counts_in reads e.last_doc es r (drop (b + (size + 0)) bytes) ≡ counts_in reads e.last_doc es r (drop size here) = ap (λ xs. counts_in reads e.last_doc es r xs) next in
    record {
      stands = record {
        within = (let w = stands.within in omega (arith, room, w, length-drop b bytes));
        readable = subst (λ xs. AreReadable reads sums e.last_doc es r xs) (sym next) stands.readable.1;
      };
      docs = docs_are ∙ sym (behind 128 first (docs_in e.last_doc es r (drop size here)) long);
      counts = counts_are ∙ sym (behind 128 first_counts (counts_in reads e.last_doc es r (drop size here)) long_counts);
      passes = λ target early few.
          (let all : (i : ℕ) → i < length first → get_or first i 0 < target = λ i h. (let most = none_above_last before e.doc_width here i in let last = block.last in omega (arith, most, last, early)) in
          let whole = below_all target first (docs_in e.last_doc es r (drop size here)) all in
          let same = ap (below target) docs_are in
          omega (arith, whole, long, same));
      offset = λ yes.
          (let total = block.sum_is yes in
          let taken = ap sum (first_of 128 first_counts (counts_in reads e.last_doc es r (drop size here)) long_counts) in
          omega (arith, total, taken));
    }

pub step_on : (reads sums : Bool) (before : ℕ) (s : Skips) (bytes : List ℕ) → StandsIn reads sums before s bytes → 0 < length s.left → Step reads sums before s (last_doc s.left) (passed 1 s) bytes
step_on reads sums before s bytes stands some = step_full reads sums before s.counts s.positions s.left s.rest s.byte_offset s.position_offset bytes stands some

-- ---- behind the rest

rest_counts_at_most : (reads : Bool) (n : ℕ) (bs : List ℕ) → length (rest_counts reads n bs) ≤ n
rest_counts_at_most true n bs = (let few = taken_at_most n bs in omega (arith, few, length-map (found (take_numbers n bs)).0 (λ k. k + 1)))
rest_counts_at_most false n bs = omega (arith, length-replicate {A = ℕ} n 1)

no_counts : (reads : Bool) (bs : List ℕ) → rest_counts reads 0 bs ≡ []
no_counts true bs = refl
no_counts false bs = refl

-- what is passed leaves room for what remains
pub room_of : (offset next k : ℕ) (counts left : List ℕ) → next ≡ offset + sum (take k counts) → left ≡ drop k counts → next + sum left ≤ offset + sum counts
room_of offset next k counts left is cut =
    let all = sum_by-take-drop (λ x. x) counts k in
    let same = ap sum cut in
    omega (arith, is, all, same)

-- the block after one, or the end behind the rest
pub record Moved (reads sums : Bool) (before : ℕ) (s : Skips) (after : ℕ) (t : Skips) (bytes : List ℕ) : Type 0 where
  pub stands : StandsIn reads sums after t bytes
  pub docs : docs_at after t bytes ≡ drop 128 (docs_at before s bytes)
  pub counts : counts_at reads after t bytes ≡ drop 128 (counts_at reads before s bytes)
  pub entries : t.left ≡ drop 1 s.left
  pub offset : sums ≡ true → 0 < length (docs_at after t bytes) → t.position_offset ≡ s.position_offset + sum (take 128 (counts_at reads before s bytes))
  pub room : sums ≡ true → t.position_offset + sum (counts_at reads after t bytes) ≤ s.position_offset + sum (counts_at reads before s bytes)

moved_behind : (reads sums : Bool) (before after : ℕ) (c p : Bool) (l : List SkipEntry) (r b q : ℕ) (bytes : List ℕ) → StandsIn reads sums before (reader c p l r b q) bytes → length l ≡ 0 → Moved reads sums before (reader c p l r b q) after (ended (reader c p l r b q)) bytes
moved_behind reads sums before after c p (e ∷ es) r b q bytes stands none = absurd (omega (arith, none))
moved_behind reads sums before after c p [] r b q bytes stands none =
    let here = drop b bytes in
    let few = stands.readable.count_fits in
    let some = rest_at_most before r here in
    let counted = rest_counts_at_most reads r (found (take_documents before r here)).1 in
    let no_more : (i : ℕ) → get_or (rest_counts reads 0 here) i 0 < 2 ^ 32 = λ i. subst (λ xs. get_or xs i 0 < 2 ^ 32) (sym (no_counts reads here)) (omega arith) in
    record {
      stands = record {
        within = stands.within;
        readable = record { count_fits = omega arith; docs = refl; small = λ i. omega arith; counts = λ yes. refl; counts_fit = no_more };
      };
      docs = sym (drop_all 128 (rest_docs before r here) (omega (arith, some, few)));
      counts = no_counts reads here ∙ sym (drop_all 128 (rest_counts reads r (found (take_documents before r here)).1) (omega (arith, counted, few)));
      entries = refl;
      offset = λ yes left. absurd (omega (arith, left));
      room = λ yes. (let none_left = ap sum (no_counts reads here) in omega (arith, none_left));
    }

pub moved_on : (reads sums : Bool) (before after : ℕ) (s t : Skips) (bytes : List ℕ) → StandsIn reads sums before s bytes → (0 < length s.left → t ≡ passed 1 s) → (length s.left ≡ 0 → t ≡ ended s) → after ≡ last_doc s.left → Moved reads sums before s after t bytes
moved_on reads sums before after s t bytes stands on over is = go (nat_lt 0 (length s.left)) refl
  where
    go : (more : Bool) → nat_lt 0 (length s.left) ≡ more → Moved reads sums before s after t bytes
    go true e =
        let some : 0 < length s.left = grind (arith, nat_tests) in
        let step = step_on reads sums before s bytes stands some in
        let moved : Moved reads sums before s (last_doc s.left) (passed 1 s) bytes = record { stands = step.stands; docs = step.docs; counts = step.counts; entries = refl; offset = λ yes left. step.offset yes; room = λ yes. room_of s.position_offset (passed 1 s).position_offset 128 (counts_at reads before s bytes) (counts_at reads (last_doc s.left) (passed 1 s) bytes) (step.offset yes) step.counts } in
        subst (λ u. Moved reads sums before s after u bytes) (sym (on some)) (subst (λ a. Moved reads sums before s a (passed 1 s) bytes) (sym is) moved)
    go false e =
        let none : length s.left ≡ 0 = grind (arith, nat_tests) in
        subst (λ u. Moved reads sums before s after u bytes) (sym (over none)) (moved_behind reads sums before after s.counts s.positions s.left s.rest s.byte_offset s.position_offset bytes stands none)

-- ---- many blocks

-- blocks that end before a document are passed, up to one that doesn't
pub record Passing (reads sums : Bool) (target before : ℕ) (s : Skips) (after : ℕ) (t : Skips) (bytes : List ℕ) (k : ℕ) : Type 0 where
  pub stands : StandsIn reads sums after t bytes
  pub docs : docs_at after t bytes ≡ drop (128 * k) (docs_at before s bytes)
  pub counts : counts_at reads after t bytes ≡ drop (128 * k) (counts_at reads before s bytes)
  pub entries : t.left ≡ drop k s.left
  pub passes : below target (docs_at before s bytes) ≡ 128 * k + below target (docs_at after t bytes)
  pub offset : sums ≡ true → t.position_offset ≡ s.position_offset + sum (take (128 * k) (counts_at reads before s bytes))

pub none_passed : (reads sums : Bool) (target before : ℕ) (s : Skips) (bytes : List ℕ) → StandsIn reads sums before s bytes → Passing reads sums target before s before s bytes 0
none_passed reads sums target before s bytes stands = record { stands = stands; docs = refl; counts = refl; entries = refl; passes = omega arith; offset = λ yes. omega arith }

take_more_than : (m n : ℕ) (xs : List ℕ) → take (m + n) xs ≡ take m xs ++ take n (drop m xs)
take_more_than zero n xs = (let e : 0 + n ≡ n = omega arith in ap (λ k. take k xs) e)
take_more_than (suc m) n [] = take-nil (suc m + n) ∙ sym (take-nil n)
take_more_than (suc m) n (x ∷ xs) = (let e : suc m + n ≡ suc (m + n) = omega arith in ap (λ k. take k (x ∷ xs)) e ∙ ap (λ ys. x ∷ ys) (take_more_than m n xs))

pub sum_of_more : (m n : ℕ) (xs : List ℕ) → sum (take (m + n) xs) ≡ sum (take m xs) + sum (take n (drop m xs))
sum_of_more m n xs = ap sum (take_more_than m n xs) ∙ sum_by-append (λ x. x) (take m xs) (take n (drop m xs))

pub one_passed : (reads sums : Bool) (target before : ℕ) (s : Skips) (after : ℕ) (t : Skips) (next : ℕ) (u : Skips) (bytes : List ℕ) (k : ℕ) → Passing reads sums target before s after t bytes k → last_doc t.left < target → target ≤ terminated → next ≡ last_doc t.left → (0 < length t.left → u ≡ passed 1 t) → Passing reads sums target before s next u bytes (k + 1)
one_passed reads sums target before s after t next u bytes k so_far early few is on =
    let some = full_left t.left target early few in
    let step = step_on reads sums after t bytes so_far.stands some in
    let all = docs_at before s bytes in
    let all_counts = counts_at reads before s bytes in
    let index : 128 * k + 128 ≡ 128 * (k + 1) = omega arith in
    let passes = so_far.passes in
    let here = step.passes target early few in
    let P : ℕ → Skips → Type 0 = λ a v. Passing reads sums target before s a v bytes (k + 1) in
    let made : P (last_doc t.left) (passed 1 t) = record {
      stands = step.stands;
      docs = step.docs ∙ (ap (drop 128) so_far.docs ∙ (drop-drop 128 (128 * k) all ∙ ap (λ m. drop m all) index));
      counts = step.counts ∙ (ap (drop 128) so_far.counts ∙ (drop-drop 128 (128 * k) all_counts ∙ ap (λ m. drop m all_counts) index));
      entries = ap (drop 1) so_far.entries ∙ drop-drop 1 k s.left;
      passes = omega (arith, passes, here);
      offset = λ yes.
          (let before_it = so_far.offset yes in
          let it = step.offset yes in
          let total = sum_of_more (128 * k) 128 all_counts in
          let whole = ap (λ m. sum (take m all_counts)) index in
          let same = ap (λ xs. sum (take 128 xs)) so_far.counts in
          omega (arith, before_it, it, total, whole, same));
    } in
    subst (λ v. P next v) (sym (on some)) (subst (λ a. P a (passed 1 t)) (sym is) made)
  where
    full_left : (l : List SkipEntry) (target : ℕ) → last_doc l < target → target ≤ terminated → 0 < length l
    full_left [] target early few = absurd (omega (arith, early, few))
    full_left (e ∷ es) target early few = omega arith

-- where a block doesn't end before the document, fewer than 128 documents do
pub stops_here : (reads sums : Bool) (target before : ℕ) (s : Skips) (bytes : List ℕ) → StandsIn reads sums before s bytes → target ≤ last_doc s.left → below target (docs_at before s bytes) < 128
stops_here reads sums target before s bytes stands late = go s.left s.rest (drop s.byte_offset bytes) stands.readable late
  where
    go : (l : List SkipEntry) (n : ℕ) (here : List ℕ) → AreReadable reads sums before l n here → target ≤ last_doc l → below target (docs_in before l n here) < 128
    go [] n here readable late = (let few = readable.count_fits in let some = rest_at_most before n here in let most = prefix_len-le-length (λ d. nat_lt d target) (rest_docs before n here) in omega (arith, few, some, most))
    go (e ∷ es) n here readable late =
        let first = block_docs before e.doc_width here in
        let long = length-block_docs before e.doc_width here in
        let more = docs_in e.last_doc es n (drop (block_size e) here) in
        let last = readable.0.last in
        let at : get_or (first ++ more) 127 0 ≡ get_or first 127 0 = get_or_append_left first more 0 127 (omega (arith, long)) in
        let within : 127 < length (first ++ more) = omega (arith, length-append first more, long) in
        let stop = below_stops target 127 (first ++ more) within (omega (arith, at, last, late)) in
        omega (arith, stop)

-- what was passed is told by how many documents are below
pub all_passed : (reads sums : Bool) (target before : ℕ) (s : Skips) (after : ℕ) (t : Skips) (bytes : List ℕ) (k : ℕ) → Passing reads sums target before s after t bytes k → target ≤ last_doc t.left → (k ≡ below target (docs_at before s bytes) / 128) × (below target (docs_at after t bytes) ≡ below target (docs_at before s bytes) % 128)
all_passed reads sums target before s after t bytes k passing late =
    let rest = stops_here reads sums target after t bytes passing.stands late in
    let passes = passing.passes in
    (omega (arith, rest, passes), omega (arith, rest, passes))

-- ---- an index in a block

-- what is padded behind a block isn't below
pub below_padded : (n m target : ℕ) (docs : List ℕ) → target ≤ terminated → below target docs < n → below target (take n docs ++ replicate m terminated) ≡ below target docs
below_padded zero m target docs small few = absurd (omega (arith, few))
below_padded (suc n) m target [] small few = padding m
  where
    padding : (k : ℕ) → below target (replicate k terminated) ≡ 0
    padding zero = refl
    padding (suc k) = (let no : nat_lt terminated target ≡ false = grind (arith, nat_tests) in ap (λ b. cond b (1 + below target (replicate k terminated)) 0) no)
below_padded (suc n) m target (d ∷ ds) small few = go (nat_lt d target) refl (below_padded n m target ds small)
  where
    go : (b : Bool) → nat_lt d target ≡ b → (below target ds < n → below target (take n ds ++ replicate m terminated) ≡ below target ds) → cond b (1 + below target (take n ds ++ replicate m terminated)) 0 ≡ cond b (1 + below target ds) 0
    go false e ih = refl
    go true e ih =
        let whole : below target (d ∷ ds) ≡ 1 + below target ds = ap (λ b. cond b (1 + below target ds) 0) e in
        ap (λ k. 1 + k) (ih (omega (arith, few, whole)))

-- ---- a block that is held

pub below_held : (target len : ℕ) (docs counts all all_counts : List ℕ) → IsHeld docs counts len all all_counts → target ≤ terminated → below target all < 128 → (below target docs ≡ below target all) × (below target docs < 128)
below_held target len docs counts all all_counts held small few =
    let same : below target docs ≡ below target all = ap (below target) held.docs_are ∙ below_padded 128 (128 - len) target all small few in
    (same, omega (arith, same, few))

not_padding : (m target index : ℕ) → target ≤ terminated → index < length (replicate m terminated) → get_or (replicate m terminated) index 0 < target → ⊥
not_padding m target index small within early = (let long = length-replicate {A = ℕ} m terminated in let is = get_or-replicate m index terminated 0 (omega (arith, within, long)) in omega (arith, is, small, early))

-- documents that are below one stand before the first that isn't, and what is padded behind them isn't below
order_padded : (n m low target index : ℕ) (docs : List ℕ) → Ascends low docs → target ≤ terminated → index < length (take n docs ++ replicate m terminated) → get_or (take n docs ++ replicate m terminated) index 0 < target → (low ≤ get_or (take n docs ++ replicate m terminated) index 0) × (index < below target (take n docs ++ replicate m terminated))
order_padded zero m low target index docs a small within early = absurd (not_padding m target index small within early)
order_padded (suc n) m low target index [] a small within early = absurd (not_padding m target index small within early)
order_padded (suc n) m low target zero (d ∷ ds) a small within early =
    let yes : nat_lt d target ≡ true = grind (arith, nat_tests) in
    let whole : below target (d ∷ take n ds ++ replicate m terminated) ≡ 1 + below target (take n ds ++ replicate m terminated) = ap (λ b. cond b (1 + below target (take n ds ++ replicate m terminated)) 0) yes in
    (a.0, omega (arith, whole))
order_padded (suc n) m low target (suc index) (d ∷ ds) a small within early =
    let ih = order_padded n m (d + 1) target index ds a.2 small (omega (arith, within)) early in
    let least = a.0 in
    let next = ih.0 in
    let some = ih.1 in
    let less : d < target = omega (arith, next, early) in
    let yes : nat_lt d target ≡ true = grind (arith, nat_tests) in
    let whole : below target (d ∷ take n ds ++ replicate m terminated) ≡ 1 + below target (take n ds ++ replicate m terminated) = ap (λ b. cond b (1 + below target (take n ds ++ replicate m terminated)) 0) yes in
    (omega (arith, least, next), omega (arith, whole, some))

-- documents of a block that are below one stand before the first that isn't
pub order_held : (target len : ℕ) (docs counts all all_counts : List ℕ) → IsHeld docs counts len all all_counts → Ascends 0 all → target ≤ terminated → (index : ℕ) → index < 128 → get_or docs index 0 < target → index < below target docs
order_held target len docs counts all all_counts held ascends small index within early =
    let same = held.docs_are in
    let len_is = held.len_is in
    let long = length-append (take 128 all) (replicate (128 - len) terminated) in
    let taken = length-take 128 all in
    let padded = length-replicate {A = ℕ} (128 - len) terminated in
    let at = ap (λ xs. get_or xs index 0) same in
    let first = (order_padded 128 (128 - len) 0 target index all ascends small (omega (arith, within, long, taken, padded, len_is)) (omega (arith, at, early))).1 in
    let whole = ap (below target) same in
    omega (arith, first, whole)

-- where a block ends before the document, all its documents are below
pub passes_some : (reads sums : Bool) (target before : ℕ) (s : Skips) (bytes : List ℕ) → StandsIn reads sums before s bytes → last_doc s.left < target → target ≤ terminated → 128 ≤ below target (docs_at before s bytes)
passes_some reads sums target before s bytes stands early few =
    let step = step_on reads sums before s bytes stands (some_left s.left early) in
    let passes = step.passes target early few in
    omega (arith, passes)
  where
    some_left : (l : List SkipEntry) → last_doc l < target → 0 < length l
    some_left [] h = absurd (omega (arith, h, few))
    some_left (e ∷ es) h = omega arith

-- ---- what can be read ascends

ascends_onto : (next stop : ℕ) (xs ys : List ℕ) → IsAscendingFrom next xs → ((i : ℕ) → i < length xs → get_or xs i 0 < stop) → next ≤ stop → stop ≤ terminated → Ascends stop ys → Ascends next (xs ++ ys)
ascends_onto next stop [] ys a small l few b = Ascends-from_lower next stop ys l b
ascends_onto next stop (x ∷ xs) ys a small l few b =
    let here : x < stop = small 0 (omega arith) in
    (a.0, omega (arith, here, few), ascends_onto (x + 1) stop xs ys a.1 (λ i h. small (suc i) (omega (arith, h))) (omega (arith, here)) few b)

rest_ascends : (before n : ℕ) (bs : List ℕ) → IsAscendingFrom (next_of before) (rest_docs before n bs)
rest_ascends before n bs = go (take_numbers n bs)
  where
    one : (b : Bool) (ds rest : List ℕ) → IsAscendingFrom (next_of before) ds → IsAscendingFrom (next_of before) (found (only_if {A = List ℕ × List ℕ} b (Some (ds, rest)))).0
    one true ds rest a = a
    one false ds rest a = tt

    go : (o : Option (List ℕ × List ℕ)) → IsAscendingFrom (next_of before) (found (o >>= (λ p. only_if (list_all is_u32 (documents (next_of before) p.0)) (Some (documents (next_of before) p.0, p.1))))).0
    go None = tt
    go (Some p) = one (list_all is_u32 (documents (next_of before) p.0)) (documents (next_of before) p.0) p.1 (ascending-documents (next_of before) p.0)

ascends_small : (next : ℕ) (docs : List ℕ) → IsAscendingFrom next docs → ((i : ℕ) → get_or docs i 0 < terminated) → Ascends next docs
ascends_small next [] a small = tt
ascends_small next (d ∷ ds) a small = (a.0, small 0, ascends_small (d + 1) ds a.1 (λ i. small (suc i)))

pub readable_ascends : (reads sums : Bool) (before : ℕ) (es : List SkipEntry) (n : ℕ) (bytes : List ℕ) → AreReadable reads sums before es n bytes → Ascends (next_of before) (docs_in before es n bytes)
readable_ascends reads sums before [] n bytes readable = ascends_small (next_of before) (rest_docs before n bytes) (rest_ascends before n bytes) readable.small
readable_ascends reads sums before (e ∷ es) n bytes readable =
    let first = block_docs before e.doc_width bytes in
    let long = length-block_docs before e.doc_width bytes in
    let ascends = ascending-documents (next_of before) (unpacked e.doc_width (take (16 * e.doc_width) bytes)) in
    let last = readable.0.last in
    let few = readable.0.small in
    let some = readable.0.last_positive in
    let all : (i : ℕ) → i < length first → get_or first i 0 < e.last_doc + 1 = λ i h. (let most = none_above_last before e.doc_width bytes i in omega (arith, most, last)) in
    let least = ascends_least (next_of before) first 0 ascends (omega (arith, long)) in
    let begins = all 0 (omega (arith, long)) in
    let later : Ascends (next_of e.last_doc) (docs_in e.last_doc es n (drop (block_size e) bytes)) = readable_ascends reads sums e.last_doc es n (drop (block_size e) bytes) readable.1 in
    let next : next_of e.last_doc ≡ e.last_doc + 1 = next_is e.last_doc some in
    ascends_onto (next_of before) (e.last_doc + 1) first (docs_in e.last_doc es n (drop (block_size e) bytes)) ascends all (omega (arith, least, begins)) (omega (arith, few)) (subst (λ k. Ascends k (docs_in e.last_doc es n (drop (block_size e) bytes))) next later)
  where
    next_is : (d : ℕ) → 0 < d → next_of d ≡ d + 1
    next_is d h = (let no : nat_eq d 0 ≡ false = grind (arith, nat_tests) in ap (λ b. cond b 0 (d + 1)) no)
