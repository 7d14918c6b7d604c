-- The postings of a term, document by document.
use Rattle.std.proofs.Common.{[], ap, ap₂, arith, Bool, drop, false, get_or, length, List, map, min, nat_eq, nat_le, refl, subst, suc, sum, sym, take, true, zero, ◌*◌, ◌++◌, ◌+◌, ◌/◌, ◌<◌, ◌≡◌, ◌≤◌, ◌^◌, ◌∙◌, ◌∷◌, ℕ, if◌then◌else◌, Err, Ok, inl, inr, OnOk, Option, Result}
use Rattle.std.proofs.Math.Seq.{drop-append_seam, get_or-append_seam, take-append_seam}
use Rattle.std.proofs.lemmas.Bool.Decides.{nat_tests}
use Rattle.std.proofs.lemmas.List.{append_assoc, append-nil, get_or_append_left, length-append, length-map, map-append, take_all}
use Rattle.codes.specs.UnpackedBlocks.{listed}
use Rattle.codes.proofs.StrictDeltaSums.{next_of_some}
use Rattle.std.specs.List.{AllByRecursion}
use Rattle.definitions.specs.Blocks.{block_len, least_of}
use Rattle.definitions.specs.NumberCodes.{sized_bytes}
use Rattle.definitions.specs.Postings.{terminated}
use Rattle.definitions.specs.Schema.{IndexRecordOption, has_freq, has_positions}
use Rattle.definitions.specs.declared.fault.Fault.{Fault}
use Rattle.layouts.specs.Deltas.{IsAscendingFrom, next_of}
use Rattle.layouts.specs.SkipEntries.{SkipEntry, entry_bytes, skip_bytes}
use Rattle.layouts.specs.TermPostings.{ArePosted, SumsFit, all_blocks, full_block, id_of, next_after, postings_bytes, rest_block, skip_data, skip_entries, skip_entry}
use Rattle.postings_writer.proofs.WaitingBlocks.{least_more}
use Rattle.postings_writer.specs.TermWriting.{AreWritten, Blocks, IsRefusal, IsSumRefusal, IsWriting, Waiting, Writing, begun, block_added, joined, least_after, nothing_waits, recorded_count, rest_added, term_bytes}

-- ---- ascending documents

pub ascending_more : (next : ℕ) (docs : List ℕ) (doc : ℕ) → IsAscendingFrom next docs → least_after next docs ≤ doc → IsAscendingFrom next (docs ++ doc ∷ [])
ascending_more next [] doc up least = (least, tt)
ascending_more next (d ∷ ds) doc up least = (up.0, ascending_more (d + 1) ds doc up.1 least)

pub least_after_last : (next : ℕ) (docs : List ℕ) (doc : ℕ) → least_after next (docs ++ doc ∷ []) ≡ doc + 1
least_after_last next [] doc = refl
least_after_last next (d ∷ ds) doc = least_after_last (d + 1) ds doc

index_least : (next : ℕ) (docs : List ℕ) (i : ℕ) → IsAscendingFrom next docs → i < length docs → next + i ≤ get_or docs i 0
index_least next [] i up within = absurd (omega arith)
index_least next (d ∷ ds) zero up within = omega (arith, up.0)
index_least next (d ∷ ds) (suc i) up within = (let later = index_least (d + 1) ds i up.1 (omega arith) in omega (arith, later, up.0))

-- the last of 128 documents isn't the first
pub last_is_some : (next : ℕ) (docs : List ℕ) → IsAscendingFrom next docs → length docs ≡ 128 → 0 < get_or docs 127 0
last_is_some next docs up long = omega (arith, index_least next docs 127 up (omega arith))

pub last_is : (docs : List ℕ) (doc : ℕ) → length (docs ++ doc ∷ []) ≡ 128 → get_or (docs ++ doc ∷ []) 127 0 ≡ doc
last_is docs doc long =
    let index : 127 ≡ length docs = omega (arith, length-append docs (doc ∷ [])) in
    ap (λ i. get_or (docs ++ doc ∷ []) i 0) index ∙ get_or-append_seam docs doc [] 0

-- ---- documents that were written

pub nothing_written : (mode option : IndexRecordOption) (norms : Option (List ℕ)) → AreWritten (begun mode option norms) [] []
nothing_written mode option norms = record {
  full = 0;
  same = refl;
  ascending = tt;
  docs_fit = tt;
  counts_fit = tt;
  alone = λ e. tt;
  sums_are = λ more ns fit. (let P : ℕ → Type 0 = λ k. SumsFit k ns in subst P (let e : more ≡ 0 + more = omega arith in e) fit);
  sums_left = λ more ns fit. (let P : ℕ → Type 0 = λ k. SumsFit k ns in subst P (let e : 0 + more ≡ more = omega arith in e) fit);
  long = omega arith;
  next_is = refl;
  skips_are = λ more ds ns. ap (λ k. skip_bytes (has_freq option) (has_positions option) (skip_entries option (listed norms) k 0 ds ns)) (let e : more ≡ 0 + more = omega arith in e);
  blocks_are = λ more ds ns. ap (λ k. all_blocks option k 0 ds ns) (let e : more ≡ 0 + more = omega arith in e);
}

-- a document and its count that a term may have next
pub record MayCome (option : IndexRecordOption) (next doc count : ℕ) : Type 0 where
  pub next_is : next ≤ doc
  pub doc_fits : doc < terminated
  pub some : 0 < count
  pub count_fits : count < 2 ^ 32
  pub alone : has_freq option ≡ false → count ≡ 1

all_more : (P : ℕ → Type 0) (xs : List ℕ) (x : ℕ) → AllByRecursion P xs → P x → AllByRecursion P (xs ++ x ∷ [])
all_more P [] x all one = (one, tt)
all_more P (y ∷ ys) x all one = (all.0, all_more P ys x all.1 one)

-- one document more
pub doc_written : (w : Writing) (doc count id : ℕ) (docs counts : List ℕ) → MayCome w.option w.next doc count → AreWritten w docs counts → AreWritten (record w { next = doc + 1; waiting = joined w.waiting doc count id }) (docs ++ doc ∷ []) (counts ++ count ∷ [])
doc_written w doc count id docs counts may a =
    let o = w.option in
    let ids = listed w.norms in
    record {
      full = a.full;
      same = omega (arith, a.same, length-append docs (doc ∷ []), length-append counts (count ∷ []));
      ascending = ascending_more 0 docs doc a.ascending (omega (arith, a.next_is, may.next_is));
      docs_fit = all_more (λ d. d < terminated) docs doc a.docs_fit may.doc_fits;
      counts_fit = all_more (λ n. (0 < n) × (n < 2 ^ 32)) counts count a.counts_fit (may.some, may.count_fits);
      alone = λ e. all_more (λ n. n ≡ 1) counts count (a.alone e) (may.alone e);
      sums_are = λ more ns fit. (
          let P : List ℕ → Type 0 = λ xs. SumsFit more xs in
          let Q : List ℕ → Type 0 = λ xs. SumsFit (a.full + more) xs in
          subst Q (sym (append_assoc counts (count ∷ []) ns)) (a.sums_are more (count ∷ ns) (subst P (append_assoc w.waiting.counts (count ∷ []) ns) fit)));
      sums_left = λ more ns fit. (
          let P : List ℕ → Type 0 = λ xs. SumsFit more xs in
          let Q : List ℕ → Type 0 = λ xs. SumsFit (a.full + more) xs in
          subst P (sym (append_assoc w.waiting.counts (count ∷ []) ns)) (a.sums_left more (count ∷ ns) (subst Q (append_assoc counts (count ∷ []) ns) fit)));
      long = omega (arith, a.long, length-append docs (doc ∷ []), length-append w.waiting.docs (doc ∷ []));
      next_is = sym (least_after_last 0 docs doc);
      skips_are = λ more ds ns.
          ap₂ (λ xs ys. w.written.skips ++ skip_bytes (has_freq o) (has_positions o) (skip_entries o ids more (next_of w.offset) xs ys)) (append_assoc w.waiting.docs (doc ∷ []) ds) (append_assoc w.waiting.counts (count ∷ []) ns)
          ∙ a.skips_are more (doc ∷ ds) (count ∷ ns)
          ∙ ap₂ (λ xs ys. skip_bytes (has_freq o) (has_positions o) (skip_entries o ids (a.full + more) 0 xs ys)) (sym (append_assoc docs (doc ∷ []) ds)) (sym (append_assoc counts (count ∷ []) ns));
      blocks_are = λ more ds ns.
          ap₂ (λ xs ys. w.written.blocks ++ all_blocks o more (next_of w.offset) xs ys) (append_assoc w.waiting.docs (doc ∷ []) ds) (append_assoc w.waiting.counts (count ∷ []) ns)
          ∙ a.blocks_are more (doc ∷ ds) (count ∷ ns)
          ∙ ap₂ (λ xs ys. all_blocks o (a.full + more) 0 xs ys) (sym (append_assoc docs (doc ∷ []) ds)) (sym (append_assoc counts (count ∷ []) ns));
    }

-- what stands before a seam, and behind it
before : (xs ys : List ℕ) → length xs ≡ 128 → xs ≡ take 128 (xs ++ ys)
before xs ys long = sym (ap (λ k. take k (xs ++ ys)) (sym long) ∙ take-append_seam xs ys)

behind : (xs ys : List ℕ) → length xs ≡ 128 → ys ≡ drop 128 (xs ++ ys)
behind xs ys long = sym (ap (λ k. drop k (xs ++ ys)) (sym long) ∙ drop-append_seam xs ys)

after : (offset : ℕ) (docs ds : List ℕ) → IsAscendingFrom (next_of offset) docs → length docs ≡ 128 → next_of (get_or docs 127 0) ≡ next_after (docs ++ ds)
after offset docs ds up long =
    next_of_some (get_or docs 127 0) (last_is_some (next_of offset) docs up long)
    ∙ ap (λ n. n + 1) (sym (get_or_append_left docs ds 0 127 (omega arith)))

-- a block that is full
pub block_written : (w : Writing) (docs counts : List ℕ) → AreWritten w docs counts → length w.waiting.docs ≡ 128 → length w.waiting.counts ≡ 128 → IsAscendingFrom (next_of w.offset) w.waiting.docs → w.waiting.least_id ≡ least_of (map (id_of (listed w.norms)) w.waiting.docs) → sum w.waiting.counts < 2 ^ 32 → AreWritten (record w { offset = get_or w.waiting.docs 127 0; waiting = nothing_waits; written = block_added w.option w.offset w.waiting w.written }) docs counts
block_written w docs counts a full_docs full_counts up least fits = record {
  full = a.full + 1;
  same = a.same;
  ascending = a.ascending;
  docs_fit = a.docs_fit;
  counts_fit = a.counts_fit;
  alone = a.alone;
  sums_are = λ more ns fit. (
      let P : List ℕ → Type 0 = λ xs. sum xs < 2 ^ 32 in
      let Q : List ℕ → Type 0 = λ xs. SumsFit more xs in
      let R : ℕ → Type 0 = λ k. SumsFit k (counts ++ ns) in
      subst R (let e : a.full + suc more ≡ a.full + 1 + more = omega arith in e) (a.sums_are (suc more) ns (subst P (before wc ns full_counts) fits, subst Q (behind wc ns full_counts) fit)));
  sums_left = λ more ns fit. (
      let Q : List ℕ → Type 0 = λ xs. SumsFit more xs in
      let R : ℕ → Type 0 = λ k. SumsFit k (counts ++ ns) in
      subst Q (sym (behind wc ns full_counts)) (a.sums_left (suc more) ns (subst R (let e : a.full + 1 + more ≡ a.full + suc more = omega arith in e) fit)).1);
  long = omega (arith, a.long);
  next_is = a.next_is;
  skips_are = λ more ds ns.
      append_assoc w.written.skips (bytes (record (skip_entry o [] nx wd wc) { least_id = w.waiting.least_id })) (skip_bytes (has_freq o) (has_positions o) (skip_entries o ids more (next_of last) ds ns))
      ∙ ap (λ id. w.written.skips ++ (bytes (record (skip_entry o [] nx wd wc) { least_id = id }) ++ skip_bytes (has_freq o) (has_positions o) (skip_entries o ids more (next_of last) ds ns))) least
      ∙ ap₂ (λ xs ys. w.written.skips ++ (bytes (skip_entry o ids nx xs ys) ++ skip_bytes (has_freq o) (has_positions o) (skip_entries o ids more (next_of last) ds ns))) (before wd ds full_docs) (before wc ns full_counts)
      ∙ ap₂ (λ xs ys. w.written.skips ++ (bytes (skip_entry o ids nx (take 128 (wd ++ ds)) (take 128 (wc ++ ns))) ++ skip_bytes (has_freq o) (has_positions o) (skip_entries o ids more (next_of last) xs ys))) (behind wd ds full_docs) (behind wc ns full_counts)
      ∙ ap (λ n. w.written.skips ++ (bytes (skip_entry o ids nx (take 128 (wd ++ ds)) (take 128 (wc ++ ns))) ++ skip_bytes (has_freq o) (has_positions o) (skip_entries o ids more n (drop 128 (wd ++ ds)) (drop 128 (wc ++ ns))))) (after w.offset wd ds up full_docs)
      ∙ a.skips_are (suc more) ds ns
      ∙ ap (λ k. skip_bytes (has_freq o) (has_positions o) (skip_entries o ids k 0 (docs ++ ds) (counts ++ ns))) (let e : a.full + suc more ≡ a.full + 1 + more = omega arith in e);
  blocks_are = λ more ds ns.
      append_assoc w.written.blocks (full_block o nx wd wc) (all_blocks o more (next_of last) ds ns)
      ∙ ap₂ (λ xs ys. w.written.blocks ++ (full_block o nx xs ys ++ all_blocks o more (next_of last) ds ns)) (before wd ds full_docs) (before wc ns full_counts)
      ∙ ap₂ (λ xs ys. w.written.blocks ++ (full_block o nx (take 128 (wd ++ ds)) (take 128 (wc ++ ns)) ++ all_blocks o more (next_of last) xs ys)) (behind wd ds full_docs) (behind wc ns full_counts)
      ∙ ap (λ n. w.written.blocks ++ (full_block o nx (take 128 (wd ++ ds)) (take 128 (wc ++ ns)) ++ all_blocks o more n (drop 128 (wd ++ ds)) (drop 128 (wc ++ ns)))) (after w.offset wd ds up full_docs)
      ∙ a.blocks_are (suc more) ds ns
      ∙ ap (λ k. all_blocks o k 0 (docs ++ ds) (counts ++ ns)) (let e : a.full + suc more ≡ a.full + 1 + more = omega arith in e);
}
  where
    o : IndexRecordOption
    o = w.option

    ids : List ℕ
    ids = listed w.norms

    wd : List ℕ
    wd = w.waiting.docs

    wc : List ℕ
    wc = w.waiting.counts

    nx : ℕ
    nx = next_of w.offset

    last : ℕ
    last = get_or w.waiting.docs 127 0

    bytes : SkipEntry → List ℕ
    bytes = entry_bytes (has_freq w.option) (has_positions w.option)

-- the whole term
pub term_written : (w : Writing) (docs counts : List ℕ) (doc_freq : ℕ) → AreWritten w docs counts → length w.waiting.docs < 128 → length docs ≡ doc_freq → term_bytes (nat_le 128 doc_freq) (rest_added w.option w.offset w.waiting w.written) ≡ postings_bytes w.option (listed w.norms) docs counts
unfolding postings_bytes
term_written w docs counts doc_freq a few many =
    let o = w.option in
    let ids = listed w.norms in
    let blocks : a.full ≡ length docs / 128 = omega (arith, a.long) in
    let entries : w.written.skips ≡ skip_bytes (has_freq o) (has_positions o) (skip_entries o ids a.full 0 docs counts) =
    sym (append-nil w.written.skips)
    ∙ a.skips_are 0 [] []
    ∙ ap₂ (λ xs ys. skip_bytes (has_freq o) (has_positions o) (skip_entries o ids (a.full + 0) 0 xs ys)) (append-nil docs) (append-nil counts)
    ∙ ap (λ k. skip_bytes (has_freq o) (has_positions o) (skip_entries o ids k 0 docs counts)) (let e : a.full + 0 ≡ a.full = omega arith in e) in
    let bodies : w.written.blocks ++ rest_block o (next_of w.offset) w.waiting.docs w.waiting.counts ≡ all_blocks o a.full 0 docs counts =
    ap₂ (λ xs ys. w.written.blocks ++ rest_block o (next_of w.offset) xs ys) (sym (append-nil w.waiting.docs)) (sym (append-nil w.waiting.counts))
    ∙ a.blocks_are 0 [] []
    ∙ ap₂ (λ xs ys. all_blocks o (a.full + 0) 0 xs ys) (append-nil docs) (append-nil counts)
    ∙ ap (λ k. all_blocks o k 0 docs counts) (let e : a.full + 0 ≡ a.full = omega arith in e) in
    ap₂ (λ xs ys. xs ++ ys) (go a.full (nat_le 128 doc_freq) refl (omega (arith, a.long)) entries) bodies
    ∙ ap (λ k. skip_data o (skip_entries o ids k 0 docs counts) ++ all_blocks o k 0 docs counts) blocks
  where
    go : (full : ℕ) (b : Bool) → nat_le 128 doc_freq ≡ b → doc_freq ≡ 128 * full + length w.waiting.docs → w.written.skips ≡ skip_bytes (has_freq w.option) (has_positions w.option) (skip_entries w.option (listed w.norms) full 0 docs counts) → (if b then sized_bytes w.written.skips else []) ≡ skip_data w.option (skip_entries w.option (listed w.norms) full 0 docs counts)
    go zero true e long entries = (let many : 128 ≤ doc_freq = grind (arith, nat_tests) in absurd (omega arith))
    go zero false e long entries = refl
    go (suc full) true e long entries = ap sized_bytes entries
    go (suc full) false e long entries = (let fewer : doc_freq < 128 = grind (arith, nat_tests) in absurd (omega arith))

-- ---- what a serializer does

-- the least length id with one more
least_joined : (norms : Option (List ℕ)) (docs : List ℕ) (doc id least : ℕ) → least ≡ least_of (map (id_of (listed norms)) docs) → id ≡ id_of (listed norms) doc → (if nat_eq (length docs) 0 then id else min least id) ≡ least_of (map (id_of (listed norms)) (docs ++ doc ∷ []))
least_joined norms docs doc id least was is_id =
    ap₂ (λ m n. if nat_eq (length docs) 0 then n else min m n) was is_id
    ∙ ap (λ k. if nat_eq k 0 then id_of (listed norms) doc else min (least_of (map (id_of (listed norms)) docs)) (id_of (listed norms) doc)) (sym (length-map docs (id_of (listed norms))))
    ∙ sym (least_more (map (id_of (listed norms)) docs) (id_of (listed norms) doc))
    ∙ ap least_of (sym (map-append (id_of (listed norms)) docs (doc ∷ [])))

-- a document that leaves the block open
pub writing_more : (norms : Option (List ℕ)) (offset next : ℕ) (waiting block : Waiting) (doc count id : ℕ) → IsWriting norms offset next waiting → next ≤ doc → id ≡ id_of (listed norms) doc → block ≡ joined waiting doc count id → length block.docs < 128 → IsWriting norms offset (doc + 1) block
writing_more norms offset next waiting block doc count id held least is_id is few =
    let P : Waiting → Type 0 = λ b. IsWriting norms offset (doc + 1) b in
    let ids : List ℕ = map (id_of (listed norms)) waiting.docs in
    subst P (sym is) (record {
      waiting_fit = (let long = ap (λ (b : Waiting). length b.docs) is in omega arith);
      same = omega (arith, held.same, length-append waiting.docs (doc ∷ []), length-append waiting.counts (count ∷ []));
      ascending = ascending_more (next_of offset) waiting.docs doc held.ascending (omega (arith, held.next_is));
      next_is = sym (least_after_last (next_of offset) waiting.docs doc);
      least = least_joined norms waiting.docs doc id waiting.least_id held.least is_id;
    })

-- the documents of a block with one more ascend
pub docs_more : (norms : Option (List ℕ)) (offset next : ℕ) (waiting block : Waiting) (doc count id : ℕ) → IsWriting norms offset next waiting → next ≤ doc → block ≡ joined waiting doc count id → IsAscendingFrom (next_of offset) block.docs
docs_more norms offset next waiting block doc count id held least is =
    let P : Waiting → Type 0 = λ b. IsAscendingFrom (next_of offset) b.docs in
    subst P (sym is) (ascending_more (next_of offset) waiting.docs doc held.ascending (omega (arith, held.next_is)))

-- a document that fills the block
pub writing_none : (norms : Option (List ℕ)) (offset next : ℕ) (waiting block empty : Waiting) (doc count id : ℕ) → IsWriting norms offset next waiting → next ≤ doc → block ≡ joined waiting doc count id → length block.docs ≡ 128 → empty ≡ nothing_waits → IsWriting norms doc (doc + 1) empty
writing_none norms offset next waiting block empty doc count id held least is full none =
    let P : Waiting → Type 0 = λ b. IsWriting norms doc (doc + 1) b in
    let docs = waiting.docs ++ doc ∷ [] in
    let long : length docs ≡ 128 = ap (λ (b : Waiting). length b.docs) (sym is) ∙ full in
    let up = ascending_more (next_of offset) waiting.docs doc held.ascending (omega (arith, held.next_is)) in
    let some : 0 < doc = omega (arith, last_is_some (next_of offset) docs up long, last_is waiting.docs doc long) in
    subst P (sym none) (record {
      waiting_fit = omega arith;
      same = refl;
      ascending = tt;
      next_is = sym (next_of_some doc some);
      least = refl;
    })

pub written_open : (w was : Writing) (block : Waiting) (doc count id n : ℕ) (docs counts : List ℕ) → MayCome w.option w.next doc count → w ≡ was → block ≡ joined w.waiting doc count id → count ≡ n → AreWritten was docs counts → AreWritten (record w { next = doc + 1; waiting = block }) (docs ++ doc ∷ []) (counts ++ n ∷ [])
written_open w was block doc count id n docs counts may seen is counted a =
    let S : Writing → Type 0 = λ x. AreWritten x docs counts in
    let P : Waiting → Type 0 = λ b. AreWritten (record w { next = doc + 1; waiting = b }) (docs ++ doc ∷ []) (counts ++ n ∷ []) in
    let Q : ℕ → Type 0 = λ k. AreWritten (record w { next = doc + 1; waiting = joined w.waiting doc count id }) (docs ++ doc ∷ []) (counts ++ k ∷ []) in
    subst P (sym is) (subst Q counted (doc_written w doc count id docs counts may (subst S (sym seen) a)))

pub written_full : (w was : Writing) (block empty : Waiting) (put : Blocks) (doc count id n : ℕ) (docs counts : List ℕ) → MayCome w.option w.next doc count → sum block.counts < 2 ^ 32 → w ≡ was → block ≡ joined w.waiting doc count id → empty ≡ nothing_waits → put ≡ block_added w.option w.offset block w.written → count ≡ n → id ≡ id_of (listed w.norms) doc → IsWriting w.norms w.offset w.next w.waiting → length block.docs ≡ 128 → AreWritten was docs counts → AreWritten (record w { offset = doc; next = doc + 1; waiting = empty; written = put }) (docs ++ doc ∷ []) (counts ++ n ∷ [])
written_full w was block empty put doc count id n docs counts may fits seen is none put_is counted is_id held full a =
    let more = written_open w was block doc count id n docs counts may seen is counted a in
    let up = docs_more w.norms w.offset w.next w.waiting block doc count id held may.next_is is in
    let last : get_or block.docs 127 0 ≡ doc = ap (λ (b : Waiting). get_or b.docs 127 0) is ∙ last_is w.waiting.docs doc (ap (λ (b : Waiting). length b.docs) (sym is) ∙ full) in
    let many : length block.counts ≡ 128 = omega (arith, full, held.same, ap (λ (b : Waiting). length b.docs) is, ap (λ (b : Waiting). length b.counts) is, length-append w.waiting.docs (doc ∷ []), length-append w.waiting.counts (count ∷ [])) in
    let closed = block_written (record w { next = doc + 1; waiting = block }) (docs ++ doc ∷ []) (counts ++ n ∷ []) more full many up (least_is w block doc count id held is is_id) fits in
    let P : ℕ → Type 0 = λ k. AreWritten (record w { offset = k; next = doc + 1; waiting = nothing_waits; written = block_added w.option w.offset block w.written }) (docs ++ doc ∷ []) (counts ++ n ∷ []) in
    let Q : Waiting → Type 0 = λ b. AreWritten (record w { offset = doc; next = doc + 1; waiting = b; written = block_added w.option w.offset block w.written }) (docs ++ doc ∷ []) (counts ++ n ∷ []) in
    let R : Blocks → Type 0 = λ b. AreWritten (record w { offset = doc; next = doc + 1; waiting = empty; written = b }) (docs ++ doc ∷ []) (counts ++ n ∷ []) in
    subst R (sym put_is) (subst Q (sym none) (subst P last closed))
  where
    least_is : (w : Writing) (block : Waiting) (doc count id : ℕ) → IsWriting w.norms w.offset w.next w.waiting → block ≡ joined w.waiting doc count id → id ≡ id_of (listed w.norms) doc → block.least_id ≡ least_of (map (id_of (listed w.norms)) block.docs)
    least_is w block doc count id held is is_id =
        let P : Waiting → Type 0 = λ b. b.least_id ≡ least_of (map (id_of (listed w.norms)) b.docs) in
        subst P (sym is) (least_joined w.norms w.waiting.docs doc id w.waiting.least_id held.least is_id)

pub written_closed : (w was : Writing) (b : Blocks) (docs counts : List ℕ) (doc_freq : ℕ) → w ≡ was → b ≡ rest_added w.option w.offset w.waiting w.written → length w.waiting.docs < 128 → AreWritten was docs counts → length docs ≡ doc_freq → term_bytes (nat_le 128 doc_freq) b ≡ postings_bytes was.option (listed was.norms) docs counts
written_closed w was b docs counts doc_freq seen is few a many =
    let S : Writing → Type 0 = λ x. AreWritten x docs counts in
    ap (term_bytes (nat_le 128 doc_freq)) is
    ∙ term_written w docs counts doc_freq (subst S (sym seen) a) few many
    ∙ ap (λ (x : Writing). postings_bytes x.option (listed x.norms) docs counts) seen

-- the counts of each full block have a sum of 32 bits
pub written_sums : (w was : Writing) (docs counts : List ℕ) → w ≡ was → length w.waiting.docs < 128 → AreWritten was docs counts → SumsFit (length docs / block_len) counts
written_sums w was docs counts seen few a =
    let long = ap (λ (x : Writing). length x.waiting.docs) seen in
    let blocks : a.full + 0 ≡ length docs / 128 = omega (arith, a.long, few, long) in
    let P : ℕ → Type 0 = λ k. SumsFit k counts in
    let Q : List ℕ → Type 0 = λ xs. SumsFit (a.full + 0) xs in
    subst P blocks (subst Q (append-nil counts) (a.sums_are 0 [] tt))

-- what was written is what a term may have
pub written_posted : (w was : Writing) (docs counts : List ℕ) → w ≡ was → length w.waiting.docs < 128 → AreWritten was docs counts → ArePosted was.option docs counts
written_posted w was docs counts seen few a = record {
  same = a.same;
  ascending = a.ascending;
  docs_fit = a.docs_fit;
  counts_fit = a.counts_fit;
  alone = a.alone;
  sums_fit = λ e. written_sums w was docs counts seen few a;
}

-- a count as it is recorded, of a document that may come
pub may_come : (w was : Writing) (doc count term_freq : ℕ) → w ≡ was → was.next ≤ doc → doc < terminated → count ≡ recorded_count was.option term_freq → 0 < count → count < 2 ^ 32 → MayCome w.option w.next doc count
may_come w was doc count term_freq seen least fits counted some count_fits = record {
  next_is = (let next = ap (λ (x : Writing). x.next) seen in omega arith);
  doc_fits = fits;
  some = some;
  count_fits = count_fits;
  alone = λ e. counted ∙ ap (λ o. recorded_count o term_freq) (sym (ap (λ (x : Writing). x.option) seen)) ∙ ap (λ b. if b then term_freq else 1) e;
}

-- a block whose counts are refused
pub sum_refused : (fault : Fault) (w was : Writing) (block : Waiting) (doc count id n : ℕ) (docs counts : List ℕ) → w ≡ was → block ≡ joined w.waiting doc count id → count ≡ n → length w.waiting.counts ≡ length w.waiting.docs → length block.docs ≡ 128 → AreWritten was docs counts → IsRefusal fault (nat_le (2 ^ 32) (sum block.counts)) → IsSumRefusal fault (counts ++ n ∷ [])
sum_refused fault w was block doc count id n docs counts seen is counted held full a (inl memory) = inl memory
sum_refused fault w was block doc count id n docs counts seen is counted held full a (inr limit) = inr (limit.0, past)
  where
    past : SumsFit (length (counts ++ n ∷ []) / block_len) (counts ++ n ∷ []) → ⊥
    past fit =
        let S : Writing → Type 0 = λ x. AreWritten x docs counts in
        let b : AreWritten w docs counts = subst S (sym seen) a in
        let xs : List ℕ = w.waiting.counts ++ n ∷ [] in
        let more = length-append w.waiting.docs (doc ∷ []) in
        let many : length w.waiting.docs + 1 ≡ 128 = (let here = ap (λ (x : Waiting). length x.docs) is in omega arith) in
        let long : length xs ≡ 128 = omega (arith, length-append w.waiting.counts (n ∷ [])) in
        let blocks : length (counts ++ n ∷ []) / block_len ≡ b.full + 1 = (let l = b.long in let s = b.same in omega (arith, length-append counts (n ∷ []))) in
        let P : ℕ → Type 0 = λ k. SumsFit k (counts ++ n ∷ []) in
        let first = (b.sums_left 1 (n ∷ []) (subst P blocks fit)).0 in
        let whole : take 128 xs ≡ xs = take_all 128 xs (omega arith) in
        let sums : sum block.counts ≡ sum xs = ap (λ (x : Waiting). sum x.counts) is ∙ ap (λ k. sum (w.waiting.counts ++ k ∷ [])) counted in
        let test = limit.1 in
        let above : 2 ^ 32 ≤ sum block.counts = grind (arith, nat_tests) in
        let same = ap sum whole in
        absurd (omega arith)

-- of two facts on `Ok` another one
pub on_ok_both : {T E P Q R : Type 0} (r : Result T E) → (P → Q → R) → OnOk r P → OnOk r Q → OnOk r R
on_ok_both (Ok x) f p q = f p q
on_ok_both (Err e) f p q = tt

pub nothing_stands : (w : Writing) (mode option : IndexRecordOption) (norms : Option (List ℕ)) → w ≡ begun mode option norms → AreWritten w [] []
nothing_stands w mode option norms is = (let P : Writing → Type 0 = λ x. AreWritten x [] [] in subst P (sym is) (nothing_written mode option norms))

pub nothing_made : (mode option : IndexRecordOption) (norms : Option (List ℕ)) (waiting : Waiting) (blocks : Blocks) → waiting ≡ nothing_waits → blocks ≡ record { skips = []; blocks = [] } → AreWritten (record { mode = mode; option = option; norms = norms; offset = 0; next = 0; waiting = waiting; written = blocks }) [] []
nothing_made mode option norms waiting blocks none empty =
    let make : Waiting → Blocks → Writing = λ w b. record { mode = mode; option = option; norms = norms; offset = 0; next = 0; waiting = w; written = b } in
    nothing_stands (make waiting blocks) mode option norms (ap₂ make none empty)
