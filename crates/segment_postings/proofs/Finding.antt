-- Blocks that are found one after another.
use Rattle.std.proofs.Common.{[], Bool, List, ap, arith, cond, drop, false, get_or, length, nat_lt, refl, suc, sum, take, true, zero, ◌*◌, ◌+◌, ◌/◌, ◌<◌, ◌≡◌, ◌≤◌, ◌∙◌, ◌∷◌, ℕ}
use Rattle.std.proofs.lemmas.Bool.Decides.{nat_tests}
use Rattle.std.proofs.lemmas.List.{drop-drop}
use Rattle.definitions.specs.Postings.{terminated}
use Rattle.layouts.specs.SkipEntries.{SkipEntry}
use Rattle.segment_postings.proofs.Passing.{passes_some, stops_here, sum_of_more}
use Rattle.segment_postings.specs.Reading.{AreReadable, Ascends, HasPassed, below, counts_at, docs_at}
use Rattle.codes.specs.SkipBlocks.{Skips, last_doc}

-- ---- how many documents are below one

-- documents that are below stand first
below-behind : (n target : ℕ) (docs : List ℕ) → n ≤ below target docs → below target docs ≡ n + below target (drop n docs)
below-behind zero target docs few = omega arith
below-behind (suc n) target [] few = absurd (omega (arith, few))
below-behind (suc n) target (d ∷ ds) few = go (nat_lt d target) few (below-behind n target ds)
  where
    go : (b : Bool) → suc n ≤ cond b (1 + below target ds) 0 → (n ≤ below target ds → below target ds ≡ n + below target (drop n ds)) → cond b (1 + below target ds) 0 ≡ suc n + below target (drop n ds)
    go true some ih = (let rest = ih (omega (arith, some)) in omega (arith, rest))
    go false some ih = absurd (omega (arith, some))

-- of a later one no fewer
below-later : (early late : ℕ) (docs : List ℕ) → early ≤ late → below early docs ≤ below late docs
below-later early late [] l = omega arith
below-later early late (d ∷ ds) l = go (nat_lt d early) refl (below-later early late ds l)
  where
    go : (b : Bool) → nat_lt d early ≡ b → below early ds ≤ below late ds → cond b (1 + below early ds) 0 ≤ below late (d ∷ ds)
    go false e ih = omega arith
    go true e ih =
        let yes : nat_lt d late ≡ true = grind (arith, nat_tests) in
        let whole : below late (d ∷ ds) ≡ 1 + below late ds = ap (λ b. cond b (1 + below late ds) 0) yes in
        omega (arith, whole, ih)

-- of the next one at most one more
below-next : (low target : ℕ) (docs : List ℕ) → Ascends low docs → below (target + 1) docs ≤ below target docs + 1
below-next low target [] a = omega arith
below-next low target (d ∷ ds) a = go (nat_lt d target) refl (nat_lt d (target + 1)) refl (below-next (d + 1) target ds a.2)
  where
    none_behind : (next : ℕ) (xs : List ℕ) → Ascends next xs → target + 1 ≤ next → below (target + 1) xs ≡ 0
    none_behind next [] b late = refl
    none_behind next (x ∷ xs) b late = (let least = b.0 in let no : nat_lt x (target + 1) ≡ false = grind (arith, nat_tests) in ap (λ b. cond b (1 + below (target + 1) xs) 0) no)

    go : (b : Bool) → nat_lt d target ≡ b → (c : Bool) → nat_lt d (target + 1) ≡ c → below (target + 1) ds ≤ below target ds + 1 → cond c (1 + below (target + 1) ds) 0 ≤ cond b (1 + below target ds) 0 + 1
    go b early false here ih = omega arith
    go true early true here ih = omega (arith, ih)
    go false early true here ih =
        let at : target ≤ d = grind (arith, nat_tests) in
        let none = none_behind (d + 1) ds a.2 (omega (arith, at)) in
        omega (arith, none)

-- ---- blocks that are passed

-- for one document, and then for one that isn't before it
pub goes_on : (reads sums : Bool) (early late before : ℕ) (s : Skips) (after : ℕ) (t : Skips) (last : ℕ) (u : Skips) (bytes : List ℕ) → early ≤ late → HasPassed reads sums early before s after t bytes → HasPassed reads sums late after t last u bytes → HasPassed reads sums late before s last u bytes
goes_on reads sums early late before s after t last u bytes l first second =
    let docs = docs_at before s bytes in
    let counts = counts_at reads before s bytes in
    let m = below early docs / 128 in
    let n = below late (docs_at after t bytes) / 128 in
    let some = below-later early late docs l in
    let behind = below-behind (128 * m) late docs (omega (arith, some)) in
    let same = ap (below late) first.docs in
    let blocks : m + n ≡ below late docs / 128 = omega (arith, behind, same) in
    let indices : 128 * m + 128 * n ≡ 128 * (below late docs / 128) = omega (arith, behind, same) in
    let index = second.index in
    record {
      stands = second.stands;
      docs = second.docs ∙ (ap (drop (128 * n)) first.docs ∙ (drop-drop (128 * n) (128 * m) docs ∙ ap (λ k. drop k docs) indices));
      counts = second.counts ∙ (ap (drop (128 * n)) first.counts ∙ (drop-drop (128 * n) (128 * m) counts ∙ ap (λ k. drop k counts) indices));
      entries = second.entries ∙ (ap (drop n) first.entries ∙ (drop-drop n m s.left ∙ ap (λ k. drop k s.left) blocks));
      index = omega (arith, index, behind, same);
      offset = λ yes.
          (let one = first.offset yes in
          let other = second.offset yes in
          let total = sum_of_more (128 * m) (128 * n) counts in
          let whole = ap (λ k. sum (take k counts)) indices in
          let cut = ap (λ xs. sum (take (128 * n) xs)) first.counts in
          omega (arith, one, other, total, whole, cut));
    }

-- ---- documents of a block

ascends_at : (low : ℕ) (docs : List ℕ) (index : ℕ) → Ascends low docs → index < length docs → low ≤ get_or docs index 0
ascends_at low [] index a within = absurd (omega (arith, within))
ascends_at low (d ∷ ds) zero a within = a.0
ascends_at low (d ∷ ds) (suc index) a within = (let ih = ascends_at (d + 1) ds index a.2 (omega (arith, within)) in let least = a.0 in omega (arith, ih, least))

-- as many documents are below one as stand before it
below-own : (low : ℕ) (docs : List ℕ) (index : ℕ) → Ascends low docs → index < length docs → below (get_or docs index 0) docs ≡ index
below-own low [] index a within = absurd (omega (arith, within))
below-own low (d ∷ ds) zero a within = (let no : nat_lt d d ≡ false = grind (arith, nat_tests) in ap (λ b. cond b (1 + below d ds) 0) no)
below-own low (d ∷ ds) (suc index) a within =
    let later = ascends_at (d + 1) ds index a.2 (omega (arith, within)) in
    let yes : nat_lt d (get_or ds index 0) ≡ true = grind (arith, nat_tests) in
    let ih = below-own (d + 1) ds index a.2 (omega (arith, within)) in
    let whole : below (get_or ds index 0) (d ∷ ds) ≡ 1 + below (get_or ds index 0) ds = ap (λ b. cond b (1 + below (get_or ds index 0) ds) 0) yes in
    omega (arith, whole, ih)

-- the documents from one on up to the last of the block that was found for it stand in that block
pub in_block : (reads sums : Bool) (target before : ℕ) (s : Skips) (after : ℕ) (t : Skips) (bytes : List ℕ) → HasPassed reads sums target before s after t bytes → Ascends 0 (docs_at before s bytes) → (index : ℕ) → index < length (docs_at before s bytes) → target ≤ get_or (docs_at before s bytes) index 0 → get_or (docs_at before s bytes) index 0 ≤ last_doc t.left → index / 128 ≡ below target (docs_at before s bytes) / 128
in_block reads sums target before s after t bytes passed ascends index within late early =
    let docs = docs_at before s bytes in
    let doc = get_or docs index 0 in
    let own = below-own 0 docs index ascends within in
    let more = below-later target doc docs late in
    let behind = below-behind (128 * (below target docs / 128)) doc docs (omega (arith, more)) in
    let same = ap (below doc) passed.docs in
    let few = stops_here reads sums doc after t bytes passed.stands early in
    omega (arith, own, behind, same, few)

-- the documents up to the last of the full block that was found are those of the blocks up to it
pub block_ends : (reads sums : Bool) (target before : ℕ) (s : Skips) (after : ℕ) (t : Skips) (bytes : List ℕ) → HasPassed reads sums target before s after t bytes → Ascends 0 (docs_at before s bytes) → target ≤ last_doc t.left → 0 < length t.left → below (last_doc t.left + 1) (docs_at before s bytes) ≡ 128 * (below target (docs_at before s bytes) / 128 + 1)
block_ends reads sums target before s after t bytes passed ascends late some =
    let docs = docs_at before s bytes in
    let last = last_doc t.left in
    let m = below target docs / 128 in
    let more = below-later target last docs late in
    let most = below-later target (last + 1) docs (omega (arith, late)) in
    let up_to = below-behind (128 * m) last docs (omega (arith, more)) in
    let behind = below-behind (128 * m) (last + 1) docs (omega (arith, most)) in
    let same = ap (below last) passed.docs in
    let same_next = ap (below (last + 1)) passed.docs in
    let few = stops_here reads sums last after t bytes passed.stands (omega arith) in
    let small = last_small t.left t.rest (drop t.byte_offset bytes) passed.stands.readable some in
    let full = passes_some reads sums (last + 1) after t bytes passed.stands (omega arith) (omega (arith, small)) in
    let next = below-next 0 last docs ascends in
    omega (arith, up_to, behind, same, same_next, few, full, next)
  where
    last_small : (l : List SkipEntry) (n : ℕ) (here : List ℕ) → AreReadable reads sums after l n here → 0 < length l → last_doc l < terminated
    last_small [] n here readable many = absurd (omega (arith, many))
    last_small (e ∷ es) n here readable many = readable.0.small
