-- A walk over a term's blocks: what it leaves out, and what it decodes.
use Rattle.docsets.specs.Bounds.{Covers}
use Rattle.std.proofs.Common.{[], Bool, List, ap, ap₂, arith, drop, false, if◌then◌else◌, le-leb, length, nat_lt, refl, suc, sym, take, true, zero, ◌&&◌, ◌+◌, ◌-◌, ◌*◌, ◌/◌, ◌%◌, ◌<◌, ◌≡◌, ◌≤◌, ◌∙◌, ◌∷◌, ℕ}
use Rattle.std.specs.Prelude.{int_lt, min, negsuc, pos, ◌≤ℤ◌, ℤ}
use Rattle.std.proofs.lemmas.Bool.{lt-leb}
use Rattle.std.proofs.lemmas.Bool.Decides.{nat_tests}
use Rattle.std.proofs.lemmas.Int.{ints}
use Rattle.std.proofs.lemmas.List.{drop-drop, length-map, length-take}
use Rattle.definitions.proofs.Lists.{by_order}
use Rattle.definitions.specs.Blocks.{block_len}
use Rattle.definitions.specs.Postings.{terminated}
use Rattle.definitions.specs.Sinks.{ScoredBlocks, blocks_above, fed, later_blocks_above}
use Rattle.docsets.proofs.EntryLaws.{from-first, from-from, from-in, from-out}
use Rattle.docsets.specs.Entries.{Entry, Rising, first, from}
use Rattle.docsets.specs.EntryLaws.{Rising-from}
use Rattle.docsets.specs.ScoredEntries.{pairs_of}
use Rattle.layouts.specs.SkipEntries.{SkipEntry}
use Rattle.walks.proofs.EntryCuts.{IsCut, below-drop, below-end, cut_block, docs_from, none_behind, up_to-end}
use Rattle.walks.proofs.ScorerBlocks.{ascends_held, cursor_inside, docs_scored, first_index}
use Rattle.walks.specs.BlocksLeft.{StandsInBlock, blocks_left, blocks_of, docs_held, skips_held, up_to}
use Rattle.segment_postings.specs.Cursors.{cursor_place}
use Rattle.segment_postings.specs.Reading.{below}
use Rattle.codes.specs.SkipBlocks.{last_doc}
use Rattle.term_scorer.specs.BlockScores.{block_score, until_of}
use Rattle.term_scorer.specs.ScoredTerms.{cursor_of, scored_left, similarity_of}
use Rattle.term_scorer.specs.ScoredTermsLaws.{rising_scored}
use Rattle.term_scorer.specs.TermScores.{TermSimilarity}
use Rattle.term_scorer.specs.declared.term_scorer.TermScorer.{TermScorer}

-- ---- what a walk may still decode

-- a document isn't behind where the cursor stands, and if it isn't in the block that is held, then it begins its block
pub record BeginsBlock (target : ℕ) (s : TermScorer) : Type 0 where
  pub ahead : cursor_place (cursor_of s) ≤ below target (docs_held s)
  pub begins : block_len ≤ below target (docs_held s) → below target (docs_held s) % block_len ≡ 0

-- what is left from a document on, in blocks
abbrev pub blocks_from : ℕ → TermScorer → ScoredBlocks
blocks_from target s = blocks_of (similarity_of s) (below target (docs_held s) % block_len) (drop (below target (docs_held s) / block_len) (skips_held s)) (from target (scored_left s))

-- how many of the blocks may be decoded: the one that is held isn't decoded again
abbrev pub counted : {S : Type 0} → (S → ℤ) → (S → ℕ × ℕ → S) → S → Bool → ScoredBlocks → ℕ
counted limit taken sink held blocks = if held then later_blocks_above limit taken sink blocks else blocks_above limit taken sink blocks

abbrev pub to_come : {S : Type 0} → (S → ℤ) → (S → ℕ × ℕ → S) → S → ℕ → TermScorer → ℕ
to_come limit taken sink target s = counted limit taken sink (nat_lt (below target (docs_held s)) block_len) (blocks_from target s)

-- ---- one block of a list of blocks

-- a block that changes nothing and whose bound isn't above the threshold
pub block_left_out : {S : Type 0} (limit : S → ℤ) (taken : S → ℕ × ℕ → S) (s : S) (held : Bool) (bound : ℕ) (ps : List (ℕ × ℕ)) (blocks : ScoredBlocks) → fed limit taken s ps ≡ s → int_lt (limit s) (pos bound) ≡ false → blocks_above limit taken s blocks ≡ counted limit taken s held ((bound, ps) ∷ blocks)
block_left_out limit taken s true bound ps blocks same low = ap (λ u. blocks_above limit taken u blocks) (sym same)
block_left_out limit taken s false bound ps blocks same low =
    let is = ap (λ u. blocks_above limit taken u blocks) same in
    let counts : Bool → ℕ = λ b. if nat_lt 0 (length ps) && b then 1 else 0 in
    let none : counts (int_lt (limit s) (pos bound)) ≡ counts false = ap counts low in
    let zero : counts false ≡ 0 = uncounted (nat_lt 0 (length ps)) in
    omega (arith, is, none, zero)
  where
    uncounted : (b : Bool) → ◌≡◌ {A = ℕ} (if b && false then 1 else 0) 0
    uncounted true = refl
    uncounted false = refl

-- a block that is fed, and was decoded unless it was held
pub block_fed : {S : Type 0} (limit : S → ℤ) (taken : S → ℕ × ℕ → S) (s after : S) (held : Bool) (bound decoded : ℕ) (ps : List (ℕ × ℕ)) (blocks : ScoredBlocks) → after ≡ fed limit taken s ps → int_lt (limit s) (pos bound) ≡ true → decoded ≡ (if held then 0 else min 1 (length ps)) → decoded + blocks_above limit taken after blocks ≡ counted limit taken s held ((bound, ps) ∷ blocks)
block_fed limit taken s after true bound decoded ps blocks is above exact = (let same = ap (λ u. blocks_above limit taken u blocks) is in omega (arith, same, exact))
block_fed limit taken s after false bound decoded ps blocks is above exact =
    let same = ap (λ u. blocks_above limit taken u blocks) is in
    some ps same exact
  where
    some : (ps : List (ℕ × ℕ)) → blocks_above limit taken after blocks ≡ blocks_above limit taken (fed limit taken s ps) blocks → decoded ≡ min 1 (length ps) → decoded + blocks_above limit taken after blocks ≡ (if nat_lt 0 (length ps) && int_lt (limit s) (pos bound) then 1 else 0) + blocks_above limit taken (fed limit taken s ps) blocks
    some [] same exact = omega (arith, same, exact)
    some (p ∷ ps) same exact =
        let many : nat_lt 0 (length (p ∷ ps)) ≡ true = grind (arith, nat_tests) in
        let counts : Bool → Bool → ℕ = λ a b. if a && b then 1 else 0 in
        let one : counts (nat_lt 0 (length (p ∷ ps))) (int_lt (limit s) (pos bound)) ≡ counts true true = ap₂ counts many above in
        omega (arith, same, exact, one)

-- ---- blocks without entries

take-none : (n : ℕ) → take {A = Entry} n [] ≡ []
take-none zero = refl
take-none (suc n) = refl

drop-none : (n : ℕ) → drop {A = Entry} n [] ≡ []
drop-none zero = refl
drop-none (suc n) = refl

none_above : {S : Type 0} (limit : S → ℤ) (taken : S → ℕ × ℕ → S) (s : S) (sim : TermSimilarity) (index : ℕ) (skips : List SkipEntry) (es : List Entry) → es ≡ [] → blocks_above limit taken s (blocks_of sim index skips es) ≡ 0
none_above limit taken s sim index [] es none = ap (λ xs. blocks_above limit taken s (blocks_of sim index [] xs)) none
none_above {S} limit taken s sim index (e ∷ skips) es none =
    let first : pairs_of (take (block_len - index) es) ≡ [] = ap pairs_of (ap (take (block_len - index)) none ∙ take-none (block_len - index)) in
    let rest = ap (drop (block_len - index)) none ∙ drop-none (block_len - index) in
    let F : List (ℕ × ℕ) → ℕ = λ ps. (if nat_lt 0 (length ps) && int_lt (limit s) (pos (block_score sim (e ∷ skips))) then 1 else 0) + blocks_above limit taken (fed limit taken s ps) (blocks_of sim 0 skips (drop (block_len - index) es)) in
    let is : blocks_above limit taken s (blocks_of sim index (e ∷ skips) es) ≡ 0 + blocks_above limit taken s (blocks_of sim 0 skips (drop (block_len - index) es)) = ap F first in
    let ih = none_above limit taken s sim 0 skips (drop (block_len - index) es) rest in
    omega (arith, is, ih)

pub nothing_counted : {S : Type 0} (limit : S → ℤ) (taken : S → ℕ × ℕ → S) (s : S) (held : Bool) (sim : TermSimilarity) (index : ℕ) (skips : List SkipEntry) (es : List Entry) → es ≡ [] → counted limit taken s held (blocks_of sim index skips es) ≡ 0
nothing_counted limit taken s false sim index skips es none = none_above limit taken s sim index skips es none
nothing_counted limit taken s true sim index [] es none = refl
nothing_counted limit taken s true sim index (e ∷ skips) es none = none_above limit taken (fed limit taken s (pairs_of (take (block_len - index) es))) sim 0 skips (drop (block_len - index) es) (ap (drop (block_len - index)) none ∙ drop-none (block_len - index))

-- behind the end nothing is decoded any more
pub nothing_to_come : {S : Type 0} (limit : S → ℤ) (taken : S → ℕ × ℕ → S) (s : S) (target : ℕ) (scorer : TermScorer) → terminated ≤ target → to_come limit taken s target scorer ≡ 0
nothing_to_come limit taken s target scorer late = nothing_counted limit taken s (nat_lt (below target (docs_held scorer)) block_len) (similarity_of scorer) (below target (docs_held scorer) % block_len) (drop (below target (docs_held scorer) / block_len) (skips_held scorer)) (from target (scored_left scorer)) (none_behind target 0 (scored_left scorer) late (rising_scored scorer))

-- ---- documents that are left out

-- a test that failed
pub not_less : (t b c : ℤ) → int_lt t b ≡ false → b ≡ c → c ≤ℤ t
not_less t b c test is = grind (arith, ints)

pub not_above : (t : ℤ) (bound score : ℕ) → pos bound ≤ℤ t → score ≤ bound → int_lt t (pos score) ≡ false
not_above (pos t) bound score l few = grind (arith, nat_tests, ints)
not_above (negsuc t) bound score l few = absurd (omega (arith, ints, l))

-- entries of which none is above the threshold
pub low_fed : {S : Type 0} (limit : S → ℤ) (taken : S → ℕ × ℕ → S) (s : S) (bound target until : ℕ) (es : List Entry) → pos bound ≤ℤ limit s → Covers target until bound es → fed limit taken s (pairs_of (up_to until (from target es))) ≡ s
low_fed limit taken s bound target until [] low covers = refl
low_fed {S} limit taken s bound target until (e ∷ es) low covers =
    let ih = low_fed limit taken s bound target until es low covers.1 in
    by_order target e.doc (fed limit taken s (pairs_of (up_to until (from target (e ∷ es)))) ≡ s)
    (λ late. ap (λ xs. fed limit taken s (pairs_of (up_to until xs))) (from-in target e es late) ∙ by_order until e.doc (fed limit taken s (pairs_of (up_to until (e ∷ from target es))) ≡ s)
    (λ out. ap (λ b. fed limit taken s (pairs_of (if b then up_to until (from target es) else e ∷ up_to until (from target es)))) (le-leb until e.doc out) ∙ ih)
    (λ early. ap (λ b. fed limit taken s (pairs_of (if b then up_to until (from target es) else e ∷ up_to until (from target es)))) (lt-leb until e.doc early)
    ∙ (ap (λ (b : Bool). fed limit taken (if b then taken s (e.doc, e.score) else s) (pairs_of (up_to until (from target es)))) (not_above (limit s) bound e.score low (covers.0 late early)) ∙ ih)))
    (λ early. ap (λ xs. fed limit taken s (pairs_of (up_to until xs))) (from-out target e es early) ∙ ih)

-- ---- the first block, and those after it

abbrev pub tail_of : TermSimilarity → List SkipEntry → List Entry → ScoredBlocks
tail_of sim [] es = []
tail_of sim (e ∷ skips) es = blocks_of sim 0 skips es

-- what is left from a document on begins with its block
pub record IsSplit (target until : ℕ) (s : TermScorer) (found : List SkipEntry) : Type 0 where
  pub blocks : blocks_from target s ≡ (block_score (similarity_of s) found, pairs_of (up_to until (from target (scored_left s)))) ∷ tail_of (similarity_of s) found (from until (scored_left s))
  pub some : block_len ≤ below target (docs_held s) → min 1 (length (drop (block_len * (below target (docs_held s) / block_len)) (docs_held s))) ≡ min 1 (length (pairs_of (up_to until (from target (scored_left s)))))

pub split_block : (target until : ℕ) (s : TermScorer) (found : List SkipEntry) → BeginsBlock target s → target ≤ until → until ≡ until_of found → found ≡ drop (below target (docs_held s) / block_len) (skips_held s) → (0 < length found → below (last_doc found + 1) (docs_held s) ≡ block_len * (below target (docs_held s) / block_len + 1)) → IsSplit target until s found
split_block target until s found begins far end reached ends =
    let docs = docs_held s in
    let p = below target docs in
    let es = scored_left s in
    let rest = from target es in
    let docs_rest = docs_from (cursor_place (cursor_of s)) target 0 docs es (ascends_held s) (rising_scored s) (docs_scored s) begins.ahead in
    let many : length rest ≡ length (drop p docs) = sym (length-map rest (λ e. e.doc)) ∙ ap length docs_rest in
    let start : block_len ≤ p → block_len * (p / block_len) ≡ p = λ late. (let none = begins.begins late in omega (arith, none)) in
    let long : block_len ≤ p → length (drop (block_len * (p / block_len)) docs) ≡ length rest = λ late. ap (λ k. length (drop k docs)) (start late) ∙ sym many in
    let whole = ap (λ skips. blocks_of (similarity_of s) (p % block_len) skips rest) (sym reached) in
    let rises = Rising-from target 0 es (rising_scored s) in
    go found end ends whole long (cut_block (cursor_place (cursor_of s)) target until 0 docs es (ascends_held s) (rising_scored s) (docs_scored s) rises begins.ahead) rises
  where
    go : (l : List SkipEntry) → until ≡ until_of l → (0 < length l → below (last_doc l + 1) (docs_held s) ≡ block_len * (below target (docs_held s) / block_len + 1)) → blocks_from target s ≡ blocks_of (similarity_of s) (below target (docs_held s) % block_len) l (from target (scored_left s)) → (block_len ≤ below target (docs_held s) → length (drop (block_len * (below target (docs_held s) / block_len)) (docs_held s)) ≡ length (from target (scored_left s))) → IsCut until (below until (docs_held s) - below target (docs_held s)) (from target (scored_left s)) → Rising 0 (from target (scored_left s)) → IsSplit target until s l
    go [] end ends whole long cut rises =
        let rest = from target (scored_left s) in
        let last : until ≡ terminated = omega (arith, end) in
        let all : up_to until rest ≡ rest = ap (λ t. up_to t rest) last ∙ up_to-end 0 rest rises in
        let len = ap (λ xs. length (pairs_of xs)) all ∙ length-map {B = ℕ × ℕ} rest (λ e. (e.doc, e.score)) in
        record {
          blocks = whole ∙ ap (λ xs. (block_score (similarity_of s) [], pairs_of xs) ∷ []) (sym all);
          some = λ late. (let same = long late in omega (arith, same, len));
        }
    go (e ∷ skips) end ends whole long cut rises =
        let docs = docs_held s in
        let p = below target docs in
        let rest = from target (scored_left s) in
        let first = up_to until rest in
        let n = block_len - p % block_len in
        let next = ends (omega arith) in
        let stop : below until docs ≡ below (e.last_doc + 1) docs = ap (λ t. below t docs) end ∙ below-end (e.last_doc + 1) 0 docs (ascends_held s) in
        let size : below until docs - p ≡ n = omega (arith, next, stop) in
        let before : first ≡ take n rest = cut.before ∙ ap (λ k. take k rest) size in
        let behind : drop n rest ≡ from until (scored_left s) = sym (ap (λ k. drop k rest) size) ∙ (sym cut.behind ∙ from-from target until (scored_left s) far) in
        let len = length-map {B = ℕ × ℕ} first (λ x. (x.doc, x.score)) ∙ (ap length before ∙ length-take n rest) in
        record {
          blocks = whole ∙ ap₂ (λ xs ys. (block_score (similarity_of s) (e ∷ skips), pairs_of xs) ∷ blocks_of (similarity_of s) 0 skips ys) (sym before) behind;
          some = λ late. (let same = long late in let none = begins.begins late in omega (arith, same, len, none));
        }

-- the block is decoded if it isn't held and has documents
pub block_decoded : (target until : ℕ) (s after : TermScorer) (found : List SkipEntry) → IsSplit target until s found → StandsInBlock target s after → (if nat_lt (below target (docs_held s)) block_len then 0 else min 1 (length (docs_held after))) ≡ (if nat_lt (below target (docs_held s)) block_len then 0 else min 1 (length (pairs_of (up_to until (from target (scored_left s))))))
block_decoded target until s after found split block = go (nat_lt (below target (docs_held s)) block_len) refl
  where
    go : (b : Bool) → nat_lt (below target (docs_held s)) block_len ≡ b → (if b then 0 else min 1 (length (docs_held after))) ≡ (if b then 0 else min 1 (length (pairs_of (up_to until (from target (scored_left s))))))
    go true early = refl
    go false late =
        let some = split.some (grind (arith, nat_tests)) in
        ap (λ ds. min 1 (length ds)) block.docs ∙ some

-- ---- the block after one

-- a document begins the block after the one that was found
pub record IsNext (until : ℕ) (found : List SkipEntry) (after : TermScorer) : Type 0 where
  pub blocks : ℕ
  pub some : 0 < blocks
  pub begins : below until (docs_held after) ≡ block_len * blocks
  pub skips : drop blocks (skips_held after) ≡ drop 1 found

pub next_begins : (until : ℕ) (found : List SkipEntry) (after : TermScorer) → IsNext until found after → BeginsBlock until after
next_begins until found after next =
    let begins = next.begins in
    let some = next.some in
    let inside = cursor_inside after in
    record { ahead = omega (arith, begins, some, inside); begins = λ late. omega (arith, begins) }

-- what a walk may decode from that block on
pub comes_next : {S : Type 0} (limit : S → ℤ) (taken : S → ℕ × ℕ → S) (sink : S) (until : ℕ) (found : List SkipEntry) (s after : TermScorer) → until ≡ until_of found → similarity_of after ≡ similarity_of s → from until (scored_left after) ≡ from until (scored_left s) → (0 < length found → IsNext until found after) → to_come limit taken sink until after ≡ blocks_above limit taken sink (tail_of (similarity_of s) found (from until (scored_left s)))
comes_next limit taken sink until [] s after end sim left next =
    nothing_to_come limit taken sink until after (omega (arith, end))
comes_next limit taken sink until (e ∷ skips) s after end sim left next =
    let is = next (omega arith) in
    let m = below until (docs_held after) in
    let begins = is.begins in
    let some = is.some in
    let index : m % block_len ≡ 0 = omega (arith, begins) in
    let which : m / block_len ≡ is.blocks = omega (arith, begins) in
    let far : nat_lt m block_len ≡ false = (let late : block_len ≤ m = omega (arith, begins, some) in grind (arith, nat_tests)) in
    let entries : drop (m / block_len) (skips_held after) ≡ skips = ap (λ k. drop k (skips_held after)) which ∙ is.skips in
    ap (λ b. counted limit taken sink b (blocks_from until after)) far
    ∙ (ap₂ (λ k xs. blocks_above limit taken sink (blocks_of (similarity_of after) k xs (from until (scored_left after)))) index entries
    ∙ ap₂ (λ sm es. blocks_above limit taken sink (blocks_of sm 0 skips es)) sim left)

-- there is one where the block ends before the end
pub some_found : (found : List SkipEntry) → until_of found < terminated → 0 < length found
some_found [] early = absurd (omega (arith, early))
some_found (e ∷ skips) early = omega arith

-- it is the next of a scorer that stays
pub next_of_stayed : (target until : ℕ) (found : List SkipEntry) (s after : TermScorer) → until ≡ until_of found → found ≡ drop (below target (docs_held s) / block_len) (skips_held s) → (0 < length found → below (last_doc found + 1) (docs_held s) ≡ block_len * (below target (docs_held s) / block_len + 1)) → docs_held after ≡ docs_held s → skips_held after ≡ skips_held s → 0 < length found → IsNext until found after
next_of_stayed target until found s after end reached ends docs skips some =
    let k = below target (docs_held s) / block_len in
    let next = ends some in
    let stop : below until (docs_held s) ≡ below (last_doc found + 1) (docs_held s) = ap (λ t. below t (docs_held s)) end ∙ below-end (last_doc found + 1) 0 (docs_held s) (ascends_held s) in
    record {
      blocks = k + 1;
      some = omega arith;
      begins = ap (below until) docs ∙ (stop ∙ next);
      skips = ap (drop (k + 1)) skips ∙ (sym (drop-drop 1 k (skips_held s)) ∙ ap (drop 1) (sym reached));
    }

-- and of one that went to the block that was found
pub next_of_block : (target until : ℕ) (found : List SkipEntry) (s after : TermScorer) → until ≡ until_of found → found ≡ drop (below target (docs_held s) / block_len) (skips_held s) → (0 < length found → below (last_doc found + 1) (docs_held s) ≡ block_len * (below target (docs_held s) / block_len + 1)) → StandsInBlock target s after → 0 < length found → IsNext until found after
next_of_block target until found s after end reached ends block some =
    let k = below target (docs_held s) / block_len in
    let next = ends some in
    let stop : below until (docs_held s) ≡ below (last_doc found + 1) (docs_held s) = ap (λ t. below t (docs_held s)) end ∙ below-end (last_doc found + 1) 0 (docs_held s) (ascends_held s) in
    let cut = below-drop until (block_len * k) 0 (docs_held s) (ascends_held s) in
    let here : below until (docs_held after) ≡ below until (drop (block_len * k) (docs_held s)) = ap (below until) block.docs in
    record {
      blocks = 1;
      some = omega arith;
      begins = omega (arith, here, cut, stop, next);
      skips = ap (drop 1) (block.skips ∙ sym reached);
    }

-- ---- the start

pub starts : (s : TermScorer) → first (scored_left s) < terminated → BeginsBlock (first (scored_left s)) s
starts s on =
    let own = first_index s on in
    let inside = cursor_inside s in
    record { ahead = omega (arith, own); begins = λ late. absurd (omega (arith, own, inside, late)) }

pub comes_first : {S : Type 0} (limit : S → ℤ) (taken : S → ℕ × ℕ → S) (sink : S) (target : ℕ) (s : TermScorer) → target ≡ first (scored_left s) → to_come limit taken sink target s ≡ later_blocks_above limit taken sink (blocks_left s)
comes_first limit taken sink target s at =
    let whole = from-first target 0 (scored_left s) (omega (arith, at)) (rising_scored s) in
    by_order terminated target (to_come limit taken sink target s ≡ later_blocks_above limit taken sink (blocks_left s))
    (λ late.
    (let behind = none_behind target 0 (scored_left s) late (rising_scored s) in
    let none = nothing_to_come limit taken sink target s late in
    let empty = nothing_counted limit taken sink true (similarity_of s) (cursor_place (cursor_of s)) (skips_held s) (scored_left s) (sym whole ∙ behind) in
    none ∙ sym empty))
    (λ on.
    (let own = first_index s (omega (arith, at, on)) in
    let same = ap (λ t. below t (docs_held s)) at in
    let inside = cursor_inside s in
    let p = below target (docs_held s) in
    let index : p % block_len ≡ cursor_place (cursor_of s) = omega (arith, own, same, inside) in
    let none : p / block_len ≡ 0 = omega (arith, own, same, inside) in
    let held : nat_lt p block_len ≡ true = (let early : p < block_len = omega (arith, own, same, inside) in grind (arith, nat_tests)) in
    ap (λ b. counted limit taken sink b (blocks_from target s)) held
    ∙ (ap₂ (λ k m. later_blocks_above limit taken sink (blocks_of (similarity_of s) k (drop m (skips_held s)) (from target (scored_left s)))) index none
    ∙ ap (λ es. later_blocks_above limit taken sink (blocks_of (similarity_of s) (cursor_place (cursor_of s)) (skips_held s) es)) whole)))
