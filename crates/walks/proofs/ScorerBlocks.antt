-- Where a term's scorer stands in the block that it holds.
use Rattle.std.proofs.Common.{[], List, ap, ap₂, arith, drop, if◌then◌else◌, length, min, nat_lt, refl, sum, sym, take, true, ◌*◌, ◌+◌, ◌/◌, ◌<◌, ◌≡◌, ◌≤◌, ◌∙◌, ◌∷◌, ℕ}
use Rattle.std.proofs.lemmas.Bool.Decides.{nat_tests}
use Rattle.definitions.specs.Blocks.{block_len}
use Rattle.definitions.specs.Postings.{terminated}
use Rattle.docsets.specs.Entries.{Entry, first}
use Rattle.docsets.specs.ScoredEntries.{rescored_by}
use Rattle.walks.proofs.EntryCuts.{below-drop, below-in, below-out, below-own, docs_in}
use Rattle.walks.specs.BlocksLeft.{StandsInBlock, blocks_decoded_by, docs_held, skips_held}
use Rattle.segment_postings.proofs.CursorMoves.{docs_of}
use Rattle.segment_postings.proofs.Passing.{stops_here}
use Rattle.segment_postings.specs.Cursors.{counts_left, cursor_blocks, cursor_place, docs_left, entries_left}
use Rattle.segment_postings.specs.Reading.{Ascends, below}
use Rattle.codes.specs.SkipBlocks.{last_doc}
use Rattle.codes.specs.UnpackedBlocks.{listed}
use Rattle.term_scorer.specs.ScoredTerms.{MovesOn, cursor_of, scored_left, similarity_of}
use Rattle.term_scorer.specs.TermScores.{entry_score}
use Rattle.term_scorer.specs.Similarities.{similarity_data}
use Rattle.term_scorer.specs.declared.term_scorer.TermScorer.{TermScorer}

-- ---- documents

pub docs_rescored : (f : Entry → ℕ) (es : List Entry) → docs_in (rescored_by f es) ≡ docs_in es
docs_rescored f [] = refl
docs_rescored f (e ∷ es) = ap (λ xs. e.doc ∷ xs) (docs_rescored f es)

-- the documents that remain of a scorer are those of its blocks from its index on
pub docs_scored : (s : TermScorer) → docs_in (scored_left s) ≡ drop (cursor_place (cursor_of s)) (docs_held s)
docs_scored s =
    let blocks = cursor_blocks (cursor_of s) in
    let cur = cursor_place (cursor_of s) in
    docs_rescored (entry_score (similarity_data s.similarity) s.fieldnorm_reader) (entries_left (cursor_of s))
    ∙ docs_of (drop cur (docs_left blocks)) (drop cur (counts_left blocks)) (drop (blocks.skips.position_offset + sum (take cur (counts_left blocks))) (listed s.postings.positions))

pub ascends_held : (s : TermScorer) → Ascends 0 (docs_held s)
ascends_held s = s.postings.blocks.ascends

pub cursor_inside : (s : TermScorer) → cursor_place (cursor_of s) < block_len
cursor_inside s = s.postings.inside

-- up to the last document of the block that is held stand fewer than a block's documents before one
pub few_before : (t : ℕ) (s : TermScorer) → t ≤ last_doc (skips_held s) → below t (docs_held s) < block_len
few_before t s late = stops_here s.postings.blocks.reads_counts s.postings.blocks.reads_positions t s.postings.blocks.before s.postings.blocks.skips s.postings.blocks.bytes.now s.postings.blocks.stands late

-- ---- indices

below_first : (t : ℕ) (es : List Entry) → t ≤ first es → below t (docs_in es) ≡ 0
below_first t [] l = refl
below_first t (e ∷ es) l = below-out t e.doc (docs_in es) l

-- a document that the cursor hasn't passed is in the block that is held, or before it
pub held_behind : (t : ℕ) (s : TermScorer) → t ≤ first (scored_left s) → below t (docs_held s) ≤ cursor_place (cursor_of s)
held_behind t s late =
    let none = below_first t (scored_left s) late in
    let same = ap (below t) (docs_scored s) in
    let cut = below-drop t (cursor_place (cursor_of s)) 0 (docs_held s) (ascends_held s) in
    omega (arith, none, same, cut)

-- as many documents of the blocks are below the current one as stand before its index
pub first_index : (s : TermScorer) → first (scored_left s) < terminated → below (first (scored_left s)) (docs_held s) ≡ cursor_place (cursor_of s)
first_index s on =
    let behind = held_behind (first (scored_left s)) s (omega arith) in
    let all = go (scored_left s) on (docs_scored s) in
    omega (arith, behind, all)
  where
    go : (es : List Entry) → first es < terminated → docs_in es ≡ drop (cursor_place (cursor_of s)) (docs_held s) → cursor_place (cursor_of s) ≤ below (first es) (docs_held s)
    go [] on at = absurd (omega (arith, on))
    go (e ∷ es) on at = below-own (cursor_place (cursor_of s)) 0 e.doc (docs_held s) (docs_in es) (ascends_held s) (sym at)

some_below : (es : List Entry) → first es < terminated → 1 ≤ below (first es + 1) (docs_in es)
some_below [] on = absurd (omega (arith, on))
some_below (e ∷ es) on = (let in_it = below-in (e.doc + 1) e.doc (docs_in es) (omega arith) in omega (arith, in_it))

-- the document after one that isn't the last of the block that is held is in that block
pub next_inside : (s : TermScorer) → first (scored_left s) < terminated → first (scored_left s) + 1 ≤ last_doc (skips_held s) → cursor_place (cursor_of s) + 1 < block_len
next_inside s on early =
    let next = first (scored_left s) + 1 in
    let some = some_below (scored_left s) on in
    let same = ap (below next) (docs_scored s) in
    let cut = below-drop next (cursor_place (cursor_of s)) 0 (docs_held s) (ascends_held s) in
    let few = few_before next s early in
    omega (arith, some, same, cut, few)

-- ---- moves

-- a move in the block that is held
pub record IsSameBlock (before after : TermScorer) : Type 0 where
  pub docs : docs_held after ≡ docs_held before
  pub skips : skips_held after ≡ skips_held before
  pub decoded : blocks_decoded_by after ≡ blocks_decoded_by before
  pub similarity : similarity_of after ≡ similarity_of before

pub moved_inside : (index : ℕ) (before after : TermScorer) → index < block_len → MovesOn index before after → IsSameBlock before after
moved_inside index before after inside moves =
    let start : block_len * (index / block_len) ≡ 0 = omega (arith, inside) in
    let none : index / block_len ≡ 0 = omega (arith, inside) in
    let yes : nat_lt index block_len ≡ true = grind (arith, nat_tests) in
    let count = moves.moved.decoded in
    let more = ap (λ b. if b then 0 else min 1 (length (docs_held after))) yes in
    record {
      docs = moves.moved.docs ∙ ap (λ k. drop k (docs_held before)) start;
      skips = moves.moved.entries ∙ ap (λ k. drop k (skips_held before)) none;
      decoded = omega (arith, count, more);
      similarity = moves.similarity;
    }

pub stays_in : (target : ℕ) (start before after : TermScorer) → IsSameBlock before after → StandsInBlock target start before → StandsInBlock target start after
stays_in target start before after same block =
    let count = same.decoded in
    let was = block.decoded in
    let len = ap (λ ds. if nat_lt (below target (docs_held start)) block_len then 0 else min 1 (length ds)) same.docs in
    record {
      docs = same.docs ∙ block.docs;
      skips = same.skips ∙ block.skips;
      decoded = omega (arith, count, was, len);
      similarity = same.similarity ∙ block.similarity;
    }

-- a move that began in the same block
pub stands_from : (target : ℕ) (before after last : TermScorer) → IsSameBlock before after → StandsInBlock target after last → StandsInBlock target before last
stands_from target before after last same block =
    let count = same.decoded in
    let was = block.decoded in
    let index = ap (λ ds. if nat_lt (below target ds) block_len then 0 else min 1 (length (docs_held last))) same.docs in
    record {
      docs = block.docs ∙ ap (λ ds. drop (block_len * (below target ds / block_len)) ds) same.docs;
      skips = block.skips ∙ ap₂ (λ ds skips. drop (below target ds / block_len) skips) same.docs same.skips;
      decoded = omega (arith, count, was, index);
      similarity = block.similarity ∙ same.similarity;
    }

-- where the document is in the block that is held, nothing has to be decoded
pub stands_already : (target : ℕ) (s : TermScorer) → below target (docs_held s) < block_len → StandsInBlock target s s
stands_already target s inside =
    let index = below target (docs_held s) in
    let start : 0 ≡ block_len * (index / block_len) = omega (arith, inside) in
    let none : 0 ≡ index / block_len = omega (arith, inside) in
    let yes : nat_lt index block_len ≡ true = grind (arith, nat_tests) in
    let more = ap (λ b. if b then 0 else min 1 (length (docs_held s))) yes in
    record {
      docs = ap (λ k. drop k (docs_held s)) start;
      skips = ap (λ k. drop k (skips_held s)) none;
      decoded = omega (arith, more);
      similarity = refl;
    }

pub stands_sought : (target : ℕ) (before after : TermScorer) → MovesOn (below target (docs_held before)) before after → StandsInBlock target before after
stands_sought target before after moves = record { docs = moves.moved.docs; skips = moves.moved.entries; decoded = moves.moved.decoded; similarity = moves.similarity }
