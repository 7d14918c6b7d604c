-- Moves of a cursor over documents, by the blocks that it holds.
use Rattle.std.proofs.Common.{[], List, ap, arith, cond, drop, get_or, length, map, min, nat_lt, refl, true, ◌*◌, ◌/◌, ◌≡◌, ◌∷◌, ℕ}
use Rattle.std.proofs.lemmas.Bool.Decides.{nat_tests}
use Rattle.segment_postings.specs.Cursors.{HasMoved, counts_left, docs_left}
use Rattle.segment_postings.specs.TermEntries.{entries_of}
use Rattle.segment_postings.specs.declared.segment_postings.SegmentPostings.{SegmentPostings}

-- a cursor that stays went on to its own index
pub stays : (s : SegmentPostings) → HasMoved s.cur s s
stays s =
    let inside = s.inside in
    let none : 0 ≡ s.cur / 128 = omega (arith, inside) in
    let start : 0 ≡ 128 * (s.cur / 128) = omega (arith, inside) in
    let yes : nat_lt s.cur 128 ≡ true = grind (arith, nat_tests) in
    let more = ap (λ b. cond b 0 (min 1 (length (docs_left s.blocks)))) yes in
    record {
      index_is = omega (arith, inside);
      docs = ap (λ k. drop k (docs_left s.blocks)) start;
      counts = ap (λ k. drop k (counts_left s.blocks)) start;
      entries = ap (λ k. drop k s.blocks.skips.left) none;
      decoded = omega (arith, more);
      doc_freq = refl;
      positions = refl;
    }

-- the documents of entries
pub docs_of : (docs counts numbers : List ℕ) → map (λ e. e.doc) (entries_of docs counts numbers) ≡ docs
docs_of [] counts numbers = refl
docs_of (d ∷ ds) counts numbers = ap (λ xs. d ∷ xs) (docs_of ds (drop 1 counts) (drop (get_or counts 0 0) numbers))
