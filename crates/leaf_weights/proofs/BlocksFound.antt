-- The blocks that a term's scorer has left are those of the documents that hold the term.
use Rattle.std.proofs.Common.{[], Bool, List, None, Some, ap, ap₂, arith, drop, false, filter, filter_map, if◌then◌else◌, length, map, nat_eq, refl, suc, sym, take, true, zero, ◌&&◌, ◌*◌, ◌+◌, ◌-◌, ◌/◌, ◌<◌, ◌∙◌, ◌∷◌, ◌≡◌, ℕ}
use Rattle.std.specs.Prelude.{int_lt, nat_le, nat_lt, pos, ℤ}
use Rattle.std.proofs.lemmas.Bool.Decides.{nat_tests}
use Rattle.std.proofs.lemmas.List.{drop_all, length-drop, length-map, take_all}
use Rattle.std.specs.List.{cons_option, drop-map, enumerate_from, take-map, zip}
use Rattle.definitions.proofs.Joins.{pieces-nil}
use Rattle.definitions.specs.Analyzers.{Analyzer}
use Rattle.definitions.specs.Answers.{answer_at, answers}
use Rattle.definitions.specs.Blocks.{blocks, bound_of, bound_score, id_and_count, ids_and_counts, least_of, max_bound_count}
use Rattle.definitions.specs.Postings.{posting_of, postings}
use Rattle.definitions.specs.Query.{term}
use Rattle.definitions.specs.Recorded.{count_of, holds, positions_of}
use Rattle.definitions.specs.Schema.{IndexRecordOption, Schema}
use Rattle.definitions.specs.Scoring.{Similarity, greatest_of, score}
use Rattle.definitions.specs.Sinks.{ScoredBlocks, blocks_above, fed, later_blocks_above}
use Rattle.definitions.specs.State.{groups_of, pieces}
use Rattle.definitions.specs.TermBlocks.{scored_blocks}
use Rattle.definitions.specs.Values.{Document}
use Rattle.docsets.specs.Entries.{Entry}
use Rattle.docsets.specs.ScoredEntries.{pairs_of}
use Rattle.layouts.specs.SkipEntries.{SkipEntry}
use Rattle.layouts.specs.TermPostings.{bound_in}
use Rattle.walks.specs.BlocksLeft.{blocks_left, blocks_of, skips_held}
use Rattle.segment_postings.specs.Cursors.{cursor_place}
use Rattle.segment_reader.specs.Readers.{full_bounds}
use Rattle.term_scorer.specs.ScoredTerms.{cursor_of, scored_left, similarity_of}
use Rattle.term_scorer.specs.TermScores.{TermSimilarity}
use Rattle.term_scorer.specs.declared.term_scorer.TermScorer.{TermScorer}
use Rattle.leaf_weights.proofs.TermAnswers.{by_term}
use Rattle.leaf_weights.specs.DecodedBlocks.{decoded_for}

-- ---- pieces

pieces_more : {X : Type 0} (xs : List X) → 0 < length xs → pieces 128 xs ≡ take 128 xs ∷ pieces 128 (drop 128 xs)
pieces_more xs some =
    let left = length-drop 128 xs in
    let e : (length xs + 128 - 1) / 128 ≡ suc ((length (drop 128 xs) + 128 - 1) / 128) = omega (arith, left) in
    ap (λ n. groups_of n 128 xs) e

one_piece : {X : Type 0} (xs : List X) → 0 < length xs → length xs < 128 → pieces 128 xs ≡ xs ∷ []
one_piece {X} xs some few =
    let none : drop 128 xs ≡ [] = drop_all 128 xs (omega (arith, few)) in
    pieces_more xs some ∙ ap₂ (λ (p : List X) (q : List (List X)). p ∷ q) (take_all 128 xs (omega (arith, few))) (ap (pieces 128) none ∙ pieces-nil 128)

-- ---- blocks that are counted alike

record AreAlike {S : Type 0} (limit : S → ℤ) (taken : S → ℕ × ℕ → S) (some others : ScoredBlocks) : Type 0 where
  all : (s : S) → blocks_above limit taken s some ≡ blocks_above limit taken s others
  later : (s : S) → later_blocks_above limit taken s some ≡ later_blocks_above limit taken s others

one_more : {S : Type 0} (limit : S → ℤ) (taken : S → ℕ × ℕ → S) (block : ℕ × List (ℕ × ℕ)) (some others : ScoredBlocks) → AreAlike limit taken some others → AreAlike limit taken (block ∷ some) (block ∷ others)
one_more limit taken block some others alike = record {
  all = λ s. ap (λ n. (if nat_lt 0 (length block.1) && int_lt (limit s) (pos block.0) then 1 else 0) + n) (alike.all (fed limit taken s block.1));
  later = λ s. alike.all (fed limit taken s block.1);
}

same_alike : {S : Type 0} (limit : S → ℤ) (taken : S → ℕ × ℕ → S) (some others : ScoredBlocks) → some ≡ others → AreAlike limit taken some others
same_alike limit taken some others same = record { all = λ s. ap (λ bs. blocks_above limit taken s bs) same; later = λ s. ap (λ bs. later_blocks_above limit taken s bs) same }

then_alike : {S : Type 0} (limit : S → ℤ) (taken : S → ℕ × ℕ → S) (a b c d : ScoredBlocks) → a ≡ b → AreAlike limit taken b c → c ≡ d → AreAlike limit taken a d
then_alike limit taken a b c d first alike last = record {
  all = λ s. ap (λ bs. blocks_above limit taken s bs) first ∙ (alike.all s ∙ ap (λ bs. blocks_above limit taken s bs) last);
  later = λ s. ap (λ bs. later_blocks_above limit taken s bs) first ∙ (alike.later s ∙ ap (λ bs. later_blocks_above limit taken s bs) last);
}

-- a block without documents counts for nothing
empty_alike : {S : Type 0} (limit : S → ℤ) (taken : S → ℕ × ℕ → S) (bound : ℕ) → AreAlike limit taken ((bound, []) ∷ []) []
empty_alike limit taken bound = record { all = λ s. refl; later = λ s. refl }

-- ---- blocks of entries, and of what they were made of

abbrev score_of : TermSimilarity → List (ℕ × ℕ) → ℕ
score_of sim block = bound_score sim.boost sim.weight sim.norms (bound_of block)

abbrev blocks_with : TermSimilarity → List (ℕ × ℕ) → List (ℕ × ℕ) → ScoredBlocks
blocks_with sim xs ps = zip (map (score_of sim) (pieces 128 xs)) (pieces 128 ps)

rest_unbounded : (xs : List (ℕ × ℕ)) → length xs < 128 → bound_of xs ≡ None
rest_unbounded xs few =
    let other : nat_eq (length xs) 128 ≡ false = grind (arith, nat_tests) in
    ap (λ b. if b && nat_le (greatest_of (map (λ p. p.1) xs)) max_bound_count then Some (least_of (map (λ p. p.0) xs), greatest_of (map (λ p. p.1) xs)) else None) other

rest_alike : {S : Type 0} (limit : S → ℤ) (taken : S → ℕ × ℕ → S) (sim : TermSimilarity) (xs : List (ℕ × ℕ)) (es : List Entry) → length xs ≡ length es → length xs < 128 → AreAlike limit taken (blocks_of sim 0 [] es) (blocks_with sim xs (pairs_of es))
rest_alike limit taken sim [] [] same few =
    then_alike limit taken _ _ _ _ refl (empty_alike limit taken (sim.boost * sim.weight)) (sym (ap₂ (λ (ys : List (List (ℕ × ℕ))) (zs : List (List (ℕ × ℕ))). zip (map (score_of sim) ys) zs) (pieces-nil 128) (pieces-nil 128)))
rest_alike limit taken sim [] (e ∷ es) same few = absurd (omega (arith, same))
rest_alike limit taken sim (x ∷ xs) [] same few = absurd (omega (arith, same))
rest_alike limit taken sim (x ∷ xs) (e ∷ es) same few =
    let long = length-map {B = ℕ × ℕ} (e ∷ es) (λ y. (y.doc, y.score)) in
    let cut : pieces 128 (x ∷ xs) ≡ (x ∷ xs) ∷ [] = one_piece (x ∷ xs) (omega arith) few in
    let fed_cut : pieces 128 (pairs_of (e ∷ es)) ≡ pairs_of (e ∷ es) ∷ [] = one_piece (pairs_of (e ∷ es)) (omega (arith, long)) (omega (arith, long, same, few)) in
    let bound = ap (λ o. bound_score sim.boost sim.weight sim.norms o) (rest_unbounded (x ∷ xs) few) in
    same_alike limit taken _ _ (sym (ap₂ (λ (ys : List (List (ℕ × ℕ))) (zs : List (List (ℕ × ℕ))). zip (map (score_of sim) ys) zs) cut fed_cut ∙ ap (λ (n : ℕ). (n, pairs_of (e ∷ es)) ∷ []) bound))

-- a list that is made of none has none
none_made : (skips : List SkipEntry) → map bound_in skips ≡ [] → skips ≡ []
none_made [] none = refl
none_made (e ∷ skips) none = absurd (let no : ⊥ = cc in no)

blocks_alike : {S : Type 0} (limit : S → ℤ) (taken : S → ℕ × ℕ → S) (sim : TermSimilarity) (k : ℕ) (xs : List (ℕ × ℕ)) (es : List Entry) (skips : List SkipEntry) → length xs ≡ length es → k ≡ length xs / 128 → map bound_in skips ≡ map bound_of (take k (pieces 128 xs)) → AreAlike limit taken (blocks_of sim 0 skips es) (blocks_with sim xs (pairs_of es))
blocks_alike limit taken sim zero xs es skips same many bounds =
    then_alike limit taken _ _ _ _ (ap (λ l. blocks_of sim 0 l es) (none_made skips bounds)) (rest_alike limit taken sim xs es same (omega (arith, many))) refl
blocks_alike limit taken sim (suc k) xs es skips same many bounds =
    let some : 0 < length xs = omega (arith, many) in
    let long = length-map {B = ℕ × ℕ} es (λ y. (y.doc, y.score)) in
    let cut = pieces_more xs some in
    let fed_cut = pieces_more (pairs_of es) (omega (arith, long, same, some)) in
    let first : take 128 (pairs_of es) ≡ pairs_of (take 128 es) = take-map (λ (e : Entry). (e.doc, e.score)) 128 es in
    let left : drop 128 (pairs_of es) ≡ pairs_of (drop 128 es) = drop-map (λ (e : Entry). (e.doc, e.score)) 128 es in
    let xs_left = length-drop 128 xs in
    let es_left = length-drop 128 es in
    let told = bounds ∙ ap (λ ys. map bound_of (take (suc k) ys)) cut in
    let whole : blocks_with sim xs (pairs_of es) ≡ (score_of sim (take 128 xs), pairs_of (take 128 es)) ∷ blocks_with sim (drop 128 xs) (pairs_of (drop 128 es)) =
    ap₂ (λ (ys : List (List (ℕ × ℕ))) (zs : List (List (ℕ × ℕ))). zip (map (score_of sim) ys) zs) cut fed_cut
    ∙ ap₂ (λ (p : List (ℕ × ℕ)) (q : List (ℕ × ℕ)). (score_of sim (take 128 xs), p) ∷ blocks_with sim (drop 128 xs) q) first left in
    go skips told whole (λ l rest. blocks_alike limit taken sim k (drop 128 xs) (drop 128 es) l (omega (arith, xs_left, es_left, same)) (omega (arith, xs_left, many)) rest)
  where
    go : (l : List SkipEntry) → map bound_in l ≡ bound_of (take 128 xs) ∷ map bound_of (take k (pieces 128 (drop 128 xs))) → blocks_with sim xs (pairs_of es) ≡ (score_of sim (take 128 xs), pairs_of (take 128 es)) ∷ blocks_with sim (drop 128 xs) (pairs_of (drop 128 es)) → ((m : List SkipEntry) → map bound_in m ≡ map bound_of (take k (pieces 128 (drop 128 xs))) → AreAlike limit taken (blocks_of sim 0 m (drop 128 es)) (blocks_with sim (drop 128 xs) (pairs_of (drop 128 es)))) → AreAlike limit taken (blocks_of sim 0 l es) (blocks_with sim xs (pairs_of es))
    go [] told whole ih = absurd (let no : ⊥ = cc in no)
    go (e ∷ l) told whole ih =
        let here : bound_in e ≡ bound_of (take 128 xs) = cc in
        let rest : map bound_in l ≡ map bound_of (take k (pieces 128 (drop 128 xs))) = cc in
        let bound = ap (λ o. bound_score sim.boost sim.weight sim.norms o) here in
        then_alike limit taken _ _ _ _ (ap (λ (n : ℕ). (n, pairs_of (take 128 es)) ∷ blocks_of sim 0 l (drop 128 es)) bound) (one_more limit taken (score_of sim (take 128 xs), pairs_of (take 128 es)) _ _ (ih l rest)) (sym whole)

-- ---- the first block

-- where there is a document, the first block counts
pub first_counted : {S : Type 0} (limit : S → ℤ) (taken : S → ℕ × ℕ → S) (s : S) (es : List Entry) (ps : List (ℕ × ℕ)) (blocks : ScoredBlocks) → pairs_of es ≡ ps → 0 < length es → decoded_for limit taken s ps blocks ≡ 1 + later_blocks_above limit taken s blocks
first_counted limit taken s [] ps blocks same some = absurd (omega (arith, some))
first_counted limit taken s (e ∷ es) ps blocks same some = ap (λ (xs : List (ℕ × ℕ)). decoded_for limit taken s xs blocks) (sym same)

-- ---- documents

module _ (schema : Schema) (analyze : Analyzer) (sim : Similarity) (b : ℕ) (t : List ℕ) (option : IndexRecordOption) where
  as_many : (n : ℕ) (docs : List Document) → length (ids_and_counts schema analyze t docs) ≡ length (filter_map (answer_at schema analyze sim b (term t option)) (enumerate_from n docs))
  as_many n [] = refl
  as_many n (doc ∷ docs) = go (holds schema analyze t doc) (as_many (n + 1) docs)
    where
      go : (h : Bool) → length (ids_and_counts schema analyze t docs) ≡ length (filter_map (answer_at schema analyze sim b (term t option)) (enumerate_from (n + 1) docs)) → length (map (id_and_count schema analyze t) (if h then doc ∷ filter (holds schema analyze t) docs else filter (holds schema analyze t) docs)) ≡ length (cons_option (if h then Some (n, score schema analyze sim doc b (term t option)) else None) (filter_map (answer_at schema analyze sim b (term t option)) (enumerate_from (n + 1) docs)))
      go true ih = ap suc ih
      go false ih = ih

  as_many_postings : (n : ℕ) (docs : List Document) → length (ids_and_counts schema analyze t docs) ≡ length (filter_map (posting_of schema analyze t) (enumerate_from n docs))
  as_many_postings n [] = refl
  as_many_postings n (doc ∷ docs) = go (holds schema analyze t doc) (as_many_postings (n + 1) docs)
    where
      go : (h : Bool) → length (ids_and_counts schema analyze t docs) ≡ length (filter_map (posting_of schema analyze t) (enumerate_from (n + 1) docs)) → length (map (id_and_count schema analyze t) (if h then doc ∷ filter (holds schema analyze t) docs else filter (holds schema analyze t) docs)) ≡ length (cons_option (if h then Some (record { doc = n; count = count_of schema analyze t doc; positions = positions_of schema analyze t doc }) else None) (filter_map (posting_of schema analyze t) (enumerate_from (n + 1) docs)))
      go true ih = ap suc ih
      go false ih = ih

  -- what a scorer has left at its start is counted as the blocks of the documents are
  pub blocks_found : {S : Type 0} (limit : S → ℤ) (taken : S → ℕ × ℕ → S) (s : S) (docs : List Document) (scorer : TermScorer) → pairs_of (scored_left scorer) ≡ answers schema analyze sim b (term t option) docs → similarity_of scorer ≡ by_term schema analyze sim b t option → cursor_place (cursor_of scorer) ≡ 0 → map bound_in (skips_held scorer) ≡ full_bounds schema analyze t docs → later_blocks_above limit taken s (blocks_left scorer) ≡ later_blocks_above limit taken s (scored_blocks schema analyze sim b t option docs)
  blocks_found limit taken s docs scorer pairs similarity place bounds =
      let xs = ids_and_counts schema analyze t docs in
      let es = scored_left scorer in
      let by = by_term schema analyze sim b t option in
      let many = as_many 0 docs in
      let long = length-map {B = ℕ × ℕ} es (λ (e : Entry). (e.doc, e.score)) in
      let answered = ap length pairs in
      let full : length (postings schema analyze t docs) / 128 ≡ length xs / 128 = ap (λ n. n / 128) (sym (as_many_postings 0 docs)) in
      let told = bounds ∙ ap (λ k. map bound_of (take k (blocks schema analyze t docs))) full in
      ap₂ (λ sm k. later_blocks_above limit taken s (blocks_of sm k (skips_held scorer) es)) similarity place
      ∙ ((blocks_alike limit taken by (length xs / 128) xs es (skips_held scorer) (omega (arith, many, long, answered)) refl told).later s
      ∙ ap (λ ps. later_blocks_above limit taken s (blocks_with by xs ps)) pairs)
