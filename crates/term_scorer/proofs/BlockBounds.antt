-- No score is above the bound of its block.
use Rattle.docsets.specs.Bounds.{Covers}
use Rattle.std.proofs.Common.{[], Bool, List, None, Some, ap, arith, drop, false, get_or, if◌then◌else◌, length, length-drop, nat_lt, refl, slice_index, subst, suc, sum, sym, take, true, zero, ◌+◌, ◌/◌, ◌<◌, ◌≡◌, ◌≤◌, ◌∙◌, ◌∷◌, ℕ}
use Rattle.std.proofs.Math.Nat.{mul-le-mul_left}
use Rattle.std.proofs.lemmas.Bool.Decides.{nat_tests}
use Rattle.std.proofs.lemmas.List.{get_or-drop}
use Rattle.definitions.proofs.BlockBounds.{norms_rise, part_rises}
use Rattle.definitions.specs.Blocks.{bound_score}
use Rattle.definitions.specs.Scoring.{DontFall}
use Rattle.layouts.specs.SkipEntries.{SkipEntry}
use Rattle.layouts.specs.TermPostings.{id_of}
use Rattle.segment_postings.proofs.BoundedBlocks.{bound_holds, bounded_on}
use Rattle.segment_postings.specs.BoundedBlocks.{AreBounded}
use Rattle.segment_postings.specs.Cursors.{HasMoved, counts_left, cursor_blocks, docs_left, skips_left}
use Rattle.segment_postings.specs.TermEntries.{entries_from, entries_of}
use Rattle.segment_postings.specs.declared.segment_postings.SegmentPostings.{SegmentPostings}
use Rattle.codes.specs.SkipBlocks.{last_doc}
use Rattle.term_scorer.specs.BlockScores.{block_score, until_of}
use Rattle.term_scorer.specs.TermScoreLaws.{score-below}
use Rattle.term_scorer.specs.TermScores.{TermSimilarity, documents_bound, score_by, term_scored}

-- ---- one document

score_bounded : (sim : TermSimilarity) (id count : ℕ) (es : List SkipEntry) → DontFall sim.norms → length sim.norms ≡ 256 → id < 256 → ((e : SkipEntry) (rest : List SkipEntry) → es ≡ e ∷ rest → e.greatest_count ≤ 254 → (e.least_id ≤ id) × (count ≤ e.greatest_count)) → score_by sim id count ≤ block_score sim es
score_bounded sim id count [] fall many fits told = score-below sim id count
score_bounded sim id count (e ∷ rest) fall many fits told = go (nat_lt 254 e.greatest_count) refl
  where
    go : (b : Bool) → nat_lt 254 e.greatest_count ≡ b → score_by sim id count ≤ bound_score sim.boost sim.weight sim.norms (if b then None else Some (e.least_id, e.greatest_count))
    go true t = score-below sim id count
    go false t =
        let few : e.greatest_count ≤ 254 = grind (arith, nat_tests) in
        let here = told e rest refl few in
        mul-le-mul_left sim.boost (part_rises sim.weight count (slice_index sim.norms id) e.greatest_count (slice_index sim.norms e.least_id) here.1 (norms_rise sim.norms fall e.least_id id here.0 (omega (arith, fits, many))))

-- ---- entries by their indices

same_id : (ids : List ℕ) (doc : ℕ) → doc < length ids → id_of ids doc ≡ get_or ids doc 0
same_id [] doc within = absurd (omega (arith, within))
same_id (x ∷ xs) zero within = refl
same_id (x ∷ xs) (suc doc) within = same_id xs doc (omega (arith, within))

below_bound : (docs counts numbers : List ℕ) (i : ℕ) → i < length docs → get_or docs i 0 < documents_bound (entries_of docs counts numbers)
below_bound [] counts numbers i within = absurd (omega (arith, within))
below_bound (d ∷ ds) counts numbers zero within = omega arith
below_bound (d ∷ ds) counts numbers (suc i) within = (let ih = below_bound ds (drop 1 counts) (drop (get_or counts 0 0) numbers) i (omega (arith, within)) in omega (arith, ih))

covered_entries : (sim : TermSimilarity) (ids : List ℕ) (target until n : ℕ) (docs counts numbers : List ℕ) → ((i : ℕ) → i < length docs → target ≤ get_or docs i 0 → get_or docs i 0 < until → score_by sim (slice_index ids (get_or docs i 0)) (get_or counts i 0) ≤ n) → Covers target until n (term_scored sim ids (entries_of docs counts numbers))
covered_entries sim ids target until n [] counts numbers h = tt
covered_entries sim ids target until n (d ∷ ds) counts numbers h = (
  (λ late early. h 0 (omega arith) late early),
  covered_entries sim ids target until n ds (drop 1 counts) (drop (get_or counts 0 0) numbers) (λ i within late early. (let next : 1 + i ≡ suc i = omega arith in let same : get_or counts (suc i) 0 ≡ get_or (drop 1 counts) i 0 = sym (get_or-drop 1 counts i 0 ∙ ap (λ m. get_or counts m 0) next) in subst (λ c. score_by sim (slice_index ids (get_or ds i 0)) c ≤ n) same (h (suc i) (omega (arith, within)) late early))),
)

-- ---- a block

-- what is reached covers what stands from a document on up to the last of the block
pub block_covers : (sim : TermSimilarity) (ids : List ℕ) (cur offset k target : ℕ) (docs counts numbers : List ℕ) (skips reached : List SkipEntry) → AreBounded ids skips docs counts → reached ≡ drop k skips → ((index : ℕ) → index < length docs → target ≤ get_or docs index 0 → get_or docs index 0 ≤ last_doc reached → index / 128 ≡ k) → DontFall sim.norms → length sim.norms ≡ 256 → ((doc : ℕ) → slice_index ids doc < 256) → documents_bound (entries_from cur offset docs counts numbers) ≤ length ids → Covers target (until_of reached) (block_score sim reached) (term_scored sim ids (entries_from cur offset docs counts numbers))
block_covers sim ids cur offset k target docs counts numbers skips reached all at block fall many fit few =
    let behind = drop (offset + sum (take cur counts)) numbers in
    covered_entries sim ids target (until_of reached) (block_score sim reached) (drop cur docs) (drop cur counts) behind (λ i within late early.
    (let index = cur + i in
    let doc_at : get_or (drop cur docs) i 0 ≡ get_or docs index 0 = get_or-drop cur docs i 0 in
    let count_at : get_or (drop cur counts) i 0 ≡ get_or counts index 0 = get_or-drop cur counts i 0 in
    let doc = get_or (drop cur docs) i 0 in
    let len = length-drop cur docs in
    let inside : index < length docs = omega (arith, within, len) in
    let here = block index inside (omega (arith, late, doc_at)) (omega (arith, early, doc_at)) in
    let known = below_bound (drop cur docs) (drop cur counts) behind i within in
    let id : id_of ids doc ≡ get_or ids doc 0 = same_id ids doc (omega (arith, known, few)) in
    score_bounded sim (get_or ids doc 0) (get_or (drop cur counts) i 0) reached fall many (fit doc) (λ e rest is small.
    (let held = bound_holds k index ids skips docs counts e rest all (sym at ∙ is) inside here small in
    let least = held.0 in
    let greatest = held.1 in
    let same = ap (id_of ids) doc_at in
    (omega (arith, least, same, id), omega (arith, greatest, count_at))))))

-- ---- moves

pub moved_bounded : (ids : List ℕ) (index : ℕ) (before after : SegmentPostings) → HasMoved index before after → AreBounded ids (skips_left (cursor_blocks before)) (docs_left (cursor_blocks before)) (counts_left (cursor_blocks before)) → AreBounded ids (skips_left (cursor_blocks after)) (docs_left (cursor_blocks after)) (counts_left (cursor_blocks after))
moved_bounded ids index before after moved all =
    let on = bounded_on (index / 128) ids (skips_left (cursor_blocks before)) (docs_left (cursor_blocks before)) (counts_left (cursor_blocks before)) all in
    same_bounded ids _ _ _ _ _ _ moved.entries moved.docs moved.counts on
  where
    same_bounded : (ids : List ℕ) (es fs : List SkipEntry) (ds gs cs hs : List ℕ) → es ≡ fs → ds ≡ gs → cs ≡ hs → AreBounded ids fs gs hs → AreBounded ids es ds cs
    same_bounded ids es fs ds gs cs hs e d c all = subst (λ xs. AreBounded ids xs ds cs) (sym e) (subst (λ xs. AreBounded ids fs xs cs) (sym d) (subst (λ xs. AreBounded ids fs gs xs) (sym c) all))

pub stayed_bounded : (ids : List ℕ) (es fs : List SkipEntry) (ds gs cs hs : List ℕ) → es ≡ fs → ds ≡ gs → cs ≡ hs → AreBounded ids fs gs hs → AreBounded ids es ds cs
stayed_bounded ids es fs ds gs cs hs e d c all = subst (λ xs. AreBounded ids xs ds cs) (sym e) (subst (λ xs. AreBounded ids fs xs cs) (sym d) (subst (λ xs. AreBounded ids fs gs xs) (sym c) all))
