-- The blocks that a search for one term decodes, segment by segment.
use Rattle.std.proofs.Common.{List, ap, arith, min, subst, ◌+◌, ◌∷◌, ◌≡◌, ◌≤◌, ℕ}
use Rattle.best_k.specs.Kept.{Best, limit, taken}
use Rattle.definitions.specs.Alive.{Segment}
use Rattle.definitions.specs.Analyzers.{Analyzer}
use Rattle.definitions.specs.Answers.{answers}
use Rattle.definitions.specs.Merging.{documents_in}
use Rattle.definitions.specs.Query.{term}
use Rattle.definitions.specs.Schema.{IndexRecordOption, Schema}
use Rattle.definitions.specs.Scoring.{Similarity}
use Rattle.definitions.specs.TermBlocks.{scored_blocks}
use Rattle.segment_search.specs.Counted.{after_term, at_segment, blocks_decoded, greatest_count}
use Rattle.leaf_weights.specs.DecodedBlocks.{decoded_for}

-- with the blocks of one segment more, and those of the segments that are left
pub one_more : (schema : Schema) (analyze : Analyzer) (sim : Similarity) (t : List ℕ) (option : IndexRecordOption) (b new : Best) (i : ℕ) (rows : Segment) (left more : List Segment) (decoded blocks sum all : ℕ) → left ≡ rows ∷ more → blocks ≡ decoded_for limit taken (at_segment i rows b) (answers schema analyze sim 1 (term t option) (documents_in rows)) (scored_blocks schema analyze sim 1 t option (documents_in rows)) → new ≡ after_term schema analyze sim t option i rows b → sum ≡ min greatest_count (decoded + blocks) → min greatest_count (decoded + blocks_decoded schema analyze sim t option b i left) ≡ min greatest_count all → min greatest_count (sum + blocks_decoded schema analyze sim t option new (i + 1) more) ≡ min greatest_count all
one_more schema analyze sim t option b new i rows left more decoded blocks sum all is exact now added whole =
    let rest = blocks_decoded schema analyze sim t option (after_term schema analyze sim t option i rows b) (i + 1) more in
    let own = decoded_for limit taken (at_segment i rows b) (answers schema analyze sim 1 (term t option) (documents_in rows)) (scored_blocks schema analyze sim 1 t option (documents_in rows)) in
    let here : min greatest_count (decoded + (own + rest)) ≡ min greatest_count all = subst (λ ss. min greatest_count (decoded + blocks_decoded schema analyze sim t option b i ss) ≡ min greatest_count all) is whole in
    let same : blocks_decoded schema analyze sim t option new (i + 1) more ≡ rest = ap (λ c. blocks_decoded schema analyze sim t option c (i + 1) more) now in
    omega (arith, exact, added, here, same)

-- once no segment is left
pub all_counted : (decoded left all : ℕ) → decoded ≤ greatest_count → left ≡ 0 → min greatest_count (decoded + left) ≡ min greatest_count all → decoded ≡ min greatest_count all
all_counted decoded left all few none whole = omega (arith, few, none, whole)
