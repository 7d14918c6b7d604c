use Rattle.std.proofs.Common.{[], List, ap, arith, if◌then◌else◌, length-append, subst, sym, ◌*◌, ◌++◌, ◌<◌, ◌^◌, ◌≡◌, ◌∙◌, ◌∷◌, ℕ}
use Rattle.definitions.specs.Schema.{has_freq}
use Rattle.segment_postings.specs.TermEntries.{HasPositions}
use Rattle.postings_writer.specs.TermWriting.{recorded_count}
use Rattle.bench.proofs.DocumentPositions.{one_more}
use Rattle.bench.proofs.openings.write_with_positions.Goals as goal

pub loop-index-preserved : goal.loop-index-preserved
loop-index-preserved c =
    let so_far = c.loop-index.invariant in
    let docs = so_far.0.0 in
    let counts = so_far.0.1 in
    let lists = so_far.0.2 in
    let index = c.loop-index.index in
    let same = c.in_ok-write_doc.ensures.same in
    let next = same.3 in
    let many = so_far.0.4 in
    let within = c.loop-index-test.true in
    let few = c.requires.few in
    let counted : recorded_count c.loop-index.serializer.option 1 ≡ 1 = ap (λ b. if b then 1 else 1) (ap has_freq so_far.3 ∙ c.requires.counted) in
    let small : index < 2 ^ 31 = omega (arith, within, few) in
    let has = one_more counts lists c.loop-index.positions.1 index so_far.0.5 small in
    let moved = c.in_ok-write_positions_delta.ensures.ok in
    let P : ℕ → Type 0 = λ n. HasPositions (counts ++ n ∷ []) (lists ++ (index ∷ []) ∷ []) (c.loop-index.positions.1 ++ index ∷ []) in
    let Q : List ℕ → Type 0 = λ ns. HasPositions (counts ++ recorded_count c.loop-index.serializer.option 1 ∷ []) (lists ++ (index ∷ []) ∷ []) ns in
    ((docs ++ 3 * index ∷ [], counts ++ recorded_count c.loop-index.serializer.option 1 ∷ [], lists ++ (index ∷ []) ∷ [], c.in_ok-write_doc.ensures.written docs counts so_far.0.3, omega (arith, many, length-append docs (3 * index ∷ [])), subst Q (sym (ap (λ p. p.1) moved)) (subst P (sym counted) has)), omega (arith, next), same.2 ∙ so_far.2, same.1 ∙ so_far.3, ap (λ p. p.0) moved ∙ so_far.4)
