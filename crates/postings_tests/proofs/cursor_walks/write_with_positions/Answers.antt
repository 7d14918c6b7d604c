use Rattle.std.proofs.Common.{[], List, ap, arith, if◌then◌else◌, length, length-append, length-take, subst, sum, sym, take, ◌*◌, ◌++◌, ◌<◌, ◌^◌, ◌≡◌, ◌∙◌, ◌∷◌, ℕ}
use Rattle.std.proofs.lemmas.List.Sums.{sum_by-cons}
use Rattle.definitions.specs.Schema.{has_freq}
use Rattle.codes.specs.PositionPlaces.{places}
use Rattle.segment_postings.specs.TermEntries.{HasPositions}
use Rattle.postings_writer.specs.TermWriting.{recorded_count}
use Rattle.postings_tests.proofs.TermEntries.{one_more, sum_taken}
use Rattle.postings_tests.proofs.cursor_walks.write_with_positions.Goals as goal

small_sum : (index : ℕ) → index < 65535 → sum (index ∷ 5 ∷ 5 ∷ []) < 2 ^ 31
small_sum index few =
    let a = sum_by-cons (λ x. x) index (5 ∷ 5 ∷ []) in
    let b = sum_by-cons (λ x. x) 5 (5 ∷ []) in
    let d = sum_by-cons (λ x. x) 5 [] in
    omega (arith, few, a, b, d)

pub loop-index-preserved : goal.loop-index-preserved
loop-index-preserved c =
    let so_far = c.loop-index.invariant in
    let docs = so_far.0.0 in
    let counts = so_far.0.1 in
    let lists = so_far.0.2 in
    let doc = 3 * c.loop-index.index in
    let count = c.count_at-count.result in
    let some = c.count_at-count.ensures in
    let all : List ℕ = c.loop-index.index ∷ 5 ∷ 5 ∷ [] in
    let xs = take count all in
    let same = c.in_ok-write_doc.ensures.same in
    let next = same.3 in
    let many = so_far.0.4 in
    let within = c.loop-index-test.true in
    let few = c.requires.few in
    let counted : recorded_count c.loop-index.serializer.option count ≡ count = ap (λ b. if b then count else 1) (ap has_freq so_far.3 ∙ c.requires.counted) in
    let long : length xs ≡ count = omega (arith, length-take count all, some) in
    let small = small_sum c.loop-index.index (omega (arith, within, few)) in
    let has = one_more counts lists c.loop-index.positions.1 xs count so_far.0.5 long (omega (arith, small, sum_taken count all)) in
    let moved = c.in_ok-write_positions_delta.ensures.ok in
    let P : ℕ → Type 0 = λ n. HasPositions (counts ++ n ∷ []) (lists ++ places 0 xs ∷ []) (c.loop-index.positions.1 ++ xs) in
    let Q : List ℕ → Type 0 = λ ns. HasPositions (counts ++ recorded_count c.loop-index.serializer.option count ∷ []) (lists ++ places 0 xs ∷ []) ns in
    ((docs ++ doc ∷ [], counts ++ recorded_count c.loop-index.serializer.option count ∷ [], lists ++ places 0 xs ∷ [], c.in_ok-write_doc.ensures.written docs counts so_far.0.3, omega (arith, many, length-append docs (doc ∷ [])), subst Q (sym (ap (λ p. p.1) moved)) (subst P (sym counted) has)), omega (arith, next), same.2 ∙ so_far.2, same.1 ∙ so_far.3, ap (λ p. p.0) moved ∙ so_far.4)
