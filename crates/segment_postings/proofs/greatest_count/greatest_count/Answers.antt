use Rattle.std.proofs.Common.{ap, arith, drop, length, max, min, rules, subst, sym, ◌-◌, ◌≡◌, ◌≤◌, ◌∙◌}
use Rattle.segment_postings.proofs.BoundedCounts.{First, Later, entry_bound, first_told, none_passed, one_passed, rest_bounded, rest_fits}
use Rattle.codes.specs.SkipBlocks.{Skips, passed}
use Rattle.segment_postings.proofs.greatest_count.greatest_count.Goals.{After-advance}
use Rattle.segment_postings.proofs.greatest_count.greatest_count.Goals as goal

pub loop-tf_sum-init : goal.loop-tf_sum-init
loop-tf_sum-init c = λ counts told. none_passed c.args.num_positions c.args.skips counts told

first : (c : After-advance) → First c.loop-tf_sum.skips.left c.in-BitPacked.tf_sum c.in-BitPacked.block_wand_term_freq
first c = first_told c.loop-tf_sum.skips.left c.loop-tf_sum.skips.rest _ _ _ _ _ (sym c.block_info.ensures ∙ c.in-BitPacked.is)

moved : (c : After-advance) → c.advance.new.self ≡ passed 1 c.loop-tf_sum.skips
moved c = (let one = ap length (first c).left_is in c.advance.ensures.block (omega (arith, one)))

pub loop-tf_sum-smaller : goal.loop-tf_sum-smaller
loop-tf_sum-smaller c =
    let one = ap length (first c).left_is in
    let same : length c.advance.new.self.left ≡ length (drop 1 c.loop-tf_sum.skips.left) = ap (λ (s : Skips). length s.left) (moved c) in
    let less : length (drop 1 c.loop-tf_sum.skips.left) ≡ length (first c).others = ap (λ xs. length (drop 1 xs)) (first c).left_is in
    omega (arith, one, same, less)

pub loop-tf_sum-preserved : goal.loop-tf_sum-preserved
loop-tf_sum-preserved c = λ counts told.
    let one = first c in
    let next = one_passed c.args.num_positions c.loop-tf_sum.skips counts c.loop-tf_sum.greatest one.entry one.others one.left_is (c.loop-tf_sum.invariant counts told) in
    let most : c.max-greatest.result ≡ max c.loop-tf_sum.greatest c.block_bound.result = search rules in
    let bound : c.block_bound.result ≡ entry_bound one.entry = c.block_bound.ensures ∙ sym one.bound_is in
    subst (λ n. Later c.args.num_positions c.advance.new.self counts n) (sym (most ∙ ap (λ n. max c.loop-tf_sum.greatest n) bound)) (subst (λ s. Later c.args.num_positions s counts (max c.loop-tf_sum.greatest (entry_bound one.entry))) (sym (moved c)) next)

pub returns-clause-above : goal.returns-clause-above
returns-clause-above c = λ counts told i.
    let left = c.saturating_sub-left.result in
    let offset = c.position_offset.ensures.offset in
    let rest : c.loop-tf_sum.skips.position_offset ≤ c.args.num_positions → left ≡ c.args.num_positions - c.loop-tf_sum.skips.position_offset = λ small. omega (arith, small, offset, c.saturating_sub-left.ensures) in
    let few : c.min.result ≡ min left 4294967295 = search rules in
    let most : c.max.result ≡ max c.loop-tf_sum.greatest c.min.result = search rules in
    let bound = rest_bounded c.args.num_positions c.loop-tf_sum.skips counts c.loop-tf_sum.greatest left (c.loop-tf_sum.invariant counts told) rest i in
    omega (arith, few, most, bound)

pub returns-clause-few : goal.returns-clause-few
returns-clause-few c = λ counts told.
    let left = c.saturating_sub-left.result in
    let offset = c.position_offset.ensures.offset in
    let rest : c.loop-tf_sum.skips.position_offset ≤ c.args.num_positions → left ≡ c.args.num_positions - c.loop-tf_sum.skips.position_offset = λ small. omega (arith, small, offset, c.saturating_sub-left.ensures) in
    let few : c.min.result ≡ min left 4294967295 = search rules in
    let most : c.max.result ≡ max c.loop-tf_sum.greatest c.min.result = search rules in
    let bound = rest_fits c.args.num_positions c.loop-tf_sum.skips counts c.loop-tf_sum.greatest left (c.loop-tf_sum.invariant counts told) rest in
    omega (arith, few, most, bound)
