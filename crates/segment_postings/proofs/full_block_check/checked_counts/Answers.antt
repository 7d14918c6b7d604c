use Rattle.std.proofs.Common.{List, arith, if◌then◌else◌, refl, rules, subst, sym, take, true, ◌*◌, ◌<◌, ◌∙◌, ◌≡◌, ◌^◌, ap, ℕ}
use Rattle.std.proofs.lemmas.Result.{err_from_is_err_and}
use Rattle.segment_postings.proofs.BlockChecks.{code_is, count_block, count_block_packed, decoded_counts, fit_small}
use Rattle.segment_postings.specs.Blocks.{IsCountBlock, more_1, entry_of}
use Rattle.definitions.specs.Schema.{has_freq, has_positions}
use Rattle.definitions.specs.Scoring.{greatest_of}
use Rattle.layouts.specs.PackedBlocks.{IsBlock}
use Rattle.layouts.specs.SkipEntries.{count_code}
use Rattle.options.specs.RecordOption.{record_option_of}
use Rattle.segment_postings.proofs.full_block_check.checked_counts.Goals.{After-output_array-counts_less_1}
use Rattle.segment_postings.proofs.full_block_check.checked_counts.Goals as goal

block : (c : After-output_array-counts_less_1) → IsBlock c.args.entry.count_width c.output_array-counts_less_1.result.now (take (16 * c.args.entry.count_width) c.args.bytes.now)
block c = subst (λ xs. IsBlock c.args.entry.count_width xs (take (16 * c.args.entry.count_width) c.args.bytes.now)) (sym c.output_array-counts_less_1.ensures) c.in_ok-checked_block_unsorted.ensures.ok.1

recorded : (c : After-output_array-counts_less_1) → has_freq (record_option_of c.args.option) ≡ true
recorded c = search rules

-- no other counts are in the block
held : (c : After-output_array-counts_less_1) (counts : List ℕ) → IsCountBlock (record_option_of c.args.option) (entry_of c.args.entry) counts c.args.bytes.now → IsCountBlock (record_option_of c.args.option) (entry_of c.args.entry) (more_1 c.output_array-counts_less_1.result.now) c.args.bytes.now
held c counts b = decoded_counts (record_option_of c.args.option) (entry_of c.args.entry) c.output_array-counts_less_1.result.now counts c.args.bytes.now (recorded c) c.requires (block c) b

pub returns-in_err-checked_block_unsorted-clause-err : goal.returns-in_err-checked_block_unsorted-clause-err
returns-in_err-checked_block_unsorted-clause-err c =
    let p = err_from_is_err_and c.from_residual.result c.from_residual.ensures.1 in
    let refused = c.in_err-checked_block_unsorted.ensures.err in
    let some : has_freq (record_option_of c.args.option) ≡ true = search rules in
    rw (p.1, p.2) (refused.0, λ counts b. refused.1 _ (count_block_packed (record_option_of c.args.option) (entry_of c.args.entry) counts c.args.bytes.now some c.requires b))

pub returns-in_default-clause-err : goal.returns-in_default-clause-err
returns-in_default-clause-err c =
    let here = (goal.at.returns-in_default-clause-err c).After-output_array-counts_less_1 in
    (refl, λ counts b. c.in_default.ensures.none (fit_small _ (held here counts b).counts_are.fit))

pub returns-then-told_sum-from-clause-err : goal.returns-then-told_sum-from-clause-err
returns-then-told_sum-from-clause-err c =
    let here = (goal.at.returns-then-told_sum-from-clause-err c).After-output_array-counts_less_1 in
    let other = c.if-told_sum-from.true in (
      refl,
      λ counts b.
          (let is = (held here counts b).sum_is in
          let total = c.in-Some.ensures.some.1 in
          let same : c.told_sum.result ≡ c.from.result = c.told_sum.ensures ∙ (ap (λ k. if has_positions (record_option_of c.args.option) then k else 0) total ∙ (sym is ∙ sym c.from.ensures)) in
          absurd (omega (arith, same, other))),
    )

pub returns-then-min-from-clause-err : goal.returns-then-min-from-clause-err
returns-then-min-from-clause-err c =
    let here = (goal.at.returns-then-min-from-clause-err c).After-output_array-counts_less_1 in
    let other = c.if-min-from.true in (
      refl,
      λ counts b.
          (let is = (held here counts b).greatest in
          let code = code_is (greatest_of (more_1 c.output_array-counts_less_1.result.now)) in
          let greatest = c.greatest_count.ensures in
          let least = c.min.ensures in
          let from = c.from-2.ensures in
          let same : c.min.result ≡ c.from-2.result = omega (arith, is, code, greatest, least, from) in
          absurd (omega (arith, same, other))),
    )

pub returns-clause-ok : goal.returns-clause-ok
returns-clause-ok c =
    let here = (goal.at.returns-clause-ok c).After-output_array-counts_less_1 in
    let some = c.in-Some.ensures.some in
    let numbers = c.output_array-counts_less_1.result.now in
    let recorded_here = recorded here in
    let total_is = some.1 in
    let few = some.2 in
    let packed = block here in
    let count = packed.packed.count in
    let code = code_is (greatest_of (more_1 numbers)) in
    let greatest = c.greatest_count.ensures in
    let least = c.min.ensures in
    let from = c.from-2.ensures in
    let same = c.if-min-from.false in
    let compared = c.if-told_sum-from.false in
    let sum_same : c.told_sum.result ≡ c.from.result = omega (arith, compared) in
    let told : (if has_positions (record_option_of c.args.option) then c.in-Some.total else 0) ≡ c.args.entry.count_sum = sym c.told_sum.ensures ∙ (sum_same ∙ c.from.ensures) in
    ((more_1 numbers, count_block (record_option_of c.args.option) (entry_of c.args.entry) numbers c.args.bytes.now c.in-Some.total recorded_here (λ i. omega (arith, c.type_inv.bytes i)) c.requires packed some.0 total_is told (let small : c.args.entry.count_sum < 2 ^ 32 = omega arith in small) (let coded : count_code (greatest_of (more_1 numbers)) ≡ c.args.entry.greatest_count = omega (arith, code, greatest, least, from, same) in coded), total_is), omega (arith, few, count))
