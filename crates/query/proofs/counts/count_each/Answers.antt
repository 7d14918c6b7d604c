use Rattle.std.proofs.Common.{arith, length, rules, sum_by, ◌∙◌, ◌≤◌}
use Rattle.definitions.proofs.Lists.{nothing_left, zip_length}
use Rattle.definitions.specs.Answers.{living_count}
use Rattle.query.proofs.SegmentCounts.{counts_add_up}
use Rattle.scorer_answers.specs.Rows.{HasRows}
use Rattle.query.proofs.AddedCounts.{counted_all, counted_next, zip_at}
use Rattle.weights.specs.AnyForms.{any_query}
use Rattle.query.proofs.counts.count_each.Goals as goal

pub loop-reader-preserved : goal.loop-reader-preserved
loop-reader-preserved g c =
    let q = any_query c.args.weight.now in
    let l = c.loop-reader in
    record {
      counted = λ schema analyze sim segments zip by passes.
          let found = zip_at (HasRows schema analyze) segments c.args.readers.now l.reader-index c.reader-item.result zip c.loop-reader-test.true c.reader-item.is in
          let told = c.in_ok-count.ensures schema analyze sim found.one found.stands by passes in
          counted_next (living_count schema analyze q) segments l.reader-index found.one l.count c.in_ok-count.field-0 (sum_by (living_count schema analyze q) segments) found.here told (l.invariant.counted schema analyze sim segments zip by passes);
      few = search rules;
    }

pub returns : goal.returns
returns g c schema analyze sim segments zip by passes =
    let q = any_query c.args.weight.now in
    let l = c.loop-reader in
    let past = c.loop-reader-test.false in
    let same = zip_length (HasRows schema analyze) segments c.args.readers.now zip in
    let over : length segments ≤ l.reader-index = omega (arith, same, past) in
    counted_all (living_count schema analyze q) segments l.reader-index l.count _ (nothing_left segments l.reader-index over) (l.invariant.counted schema analyze sim segments zip by passes)
    ∙ counts_add_up schema analyze q segments
