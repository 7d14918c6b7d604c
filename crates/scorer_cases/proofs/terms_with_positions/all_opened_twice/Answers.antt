use Rattle.std.proofs.Common.{arith, ◌*◌}
use Rattle.segment_postings.specs.Cursors.{entries_left}
use Rattle.scorer_cases.proofs.TermsWithPositions.{counted-more, same-more, unscored-more}
use Rattle.scorer_cases.proofs.terms_with_positions.all_opened_twice.Goals as goal

pub loop-i-preserved : goal.loop-i-preserved
loop-i-preserved c =
    let inv = c.loop-i.invariant in
    let both = c.in_ok-one.ensures in
    record {
      same = same-more entries_left c.loop-i.first.items c.push.new.self.items c.loop-i.second.items c.push-in-loop-i.new.self.items _ _ c.in_ok-push.ensures.items c.in_ok-push-2.ensures.items inv.same both.same;
      unscored = unscored-more entries_left c.loop-i.first.items c.push.new.self.items _ c.in_ok-push.ensures.items inv.unscored both.unscored;
      few = λ d. (let more = counted-more entries_left d (1000 * c.loop-i.i) 1000 c.loop-i.first.items c.push.new.self.items _ c.in_ok-push.ensures.items (inv.few d) (both.few d) in omega (arith, more));
    }
