use Rattle.std.proofs.Common.{ap, arith, drop, length, length-drop, subst, sym, take, ◌<◌, ◌≡◌, ◌∙◌}
use Rattle.std.specs.List.{AllByRecursion}
use Rattle.segment.specs.Killed.{before, killed}
use Rattle.segment.proofs.KilledFlags.{all_taken, killed_block, killed_end, length-killed}
use Rattle.segment_postings.specs.Cursors.{docs_left}
use Rattle.segment.proofs.deletions.kill_postings.Goals as goal

pub kill_each-requires : goal.kill_each-requires
kill_each-requires c = subst (AllByRecursion (λ doc. doc < length c.loop-left.alive)) (sym c.docs.ensures) (all_taken (λ doc. doc < length c.loop-left.alive) 128 (docs_left c.loop-left.left) c.loop-left.invariant.within).0

pub loop-left-smaller : goal.loop-left-smaller
loop-left-smaller c =
    let docs = ap length c.advance.ensures.docs in
    let some = c.loop-left-test.true in
    let len = c.block_len.ensures in
    omega (arith, docs, some, len, length-drop 128 (docs_left c.loop-left.left))

pub loop-left-preserved : goal.loop-left-preserved
loop-left-preserved c =
    let left = docs_left c.loop-left.left in
    let flags = c.loop-left.alive in
    let end = c.args.end in
    let dead = c.kill_each.ensures ∙ ap (λ ds. killed (before end ds) flags) c.docs.ensures in
    let long : length c.kill_each.new.alive ≡ length flags = ap length dead ∙ length-killed (before end (take 128 left)) flags in
    record {
      within = subst (λ n. AllByRecursion (λ doc. doc < n) (docs_left c.advance.new.self)) (sym long) (subst (AllByRecursion (λ doc. doc < length flags)) (sym c.advance.ensures.docs) (all_taken (λ doc. doc < length flags) 128 left c.loop-left.invariant.within).1);
      killed = ap (λ ds. killed (before end ds) c.kill_each.new.alive) c.advance.ensures.docs ∙ ap (λ fs. killed (before end (drop 128 left)) fs) dead ∙ killed_block end 128 left flags ∙ c.loop-left.invariant.killed;
    }

pub returns : goal.returns
returns c =
    let none = c.loop-left-test.false in
    let len = c.block_len.ensures in
    killed_end c.args.end (docs_left c.loop-left.left) c.loop-left.alive (omega (arith, none, len)) ∙ c.loop-left.invariant.killed
