use Rattle.std.proofs.Common.{arith, length, sym, ◌+◌, ◌∙◌}
use Rattle.std.proofs.lemmas.Bool.{le-ltb}
use Rattle.index_state.proofs.RepeatedDeletions.{by-next, last-stays}
use Rattle.index_state.proofs.last_deletions.is_repeated.Goals as goal

pub returns-then-at-deletions : goal.returns-then-at-deletions
returns-then-at-deletions c =
    let next = c.index-deletions-at-then-at-deletions in
    c.repeats.ensures ∙ sym (by-next (λ d. d.now) c.args.deletions.now c.args.at c.index-deletions-at.result next.result (omega (arith, c.if-at-deletions.true)) c.index-deletions-at.is next.is)

pub returns-else-at-deletions : goal.returns-else-at-deletions
returns-else-at-deletions c =
    le-ltb (c.args.at + 1) (length c.args.deletions.now) c.if-at-deletions.false
    ∙ sym (last-stays (λ d. d.now) c.args.deletions.now c.args.at c.index-deletions-at.result c.requires c.if-at-deletions.false c.index-deletions-at.is)
