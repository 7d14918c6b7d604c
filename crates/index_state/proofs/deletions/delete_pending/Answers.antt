use Rattle.std.proofs.Common.{ap, drop, map, sym, ◌*◌, ◌+◌, ◌∙◌, ◌∷◌, ◌≡◌}
use Rattle.definitions.specs.Recorded.{holds}
use Rattle.segment_definitions.proofs.Deletings.{struck_end, struck_next}
use Rattle.segment_definitions.specs.Rows.{flagged}
use Rattle.segment_definitions.specs.Waiting.{struck_from}
use Rattle.segment_search.proofs.Places.{rest_is}
use Rattle.definitions.proofs.Lists.{all_first, nothing_left}
use Rattle.index_state.specs.Deletions.{IsSmall, numbered}
use Rattle.index_state.proofs.deletions.delete_pending.Goals as goal

pub loop-deletion-preserved : goal.loop-deletion-preserved
loop-deletion-preserved c =
    let l = c.loop-deletion in
    let d = c.deletion-item.result in
    let rest = drop (l.deletion-index + 1) c.args.deletions.now in
    let here : drop l.deletion-index c.args.deletions.now ≡ d ∷ rest = rest_is c.args.deletions.now l.deletion-index d c.loop-deletion-test.true c.deletion-item.is in (
      c.delete_one.ensures.long ∙ l.invariant.0,
      λ schema analyze n docs stands few small.
          let has = holds schema analyze in
          let before = l.invariant.1 schema analyze n docs stands few small in
          let smalls = all_first (IsSmall n) (drop l.deletion-index c.args.deletions.now) d rest here before.0 in
          let from = n * c.args.number in (
            smalls.1,
            ap (struck_from has (map (numbered n) rest) from) (c.delete_one.ensures.dead schema analyze n docs stands few smalls.0)
                ∙ sym (struck_next has (numbered n d) (map (numbered n) rest) from (flagged docs l.alive))
                ∙ ap (λ ds. struck_from has (map (numbered n) ds) from (flagged docs l.alive)) (sym here)
                ∙ before.1,
          ),
    )

pub returns-clause-dead : goal.returns-clause-dead
returns-clause-dead c schema analyze n docs stands few small =
    let l = c.loop-deletion in
    let has = holds schema analyze in
    let before = l.invariant.1 schema analyze n docs stands few small in
    sym (struck_end has (n * c.args.number) (flagged docs l.alive)) ∙ ap (λ ds. struck_from has (map (numbered n) ds) (n * c.args.number) (flagged docs l.alive)) (sym (nothing_left c.args.deletions.now l.deletion-index c.loop-deletion-test.false)) ∙ before.1
