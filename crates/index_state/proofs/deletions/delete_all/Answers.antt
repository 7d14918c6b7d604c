use Rattle.std.proofs.Common.{ap, drop, map, sym, ◌+◌, ◌∙◌, ◌∷◌, ◌≡◌}
use Rattle.definitions.proofs.Lists.{nothing_left}
use Rattle.definitions.specs.Recorded.{holds}
use Rattle.segment_definitions.proofs.Deletings.{left_end, left_next}
use Rattle.segment_definitions.specs.Rows.{flagged, left_rows}
use Rattle.segment_search.proofs.Places.{rest_is}
use Rattle.index_state.specs.Deletions.{term_of}
use Rattle.index_state.proofs.deletions.delete_all.Goals as goal

pub loop-deletion-preserved : goal.loop-deletion-preserved
loop-deletion-preserved c =
    let l = c.loop-deletion in
    let d = c.deletion-item.result in
    let rest = drop (l.deletion-index + 1) c.args.deletions.now in
    let here : drop l.deletion-index c.args.deletions.now ≡ d ∷ rest = rest_is c.args.deletions.now l.deletion-index d c.loop-deletion-test.true c.deletion-item.is in (
      c.delete_in.ensures.long ∙ l.invariant.0,
      λ schema analyze docs stands.
          let has = holds schema analyze in
          ap (left_rows has (map term_of rest)) (c.delete_in.ensures.dead schema analyze docs stands)
          ∙ sym (left_next has (term_of d) (map term_of rest) (flagged docs l.alive))
          ∙ ap (λ ds. left_rows has (map term_of ds) (flagged docs l.alive)) (sym here)
          ∙ l.invariant.1 schema analyze docs stands,
    )

pub returns-clause-dead : goal.returns-clause-dead
returns-clause-dead c schema analyze docs stands =
    let l = c.loop-deletion in
    let has = holds schema analyze in
    sym (left_end has (flagged docs l.alive)) ∙ ap (λ ds. left_rows has (map term_of ds) (flagged docs l.alive)) (sym (nothing_left c.args.deletions.now l.deletion-index c.loop-deletion-test.false)) ∙ l.invariant.1 schema analyze docs stands
