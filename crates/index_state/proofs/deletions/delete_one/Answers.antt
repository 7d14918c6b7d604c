use Rattle.std.proofs.Common.{[], ap, arith, length, sym, ◌*◌, ◌+◌, ◌∙◌, ◌∷◌, ◌≡◌}
use Rattle.definitions.specs.Recorded.{holds}
use Rattle.segment_definitions.proofs.Deletings.{struck_none, struck_whole}
use Rattle.segment_definitions.specs.Rows.{flagged}
use Rattle.segment_definitions.specs.Waiting.{struck_from}
use Rattle.index_state.proofs.EachFlagged.{before_all, behind_all}
use Rattle.index_state.proofs.deletions.delete_one.Goals as goal

pub returns-then-deletion-number-clause-dead : goal.returns-then-deletion-number-clause-dead
returns-then-deletion-number-clause-dead c schema analyze n docs stands few small =
    let d = c.args.deletion.now in
    let all = struck_whole (holds schema analyze) d.term (n * d.segments + d.docs) (n * c.args.number) docs c.args.alive.now (behind_all n d.segments d.docs c.args.number (length docs) c.if-deletion-number.true few) in
    c.delete_in.ensures.dead schema analyze docs stands ∙ sym all

pub returns-then-deletion-number-2-clause-dead : goal.returns-then-deletion-number-2-clause-dead
returns-then-deletion-number-2-clause-dead c schema analyze n docs stands few small =
    let d = c.args.deletion.now in
    sym (struck_none (holds schema analyze) d.term (n * d.segments + d.docs) (n * c.args.number) (flagged docs c.args.alive.now) (before_all n d.segments d.docs c.args.number c.if-deletion-number-2.true small))

pub returns-clause-dead : goal.returns-clause-dead
returns-clause-dead c schema analyze n docs stands few small =
    let d = c.args.deletion.now in
    let has = holds schema analyze in
    let rows = flagged docs c.args.alive.now in
    let most = c.if-deletion-number.false in
    let least = c.if-deletion-number-2.false in
    let same : c.args.number ≡ d.segments = omega (arith, most, least) in
    c.delete_before.ensures.dead schema analyze (n * c.args.number) docs stands
    ∙ ap (λ k. struck_from has ((d.term, n * k + d.docs) ∷ []) (n * c.args.number) rows) same
