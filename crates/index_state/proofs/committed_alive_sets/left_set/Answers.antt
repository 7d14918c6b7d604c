use Rattle.std.proofs.Common.{ap, map, ◌∙◌}
use Rattle.definitions.specs.Recorded.{holds}
use Rattle.index_state.specs.Deletions.{term_of}
use Rattle.segment_definitions.specs.Rows.{flagged, left_rows}
use Rattle.index_state.proofs.committed_alive_sets.left_set.Goals as goal

pub returns-clause-rows : goal.returns-clause-rows
returns-clause-rows c schema analyze docs stands =
    c.delete_all.ensures.dead schema analyze docs stands
    ∙ ap (λ flags. left_rows (holds schema analyze) (map term_of c.args.deletions.now) (flagged docs flags)) c.in_ok-set.ensures
