use Rattle.std.proofs.Common.{ap, length, map, replicate, sym, true, ◌*◌, ◌∙◌, ◌≡◌}
use Rattle.definitions.specs.Recorded.{holds}
use Rattle.index_state.proofs.EachFlagged.{rows_struck}
use Rattle.segment_search.proofs.RowsRead.{docs_counted}
use Rattle.index_state.specs.Deletions.{numbered}
use Rattle.segment_definitions.specs.Rows.{flagged}
use Rattle.segment_definitions.specs.Waiting.{struck_from}
use Rattle.index_state.proofs.committed_alive_sets.new_set.Goals as goal

pub returns-clause-rows : goal.returns-clause-rows
returns-clause-rows c schema analyze n docs stands few small =
    let has = holds schema analyze in
    let dels = map (numbered n) c.args.deletions.now in
    let from = n * c.args.number in
    let all : c.in_ok-set.set ≡ replicate (length docs) true = c.in_ok-set.ensures ∙ ap (λ k. replicate k true) (c.num_docs.ensures ∙ sym (docs_counted schema analyze docs c.args.segment.now stands)) in
    c.delete_pending.ensures.dead schema analyze n docs stands few small
    ∙ ap (λ flags. struck_from has dels from (flagged docs flags)) all
    ∙ sym (rows_struck has dels from docs)
