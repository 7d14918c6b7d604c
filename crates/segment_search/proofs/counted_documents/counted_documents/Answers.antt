use Rattle.std.proofs.Common.{subst, sym}
use Rattle.std.specs.List.{AllZip}
use Rattle.scorer_answers.specs.Rows.{HasRows}
use Rattle.segment_search.specs.Flags.{flagged_each}
use Rattle.segment_search.proofs.counted_documents.counted_documents.Goals as goal

pub returns : goal.returns
returns g c schema analyze docs zip passes =
    let rows = flagged_each docs c.args.alive.now in
    c.count.ensures schema analyze rows (g.S.Statistics.similarity c.args.statistics.now).weight (subst (AllZip (HasRows schema analyze) rows) (sym c.new-searcher.ensures.readers) (c.in_ok-readers.ensures.rows schema analyze docs zip)) passes
