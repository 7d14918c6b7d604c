use Rattle.std.proofs.Common.{◌∙◌, ap}
use Rattle.layouts.specs.Positions.{differences}
use Rattle.definitions.specs.Recorded.{ascending}
use Rattle.postings_writer.proofs.Runs.{occurrence_stands}
use Rattle.postings_writer.proofs.serialize_term.position_posting.Goals as goal

pub returns-clause-ok : goal.returns-clause-ok
returns-clause-ok c =
    occurrence_stands c.args.occurrences.now c.args.at c.in-Ok.count c.run_end-end.result c.put_differences.new.positions.items c.run_end-end.ensures.within.0 c.run_end-end.ensures.within.1 c.run_end-end.ensures.run c.in-Ok.ensures.1
    (c.put_differences.ensures ∙ ap (differences 0) c.sort.ensures.ascending ∙ ap (λ ps. differences 0 (ascending ps)) c.in_ok-gather.ensures)
