use Rattle.std.proofs.Common.{arith}
use Rattle.postings_writer.proofs.Runs.{run_from}
use Rattle.postings_writer.proofs.serialize_term.run_end.Goals as goal

pub returns-else-occurrences-end-clause-run : goal.returns-else-occurrences-end-clause-run
returns-else-occurrences-end-clause-run c =
    let inv = c.loop-end.invariant in
    run_from c.args.occurrences.now c.args.start c.loop-end.end _ inv.above inv.within inv.all (λ more same. c.if-occurrences-end.false same)

pub returns-after-loop-end-clause-run : goal.returns-after-loop-end-clause-run
returns-after-loop-end-clause-run c =
    let inv = c.loop-end.invariant in
    run_from c.args.occurrences.now c.args.start c.loop-end.end _ inv.above inv.within inv.all (λ more same. absurd (omega arith))
