use Rattle.std.proofs.Common.{arith}
use Rattle.docsets.proofs.DangerLaws.{danger-kept}
use Rattle.docsets.specs.Entries.{from}
use Rattle.docsets.specs.EntryLaws.{Rising-from}
use Rattle.docsets.proofs.EntryLaws.{first_at_most}
use Rattle.docsets.specs.declared.seek_danger_result.SeekDangerResult.TheVariants.{Found}
use Rattle.intersections.proofs.leapfrog.reach.Goals as goal

pub returns-in-Found-clause-kept : goal.returns-in-Found-clause-kept
returns-in-Found-clause-kept g c = danger-kept Found c.args.candidate (g.D.DocSet.entries c.args.docset.now) (g.D.DocSet.entries c.seek_danger.new.self) c.in-Found.ensures

pub returns-in-SeekLowerBound-clause-small : goal.returns-in-SeekLowerBound-clause-small
returns-in-SeekLowerBound-clause-small g c =
    let es = g.D.DocSet.entries c.args.docset.now in
    let next = c.in-SeekLowerBound.ensures.before_next in
    let end = first_at_most 0 (from c.args.candidate es) (Rising-from c.args.candidate 0 es (g.met.D.DocSet.rising c.args.docset.now)) in
    omega (arith, next, end)
