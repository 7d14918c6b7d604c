use Rattle.std.proofs.Common.{sym}
use Rattle.docsets.proofs.DangerLaws.{danger-kept}
use Rattle.docsets.specs.declared.seek_danger_result.SeekDangerResult.TheVariants.{Found}
use Rattle.intersections.proofs.DifferenceLaws.{has-found, has-kept, has-missed}
use Rattle.intersections.proofs.exclusion_set.AnyExclusionSet.contains.Goals as goal

pub returns-in-Found-clause-value : goal.returns-in-Found-clause-value
returns-in-Found-clause-value g c = sym (has-found c.args.doc (g.D.DocSet.entries c.args.self.now) (g.D.DocSet.entries c.seek_danger.new.self) (g.met.D.DocSet.rising c.seek_danger.new.self) c.requires c.in-Found.ensures)

pub returns-in-Found-clause-later : goal.returns-in-Found-clause-later
returns-in-Found-clause-later g c =
    let before = g.D.DocSet.entries c.args.self.now in
    let after = g.D.DocSet.entries c.seek_danger.new.self in
    λ d l. has-kept c.args.doc d before after (danger-kept Found c.args.doc before after c.in-Found.ensures) l

pub returns-in-SeekLowerBound-clause-value : goal.returns-in-SeekLowerBound-clause-value
returns-in-SeekLowerBound-clause-value g c = sym (has-missed c.args.doc c.in-SeekLowerBound.field-0 (g.D.DocSet.entries c.args.self.now) (g.D.DocSet.entries c.seek_danger.new.self) (g.met.D.DocSet.rising c.args.self.now) c.in-SeekLowerBound.ensures)

pub returns-in-SeekLowerBound-clause-later : goal.returns-in-SeekLowerBound-clause-later
returns-in-SeekLowerBound-clause-later g c = λ d l. has-kept c.args.doc d (g.D.DocSet.entries c.args.self.now) (g.D.DocSet.entries c.seek_danger.new.self) c.in-SeekLowerBound.ensures.kept l
