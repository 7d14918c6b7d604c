use Rattle.std.proofs.Common.{ap, arith, sym, ◌∙◌}
use Rattle.docsets.specs.Entries.{from}
use Rattle.docsets.proofs.EntryLaws.{from-first, from-step}
use Rattle.scorers.proofs.two_least.advance_to.Goals as goal

pub returns-else-advance-target : goal.returns-else-advance-target
returns-else-advance-target g c =
    let entries = g.D.DocSet.entries in
    let target = c.args.target in
    let at = c.advance.ensures.at in
    let past = c.if-advance-target.false in
    sym (from-first target 0 (entries c.advance.new.self) (omega (arith, at, past)) (g.met.D.DocSet.rising c.advance.new.self))
    ∙ (ap (from target) c.advance.ensures.rest ∙ from-step target (entries c.args.docset.now) c.requires.ahead)
