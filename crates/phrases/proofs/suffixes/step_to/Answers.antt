use Rattle.std.proofs.Common.{ap, arith, ◌∙◌}
use Rattle.docsets.specs.Entries.{first, from, most_positions}
use Rattle.docsets.proofs.EntryLaws.{first-from, from-from, most-from}
use Rattle.phrases.proofs.suffixes.step_to.Goals as goal

pub returns-clause-rest : goal.returns-clause-rest
returns-clause-rest g c = ap (from c.args.target) c.seek.ensures.rest ∙ from-from c.args.target c.args.target (g.P.DocSet.entries c.args.suffix.now) (omega arith)

pub returns-clause-later : goal.returns-clause-later
returns-clause-later g c =
    let small = c.requires.small in
    let low = first-from c.args.target (g.P.DocSet.entries c.args.suffix.now) (omega (arith, small)) in
    let is = ap first c.seek.ensures.rest in
    let at = c.seek.ensures.at in
    let ahead = c.requires.ahead in
    omega (arith, low, is, at, ahead)

pub returns-clause-most : goal.returns-clause-most
returns-clause-most g c = (let fewer = most-from c.args.target (g.P.DocSet.entries c.args.suffix.now) in let is = ap most_positions c.seek.ensures.rest in omega (arith, fewer, is))
