use Rattle.std.proofs.Common.{ap, arith, map, sym, ◌∙◌}
use Rattle.docsets.proofs.AtLeastLaws.{chosen-from, union-first}
use Rattle.docsets.specs.Members.{at_least}
use Rattle.docsets.proofs.any_of.seek_any.Goals as goal

pub returns-clause-rest : goal.returns-clause-rest
returns-clause-rest g c = λ make. ap (at_least 1 make) c.lead.ensures.moved ∙ chosen-from 1 make (map g.D.DocSet.entries c.args.docsets.now.items) c.args.target (omega arith) c.requires

pub returns-clause-at : goal.returns-clause-at
returns-clause-at g c = λ make. c.lead.ensures.least ∙ sym (union-first g.D.DocSet.entries g.met.D.DocSet.rising make c.lead.new.docsets.items)
