use Rattle.std.proofs.Common.{is_some, sym, ◌∙◌}
use Rattle.docsets.proofs.AtLeastLaws.{union-first}
use Rattle.scorers.specs.Uniting.{uniting}
use Rattle.scorers.proofs.simple_union.SimpleUnionDocSet.doc.Goals as goal

pub returns : goal.returns
returns g c = c.args.self.now.together.leads ∙ sym (union-first g.S.DocSet.entries g.met.S.DocSet.rising (uniting (is_some c.args.self.now.positions)) c.args.self.now.docsets.items)
