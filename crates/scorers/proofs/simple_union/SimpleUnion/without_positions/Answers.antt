use Rattle.std.proofs.Common.{false, map, ◌∙◌}
use Rattle.docsets.specs.Members.{at_least}
use Rattle.docsets.proofs.MemberLaws.{from-zero}
use Rattle.scorers.proofs.Together.{together-first}
use Rattle.scorers.specs.Uniting.{uniting}
use Rattle.scorers.proofs.simple_union.SimpleUnion.without_positions.Goals as goal

pub invariant_of-result : goal.invariant_of-result
invariant_of-result g c = record {
  together = together-first g.S.DocSet.entries g.met.S.DocSet.rising false c.args.docsets.items (map g.S.DocSet.entries c.seek_any-doc.new.docsets.items) c.seek_any-doc.result c.requires (λ e. absurd (cc)) c.seek_any-doc.ensures.moved c.seek_any-doc.ensures.least;
  room = tt;
}

pub returns : goal.returns
returns g c = c.seek_any-doc.ensures.rest (uniting false) ∙ from-zero (at_least 1 (uniting false) (map g.S.DocSet.entries c.args.docsets.items))
