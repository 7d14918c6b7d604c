use Rattle.std.proofs.Common.{is_some, map, subst, sym}
use Rattle.docsets.specs.Entries.{Rising}
use Rattle.docsets.specs.EntryLaws.{Rising-from}
use Rattle.docsets.specs.Members.{at_least}
use Rattle.scorers.proofs.Together.{together-on}
use Rattle.scorers.proofs.UnitedRoom.{room-on}
use Rattle.scorers.specs.Uniting.{uniting}
use Rattle.scorers.proofs.simple_union.SimpleUnionDocSet.seek.Goals as goal

pub invariant_of-self : goal.invariant_of-self
invariant_of-self g c =
    let s = c.args.self.now in
    let ess = map g.S.DocSet.entries s.docsets.items in
    let next = c.seek_any-self in
    let make = uniting (is_some s.positions) in
    let moved = map g.S.DocSet.entries next.new.docsets.items in
    record {
      together = together-on (is_some s.positions) ess moved c.args.target s.doc next.result s.together (subst (Rising 0) (sym (next.ensures.rest make)) (Rising-from c.args.target 0 (at_least 1 make ess) s.together.rises)) next.ensures.moved next.ensures.least;
      room = room-on s.positions ess moved c.args.target s.room next.ensures.moved;
    }

pub returns-clause-rest : goal.returns-clause-rest
returns-clause-rest g c = c.seek_any-self.ensures.rest (uniting (is_some c.args.self.now.positions))

pub returns-clause-at : goal.returns-clause-at
returns-clause-at g c = c.seek_any-self.ensures.at (uniting (is_some c.args.self.now.positions))
