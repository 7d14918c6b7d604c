use Rattle.std.proofs.Common.{arith, map}
use Rattle.scorers.proofs.UnitedRoom.{no_room-bounds, room-bounds}
use Rattle.scorers.proofs.simple_union.SimpleUnionPostings.most_positions.Goals as goal

pub returns-in-Some : goal.returns-in-Some
returns-in-Some g c =
    let s = c.args.self.now in
    let bound = room-bounds g.S.DocSet.entries g.met.S.DocSet.rising s.docsets.items s.positions c.in-Some.room c.in-Some.is s.room in
    let most = c.most.ensures in
    omega (arith, bound, most)

pub returns-in-None : goal.returns-in-None
returns-in-None g c = (let s = c.args.self.now in no_room-bounds s.positions (map g.S.DocSet.entries s.docsets.items) c.in-None.is)
