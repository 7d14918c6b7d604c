use Rattle.std.proofs.Common.{arith}
use Rattle.phrases.proofs.PhraseEntryLaws.{first-placed, length-placed}
use Rattle.phrases.proofs.postings_with_offset.PostingsWithOffsetPositioned.positions_bound.Goals as goal

pub positions_bound-requires : goal.positions_bound-requires
positions_bound-requires g c =
    let s = c.args.self.now in
    let same = first-placed s.offset (g.P.DocSet.entries s.postings) in
    let on = c.requires in
    omega (arith, same, on)

pub returns : goal.returns
returns g c =
    let s = c.args.self.now in
    let same = length-placed s.offset (g.P.DocSet.entries s.postings) in
    let few = c.positions_bound.ensures in
    omega (arith, same, few)
