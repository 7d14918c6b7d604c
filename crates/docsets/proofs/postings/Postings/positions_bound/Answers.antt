use Rattle.std.proofs.Common.{arith}
use Rattle.docsets.proofs.EntryLaws.{most-first}
use Rattle.docsets.proofs.postings.Postings.positions_bound.Goals as goal

pub returns : goal.returns
returns g c =
    let most = c.most_positions.ensures in
    let first = most-first (g.Self.DocSet.entries c.args.self.now) in
    omega (arith, most, first)
