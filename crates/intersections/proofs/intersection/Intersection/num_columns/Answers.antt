use Rattle.std.proofs.Common.{arith}
use Rattle.intersections.proofs.ColumnLaws.{columns-count}
use Rattle.intersections.proofs.intersection.Intersection.num_columns.Goals as goal

pub returns : goal.returns
returns g c =
    let s = c.args.self.now in
    let leading = s.leading in
    let at = s.meets.at in
    let on = c.requires in
    let count = columns-count g.S.DocSet.entries g.met.S.DocSet.rising g.met.S.Positioned.one_column s.doc s.docsets.items s.meets (omega (arith, leading)) (omega (arith, at, on)) in
    let len = c.len.ensures in
    omega (arith, count, len)
