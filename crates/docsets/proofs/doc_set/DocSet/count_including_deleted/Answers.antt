use Rattle.std.proofs.Common.{arith}
use Rattle.docsets.proofs.EntryLaws.{few}
use Rattle.docsets.proofs.doc_set.DocSet.count_including_deleted.Goals as goal

pub loop-doc-init : goal.loop-doc-init
loop-doc-init g c =
    let bound = few 0 (g.Self.DocSet.entries c.args.self.now) (g.met.Self.DocSet.rising c.args.self.now) in
    record { at = c.doc-doc.ensures; all = omega arith; few = omega (arith, bound) }
