use Rattle.std.proofs.Common.{ap, arith, ◌≤◌}
use Rattle.docsets.specs.Entries.{first, from}
use Rattle.docsets.proofs.EntryLaws.{first-from}
use Rattle.docsets.proofs.DangerLaws.{missed-seek}
use Rattle.docsets.proofs.doc_set.DocSet.seek_danger.Goals as goal

pub returns-then-target-doc-2 : goal.returns-then-target-doc-2
returns-then-target-doc-2 g c = missed-seek c.args.target c.seek-doc.result 0 (g.Self.DocSet.entries c.args.self.now) (g.Self.DocSet.entries c.seek-doc.new.self) (g.met.Self.DocSet.rising c.args.self.now) c.seek-doc.ensures.rest c.seek-doc.ensures.at (omega arith)

pub returns : goal.returns
returns g c =
    let at = c.seek-doc.ensures.at in
    let first_doc = ap first c.seek-doc.ensures.rest in
    let least : c.args.target ≤ first (from c.args.target (g.Self.DocSet.entries c.args.self.now)) = first-from c.args.target (g.Self.DocSet.entries c.args.self.now) (omega arith) in
    (omega (arith, at, first_doc, least), c.seek-doc.ensures.rest)
