use Rattle.std.proofs.Common.{List, drop, subst, sym}
use Rattle.docsets.proofs.BoundLaws.{passes_none}
use Rattle.docsets.proofs.EntryLaws.{Rising-drop}
use Rattle.docsets.specs.Bounds.{PassesLow}
use Rattle.docsets.specs.Entries.{Entry}
use Rattle.docsets.proofs.scorer.Scorer.advance_above.Goals as goal

pub returns-clause-passes : goal.returns-clause-passes
returns-clause-passes g c =
    let left = drop 1 (g.Self.DocSet.entries c.args.self.now) in
    subst (λ (es : List Entry). PassesLow c.args.threshold left es) (sym c.advance.ensures.rest) (passes_none c.args.threshold 0 left (Rising-drop 1 0 (g.Self.DocSet.entries c.args.self.now) (g.met.Self.DocSet.rising c.args.self.now)))
