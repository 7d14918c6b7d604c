use Rattle.std.proofs.Common.{drop, subst}
use Rattle.std.proofs.lemmas.List.{drop-drop}
use Rattle.docsets.specs.ScoredEntries.{AreScores}
use Rattle.docsets.proofs.ScoredEntryLaws.{AreScores-drop}
use Rattle.docsets.proofs.list_scorer.ListScorerDocSet.seek.Goals as goal

pub invariant_of-self : goal.invariant_of-self
invariant_of-self c =
    let s = c.args.self.now in
    record { scores = subst (AreScores 0) (drop-drop c.count_before.result s.cursor s.pairs.items) (AreScores-drop c.count_before.result 0 (drop s.cursor s.pairs.items) s.scores) }
