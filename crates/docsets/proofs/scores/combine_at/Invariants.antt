use Rattle.std.proofs.Common.{List, drop, map, sum, ◌++◌, ◌+◌, ◌≡◌, ◌≤◌, ℕ}
use Rattle.docsets.specs.Members.{entries_at, scores_in}
use Rattle.docsets.proofs.scores.combine_at.Given as goal

-- what was taken and what is to come are all
abbrev pub invariant-loop-i : goal.invariant-loop-i
invariant-loop-i g l = record {
  same : map g.S.DocSet.entries l.docsets.items ≡ map g.S.DocSet.entries l.fn.docsets.items;
  totals : g.C.ScoreCombiner.total l.total + sum (scores_in (entries_at l.doc (drop l.i (map g.S.DocSet.entries l.fn.docsets.items)))) ≤ g.C.ScoreCombiner.total l.fn.combiner + sum (scores_in (entries_at l.doc (map g.S.DocSet.entries l.fn.docsets.items)));
  answers : (xs : List ℕ) → g.C.ScoreCombiner.answer l.total (scores_in (entries_at l.doc (drop l.i (map g.S.DocSet.entries l.fn.docsets.items))) ++ xs) ≡ g.C.ScoreCombiner.answer l.fn.combiner (scores_in (entries_at l.doc (map g.S.DocSet.entries l.fn.docsets.items)) ++ xs);
}
