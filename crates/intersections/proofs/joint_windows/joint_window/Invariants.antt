use Rattle.std.proofs.Common.{map, min, sum, take, ◌<◌, ◌≡◌, ◌≤◌, ℕ}
use Rattle.definitions.specs.Postings.{terminated}
use Rattle.definitions.specs.Scoring.{max_score}
use Rattle.docsets.specs.Members.{entries_at, scores_in}
use Rattle.intersections.proofs.joint_windows.joint_window.Given as goal

-- the scorers stay where they are, and those so far have this bound
abbrev pub invariant-loop-i : goal.invariant-loop-i
invariant-loop-i g l = record {
  same : map g.S.DocSet.entries l.scorers.items ≡ map g.S.DocSet.entries l.fn.scorers.items;
  few : l.bound ≤ max_score;
  ahead : l.fn.target < l.until;
  within : l.until ≤ terminated;
  covers : (d : ℕ) → l.fn.target ≤ d → d < l.until → min (sum (scores_in (entries_at d (take l.i (map g.S.DocSet.entries l.fn.scorers.items))))) max_score ≤ l.bound;
}
