use Rattle.std.proofs.Common.{map, sum, take, ◌<◌, ◌≡◌, ◌≤◌, ℕ}
use Rattle.definitions.specs.Scoring.{max_score}
use Rattle.docsets.specs.Members.{entries_at, scores_in}
use Rattle.walks.proofs.meeting_walk.bound_together.Given as goal

-- the scorers stay where they are, and those so far have this bound
abbrev pub invariant-loop-i : goal.invariant-loop-i
invariant-loop-i g l = record {
  same : map g.S.DocSet.entries l.others.items ≡ map g.S.DocSet.entries l.fn.others.items;
  few : l.together.score ≤ max_score;
  ahead : l.fn.target < l.together.until;
  until : l.together.until ≤ l.fn.until;
  bound : (d : ℕ) → l.fn.target ≤ d → d < l.together.until → sum (scores_in (entries_at d (take l.i (map g.S.DocSet.entries l.fn.others.items)))) ≤ l.together.score;
}
