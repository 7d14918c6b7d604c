use Rattle.std.proofs.Common.{map, reverse, take, ◌≡◌, ℕ}
use Rattle.docsets.specs.Entries.{first_positions}
use Rattle.intersections.specs.Meetings.{meeting}
use Rattle.phrases.specs.Costs.{column_costs}
use Rattle.phrases.specs.Finders.{HasRoom}
use Rattle.phrases.proofs.place_finder.PlaceFinder.find_near.Given as goal

-- the costs are those of the columns so far
abbrev pub invariant-loop-i : goal.invariant-loop-i
invariant-loop-i g l = record {
  same : meeting (map g.S.DocSet.entries l.terms.docsets.items) ≡ meeting (map g.S.DocSet.entries l.fn.terms.docsets.items);
  slop : l.self.slop ≡ l.fn.self.slop;
  costs : l.self.costs.items ≡ column_costs l.most (reverse (take l.i (first_positions (meeting (map g.S.DocSet.entries l.fn.terms.docsets.items)))));
  room : (n : ℕ) → HasRoom l.fn.self n → HasRoom l.self n;
}
