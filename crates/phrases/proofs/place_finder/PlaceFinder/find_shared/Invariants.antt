use Rattle.std.proofs.Common.{map, reverse, take, ◌≡◌, ℕ}
use Rattle.docsets.specs.Entries.{first_positions}
use Rattle.intersections.specs.Meetings.{meeting}
use Rattle.phrases.specs.Finders.{HasRoom}
use Rattle.phrases.specs.Places.{Ascends, distinct, reached}
use Rattle.phrases.proofs.place_finder.PlaceFinder.find_shared.Given as goal

-- the places, each once, are those of the columns so far
abbrev pub invariant-loop-i : goal.invariant-loop-i
invariant-loop-i g l = record {
  same : meeting (map g.S.DocSet.entries l.terms.docsets.items) ≡ meeting (map g.S.DocSet.entries l.fn.terms.docsets.items);
  slop : l.self.slop ≡ l.fn.self.slop;
  ascends : Ascends 0 l.self.places.items;
  places : distinct 0 l.self.places.items ≡ reached 0 (reverse (take l.i (first_positions (meeting (map g.S.DocSet.entries l.fn.terms.docsets.items)))));
  room : (n : ℕ) → HasRoom l.fn.self n → HasRoom l.self n;
}
