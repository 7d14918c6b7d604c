-- Laws of lists that go on together.
use Rattle.std.proofs.Common.{List, ℕ}
use Rattle.std.proofs.Props.{props}
use Rattle.docsets.specs.Entries.{Entry}
use Rattle.docsets.specs.EntryLaws.{Rising-prop}
use Rattle.intersections.specs.Meetings.{IsMeeting, meeting}

pub IsMeeting-prop : (ess : List (List Entry)) (doc : ℕ) → IsProp (IsMeeting ess doc)
IsMeeting-prop ess doc = let rises = Rising-prop 0 (meeting ess) in hlevel (props, rises)
