-- Lists that go on together to the documents that all of them have.
use Rattle.std.specs.Prelude.{List, ◌<◌, ◌≡◌, ◌≤◌, length, map, ℕ}
use Rattle.definitions.specs.Postings.{terminated}
use Rattle.docsets.specs.Entries.{Entry, Rising, first, from}
use Rattle.docsets.specs.Members.{at_least, entries_at, joining, least}

-- the documents that all of several lists have, with all that their entries tell
abbrev pub meeting : List (List Entry) → List Entry
meeting ess = at_least (length ess) joining ess

-- lists go on from one document to another: what comes from that one on stays, and not all have one that is passed
pub record Passes (low high : ℕ) (before after : List (List Entry)) : Type 0 where
  pub up : low ≤ high
  pub small : high ≤ terminated
  pub long : length after ≡ length before
  pub kept : map (from high) after ≡ map (from high) before
  pub passed : (d : ℕ) → low ≤ d → d < high → length (entries_at d before) < length before

-- they stand on the first document of their meeting, and none before it, unless it is the end
pub record IsMeeting (ess : List (List Entry)) (doc : ℕ) : Type 0 where
  pub at : doc ≡ first (meeting ess)
  pub leads : doc < terminated → doc ≤ least ess
  pub rises : Rising 0 (meeting ess)
