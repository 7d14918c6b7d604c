-- Room for the positions that several cursors have in one document.
use Rattle.std.specs.Prelude.{◌≤◌, List, None, Option, Some, vec_capacity}
use Rattle.std.specs.Bool.{⊤}
use Rattle.docsets.specs.Entries.{Entry}
use Rattle.scorers.specs.Uniting.{most_sum}
use Rattle.scorers.specs.declared.united_positions.PositionRoom.{PositionRoom}

-- for those of one of them, and for all together
abbrev pub FitsRoom : PositionRoom → List (List Entry) → Type 0
FitsRoom room ess = (most_sum ess ≤ vec_capacity room.one) × (most_sum ess ≤ vec_capacity room.all)

-- where positions are told there is room
abbrev pub HasRoom : Option PositionRoom → List (List Entry) → Type 0
HasRoom None ess = ⊤
HasRoom (Some room) ess = FitsRoom room ess
