-- Room for the positions that several cursors have in one document: laws.
use Rattle.std.proofs.Common.{List, None, Option, Some}
use Rattle.std.specs.Coded.{Unit-prop}
use Rattle.std.proofs.Props.{props}
use Rattle.docsets.specs.Entries.{Entry}
use Rattle.scorers.specs.declared.united_positions.PositionRoom.{PositionRoom}
use Rattle.scorers.specs.UnitedRoom.{HasRoom}

pub HasRoom-prop : (room : Option PositionRoom) (ess : List (List Entry)) → IsProp (HasRoom room ess)
HasRoom-prop None ess = Unit-prop
HasRoom-prop (Some room) ess = hlevel props
