-- Windows: the rows that are left, and the room of their buffers.
use Rattle.std.specs.Prelude.{◌+◌, ◌<◌, ◌≤◌, List, drop, length, vec_capacity, ℕ}
use Rattle.docsets.specs.Entries.{Entry}
use Rattle.phrases.specs.Rows.{row_entries}
use Rattle.phrases.specs.declared.window.Window.{Window}

-- the row on which it stands and those behind
abbrev pub left_in : Window → List Entry
left_in w = row_entries w.places.items (drop w.row w.rows.items)

-- it stands on a row or at the end, takes some documents next, and has room for `most_places` places and for
-- `most_positions` positions of one document
pub record IsWindow (w : Window) (most_places most_positions : ℕ) : Type 0 where
  pub within : w.row ≤ length w.rows.items
  pub limit_positive : 0 < w.limit
  pub limit_fits : w.limit ≤ 4096
  pub rows : 4096 ≤ vec_capacity w.rows
  pub guesses : 4096 ≤ vec_capacity w.guesses
  pub places : 16384 + most_places ≤ vec_capacity w.places
  pub here : most_places ≤ vec_capacity w.here
  pub positions : most_positions ≤ vec_capacity w.positions
