-- The hits that a list lends.
use Rattle.std.specs.Prelude.{List, map, ℕ}
use Rattle.std.specs.Borrow.{Bor}
use Rattle.serde_json.specs.View.{view}
use Rattle.serde_json.specs.declared.value.Value.{Value}
use Rattle.shards.specs.Replies.{Scored}

-- each hit with its score
abbrev pub hits_of : List (ℕ × Bor Value) → List Scored
hits_of hits = map (λ h. (h.0, view h.1.now)) hits
