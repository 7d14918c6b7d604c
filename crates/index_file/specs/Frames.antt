-- A record as it is written: without its open gate, and with the closed gate that follows it.
use Rattle.std.specs.Prelude.{[], ◌++◌, ◌∷◌, List, ℕ}
use Rattle.layouts.specs.RecordFiles.{sized_body}

-- the length of the body, the body, and a closed gate
abbrev pub frame_bytes : List ℕ → List ℕ
frame_bytes body = sized_body body ++ 0 ∷ []
