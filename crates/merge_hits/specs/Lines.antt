-- Lines of the output, by the replies that they are made of.
use Rattle.std.specs.Prelude.{◌<◌, ◌≡◌, List, None, Option, Some, false, length, ℕ}
use Rattle.std.specs.List.{AllByRecursion}
use Rattle.serde_json.specs.Data.{Data}
use Rattle.serde_json.specs.Written.{compact_text, has_float}
use Rattle.shards.specs.Replies.{merged, readings, wanted_in}

-- there are replies, and each is that text
abbrev pub AreAll : List ℕ → List (List ℕ) → Type 0
AreAll text replies = (0 < length replies) × AllByRecursion (λ reply. reply ≡ text) replies

-- the text of the reply in place of all, where there is one, and else the text that all are
abbrev pub IsLineFor : Option Data → List (List ℕ) → List ℕ → Type 0
IsLineFor (Some d) replies text = has_float d ≡ false → text ≡ compact_text d
IsLineFor None replies text = AreAll text replies

-- the line for replies to a request
abbrev pub IsLine : List ℕ → List (List ℕ) → List ℕ → Type 0
IsLine request replies text = (ds : List Data) × (readings replies ≡ Some ds) × IsLineFor (merged (wanted_in request) ds) replies text
