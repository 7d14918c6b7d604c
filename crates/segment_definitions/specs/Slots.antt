-- Slots: what a store keeps of each document.
use Rattle.std.specs.Prelude.{List, map, ℕ}
use Rattle.definitions.specs.Schema.{Schema}
use Rattle.definitions.specs.Stored.{stored_pairs}
use Rattle.definitions.specs.Values.{Document}
use Rattle.layouts.specs.DocumentBytes.{document_bytes}

-- the binary form of the pairs that are stored
abbrev pub slot : Schema → Document → List ℕ
slot schema doc = document_bytes (stored_pairs schema doc)

-- one for each document, in order
abbrev pub slots : Schema → List Document → List (List ℕ)
slots schema docs = map (slot schema) docs
