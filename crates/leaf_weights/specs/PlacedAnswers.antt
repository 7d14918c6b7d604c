-- The documents where phrases stand, with the places.
use Rattle.std.specs.Prelude.{[], ◌*◌, ◌==◌, ◌∷◌, Bool, List, None, Option, Some, filter_map, if◌then◌else◌, length, nat_lt, ℕ}
use Rattle.std.specs.List.{enumerate_from, list_all}
use Rattle.docsets.specs.Entries.{Entry}
use Rattle.definitions.specs.Analyzers.{Analyzer}
use Rattle.definitions.specs.Phrases.{phrase_count, phrase_places}
use Rattle.definitions.specs.Query.{Terms}
use Rattle.definitions.specs.Recorded.{holds, positions_of}
use Rattle.definitions.specs.Schema.{Schema}
use Rattle.definitions.specs.Scoring.{Similarity, phrase_score, prefix_score}
use Rattle.definitions.specs.Values.{Document}

-- a document at a place, with a score, and with the places of a phrase and their number
abbrev pub placed_entry : Schema → Analyzer → Terms → ℕ → ℕ → Document → ℕ → Entry
placed_entry schema analyze terms slop place doc score = record { doc = place; score = score; count = phrase_count schema analyze terms slop doc; positions = phrase_places (λ t. positions_of schema analyze t doc) terms slop ∷ [] }

-- the entry of a document with what the phrase earns under a boost, if it stands there
abbrev pub placed_at : Schema → Analyzer → Similarity → ℕ → Terms → ℕ → ℕ × Document → Option Entry
placed_at schema analyze sim b terms slop (place, doc) = if nat_lt 0 (phrase_count schema analyze terms slop doc) then Some (placed_entry schema analyze terms slop place doc (b * phrase_score schema analyze sim doc terms slop)) else None

-- the documents where a phrase stands
abbrev pub placed_answers : Schema → Analyzer → Similarity → ℕ → Terms → ℕ → List Document → List Entry
placed_answers schema analyze sim b terms slop docs = filter_map (placed_at schema analyze sim b terms slop) (enumerate_from 0 docs)

-- ---- before a prefix

-- what whole terms weigh: one earns the boost alone
abbrev pub whole_weight : Terms → ℕ → ℕ
whole_weight whole weight = if length whole == 1 then 1 else weight

-- whether whole terms stand in a document: one where it is held
abbrev pub stands_whole : Schema → Analyzer → Terms → Document → Bool
stands_whole schema analyze whole doc = if length whole == 1 then list_all (λ t. holds schema analyze t.1 doc) whole else nat_lt 0 (phrase_count schema analyze whole 0 doc)

-- a document at a place, with what the whole terms of a prefix earn, if they stand there
abbrev pub whole_at : Schema → Analyzer → Similarity → ℕ → Terms → ℕ × Document → Option Entry
whole_at schema analyze sim b whole (place, doc) = if stands_whole schema analyze whole doc then Some (placed_entry schema analyze whole 0 place doc (b * prefix_score schema analyze sim doc whole)) else None

-- the documents where whole terms stand
abbrev pub whole_answers : Schema → Analyzer → Similarity → ℕ → Terms → List Document → List Entry
whole_answers schema analyze sim b whole docs = filter_map (whole_at schema analyze sim b whole) (enumerate_from 0 docs)
