-- The terms of phrases in JSON, by the steps in which they are read.
use Rattle.std.specs.Prelude.{◌==◌, List, Option, Some, codes, length, zip, ℕ}
use Rattle.std.specs.List.{range_with_len}
use Rattle.definitions.specs.Json.{at_or, list_of, number_below, only_if, ◌>>=◌}
use Rattle.definitions.specs.Query.{Terms}
use Rattle.definitions.specs.QueryGrammar.{offset_limit}
use Rattle.definitions.specs.Schema.{Schema}
use Rattle.definitions.specs.TermGrammar.{term_in}
use Rattle.serde_json.specs.Data as json
use Rattle.serde_json.specs.Find.{get}

-- the terms at `terms`, however many and of which fields
abbrev pub given_terms : Schema → json.Data → Option (List (List ℕ))
given_terms schema d = get (codes "terms") d >>= list_of (term_in schema)

-- the numbers at `offsets`, and else the first `count` offsets
abbrev pub offsets_at : ℕ → json.Data → Option (List ℕ)
offsets_at count d = at_or (range_with_len 0 count) (list_of (number_below offset_limit)) (codes "offsets") d

-- terms, each with its offset
abbrev pub with_offsets : json.Data → List (List ℕ) → Option Terms
with_offsets d ts = offsets_at (length ts) d >>= (λ offsets. only_if (length offsets == length ts) (Some (zip offsets ts)))
