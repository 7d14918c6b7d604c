-- Prefixes of terms: where the terms that begin with one end, the first of them, and how often they follow a phrase.
use Rattle.std.specs.Prelude.{[], ◌+◌, ◌-◌, ◌==◌, ◌∷◌, true, Bool, List, None, Option, Some, bytes_eq, filter, flat_map, if◌then◌else◌, length, map, nat_eq, nat_lt, sum_by, take, ℕ}
use Rattle.std.specs.Cmp.Lexicographic.{slice_cmp}
use Rattle.std.specs.List.{list_any, starts_with}
use Rattle.std.specs.Option.{option_map_or}
use Rattle.std.specs.Ordering.{is_ge, is_le, is_lt, nat_cmp}
use Rattle.definitions.specs.Analyzers.{Analyzer}
use Rattle.definitions.specs.Indexing.{terms_of}
use Rattle.definitions.specs.JsonLeaves.{once}
use Rattle.definitions.specs.Phrases.{by_offset, last_and_rest, last_offset, phrase_places}
use Rattle.definitions.specs.Query.{Terms}
use Rattle.definitions.specs.Recorded.{positions_of}
use Rattle.definitions.specs.Schema.{Schema}
use Rattle.definitions.specs.Values.{Document}

-- The bytes up to the last one below 255, and that one greater: the least bytes above all that begin with the prefix.
-- There are none where every byte is 255.
abbrev pub prefix_end : List ℕ → Option (List ℕ)
prefix_end [] = None
prefix_end (b ∷ bs) = elim (prefix_end bs) [ Some end ↦ Some (b ∷ end) | None ↦ if nat_lt b 255 then Some ((b + 1) ∷ []) else None ]

-- ---- terms in the order of their bytes

-- bytes at their place among ascending ones
abbrev pub insert_bytes : List ℕ → List (List ℕ) → List (List ℕ)
insert_bytes t [] = t ∷ []
insert_bytes t (u ∷ us) = let rest = insert_bytes t us in if is_le (slice_cmp nat_cmp t u) then t ∷ u ∷ us else u ∷ rest

-- lists of bytes, ascending
abbrev pub by_bytes : List (List ℕ) → List (List ℕ)
by_bytes [] = []
by_bytes (t ∷ ts) = insert_bytes t (by_bytes ts)

-- the terms that documents hold, ascending, each once
abbrev pub terms_in : Schema → Analyzer → List Document → List (List ℕ)
terms_in schema analyze docs = once bytes_eq (by_bytes (flat_map (λ doc. map (λ p. p.0) (terms_of schema analyze doc)) docs))

-- the first `limit` of them that begin with a prefix
abbrev pub expansions : Schema → Analyzer → List Document → ℕ → List ℕ → List (List ℕ)
expansions schema analyze docs limit prefix = take limit (filter (λ t. starts_with nat_eq t prefix) (terms_in schema analyze docs))

-- ---- how often terms follow whole terms

-- at how many of the places a term stands, moved on by some places
abbrev pub followed : (List ℕ → List ℕ) → List ℕ → ℕ → List ℕ → ℕ
followed positions places moved t = length (filter (λ place. list_any (λ p. p == place + moved) (positions t)) places)

-- how often the phrase goes on with one of the terms that the last one of a phrase prefix stands for
abbrev pub suffixes_count : (List ℕ → List ℕ) → List (List ℕ) → (ℕ × List ℕ) × Terms → ℕ
suffixes_count positions suffixes (last, whole) = sum_by (followed positions (phrase_places positions whole 0) (last.0 - last_offset whole)) suffixes

-- how often a phrase prefix stands in a document, where its last term stands for these
abbrev pub prefix_count : Schema → Analyzer → List (List ℕ) → Terms → Document → ℕ
prefix_count schema analyze suffixes terms doc = option_map_or (suffixes_count (λ t. positions_of schema analyze t doc) suffixes) (last_and_rest (by_offset terms)) 0

-- ---- prefixes as ranges

-- whether bytes stand at others or after them
abbrev pub is_from : List ℕ → List ℕ → Bool
is_from least bytes = is_ge (slice_cmp nat_cmp bytes least)

-- whether bytes stand before an end, where there is one
abbrev pub is_before : Option (List ℕ) → List ℕ → Bool
is_before None bytes = true
is_before (Some end) bytes = is_lt (slice_cmp nat_cmp bytes end)
