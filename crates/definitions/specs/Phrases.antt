-- Phrases: where terms stand beside each other.
use Rattle.std.specs.Prelude.{[], ◌&&◌, ◌+◌, ◌-◌, ◌==◌, ◌∷◌, Bool, List, None, Option, Some, false, filter, flat_map, if◌then◌else◌, length, map, nat_eq, nat_le, ℕ}
use Rattle.std.specs.List.{list_any, starts_with}
use Rattle.std.specs.Option.{option_map_or}
use Rattle.definitions.specs.Analyzers.{Analyzer}
use Rattle.definitions.specs.Indexing.{Placed, terms_of}
use Rattle.definitions.specs.JsonLeaves.{once}
use Rattle.definitions.specs.Query.{Terms}
use Rattle.definitions.specs.Recorded.{positions_of}
use Rattle.definitions.specs.Schema.{Schema}
use Rattle.definitions.specs.Values.{Document}

-- a term at its place among terms in the order of offsets, before those with its own offset
abbrev pub insert_by_offset : ℕ × List ℕ → Terms → Terms
insert_by_offset t [] = t ∷ []
insert_by_offset t (u ∷ us) = let rest = insert_by_offset t us in if nat_le t.0 u.0 then t ∷ u ∷ us else u ∷ rest

-- the terms in the stable order of offsets
abbrev pub by_offset : Terms → Terms
by_offset [] = []
by_offset (t ∷ ts) = insert_by_offset t (by_offset ts)

-- the last term, and those before it
abbrev pub last_and_rest : Terms → Option ((ℕ × List ℕ) × Terms)
last_and_rest [] = None
last_and_rest (t ∷ ts) = Some (elim (last_and_rest ts) [ None ↦ (t, []) | Some p ↦ (p.0, t ∷ p.1) ])

-- the positions, each moved by the greatest offset less the term's own
abbrev pub adjusted : (List ℕ → List ℕ) → ℕ → ℕ × List ℕ → List ℕ
adjusted positions greatest t = map (λ p. p + (greatest - t.0)) (positions t.1)

-- one number of each list, in each way
abbrev pub choices : List (List ℕ) → List (List ℕ)
choices [] = [] ∷ []
choices (ns ∷ lists) = flat_map (λ n. map (◌∷◌ n) (choices lists)) ns

-- how far two numbers are apart
abbrev pub distance : ℕ → ℕ → ℕ
distance a b = (a - b) + (b - a)

-- the distances between neighbours, from the first number on to the last
abbrev pub way : ℕ → List ℕ → ℕ
way last [] = 0
way last (n ∷ []) = distance n last
way last (n ∷ m ∷ ns) = distance n m + way last (m ∷ ns)

-- whether some choice from the earlier terms leads to r within the slop
abbrev pub is_reached : List (List ℕ) → ℕ → ℕ → Bool
is_reached earlier slop r = list_any (λ choice. nat_le (way r choice) slop) (choices earlier)

-- the places that terms in the order of offsets reach, each once
abbrev pub ordered_places : (List ℕ → List ℕ) → ℕ → (ℕ × List ℕ) × Terms → List ℕ
ordered_places positions slop (last, earlier) = filter (is_reached (map (adjusted positions last.0) earlier) slop) (once ◌==◌ (adjusted positions last.0 last))

-- the places of a phrase: the distinct adjusted positions of the last term that are reached
abbrev pub phrase_places : (List ℕ → List ℕ) → Terms → ℕ → List ℕ
phrase_places positions terms slop = elim (last_and_rest (by_offset terms)) [ None ↦ [] | Some p ↦ ordered_places positions slop p ]

-- how often a phrase stands in a document
abbrev pub phrase_count : Schema → Analyzer → Terms → ℕ → Document → ℕ
phrase_count schema analyze terms slop doc = length (phrase_places (λ t. positions_of schema analyze t doc) terms slop)

-- of a phrase prefix, the terms that are whole: all but the last in the order of offsets
abbrev pub whole_terms : Terms → Terms
whole_terms terms = option_map_or (λ p. p.1) (last_and_rest (by_offset terms)) []

-- the greatest offset
abbrev pub last_offset : Terms → ℕ
last_offset terms = option_map_or (λ p. p.0.0) (last_and_rest (by_offset terms)) 0

-- whether a term that begins with the prefix stands at the place
abbrev pub prefix_stands : List Placed → List ℕ → ℕ → Bool
prefix_stands terms prefix place = list_any (λ p. starts_with nat_eq p.0 prefix && (p.1 == place)) terms

-- whether at a place of the whole terms, moved on to the prefix's offset, a term begins with the prefix
abbrev pub prefix_follows : Schema → Analyzer → Document → Terms → ℕ × List ℕ → Bool
prefix_follows schema analyze doc whole (offset, prefix) = list_any (λ place. prefix_stands (terms_of schema analyze doc) prefix (place + (offset - last_offset whole))) (phrase_places (λ t. positions_of schema analyze t doc) whole 0)

-- whether a phrase prefix matches: the last term in the order of offsets follows the others
abbrev pub prefix_matches : Schema → Analyzer → Terms → Document → Bool
prefix_matches schema analyze terms doc = elim (last_and_rest (by_offset terms)) [ None ↦ false | Some p ↦ prefix_follows schema analyze doc p.1 p.0 ]
