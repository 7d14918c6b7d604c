-- Costs: how far the terms before lead to a position, up to the most that is asked for.
use Rattle.std.specs.Prelude.{[], ⊤, ◌+◌, ◌<◌, ◌∷◌, ◌≤◌, List, if◌then◌else◌, length, map, min, nat_le, slice_index_or, ℕ}
use Rattle.definitions.specs.Phrases.{distance}

-- the least cost of coming to a position from one of a table of positions and their costs
abbrev pub nearest : ℕ → List (ℕ × ℕ) → ℕ → ℕ
nearest most [] r = most
nearest most (l ∷ ls) r = min (distance l.0 r + l.1) (nearest most ls r)

-- the least cost of a position behind columns, the nearest first
abbrev pub least_cost : ℕ → List (List ℕ) → ℕ → ℕ
least_cost most [] r = 0
least_cost most (ps ∷ before) r = nearest most (map (λ p. (p, least_cost most before p)) ps) r

-- positions, each with its least cost
abbrev pub costs : ℕ → List ℕ → List (List ℕ) → List (ℕ × ℕ)
costs most ps before = map (λ p. (p, least_cost most before p)) ps

-- of a table, the positions from one on within the slop, each once
abbrev pub cheap : ℕ → ℕ → List (ℕ × ℕ) → List ℕ
cheap slop next [] = []
cheap slop next (l ∷ ls) = if nat_le next l.0 then (if nat_le l.1 slop then l.0 ∷ cheap slop (l.0 + 1) ls else cheap slop (l.0 + 1) ls) else cheap slop next ls

-- a table's positions ascend, and no cost is above the most that is asked for
abbrev pub IsTable : ℕ → ℕ → List (ℕ × ℕ) → Type 0
IsTable most low [] = ⊤
IsTable most low (l ∷ ls) = (low ≤ l.0) × (l.1 ≤ most) × IsTable most l.0 ls

-- the positions of a table ascend
abbrev pub IsInOrder : List (ℕ × ℕ) → Type 0
IsInOrder table = (i j : ℕ) → i ≤ j → j < length table → (slice_index_or table i (0, 0)).0 ≤ (slice_index_or table j (0, 0)).0

-- no position of a table costs more than another and the way from there
abbrev pub IsGradual : List (ℕ × ℕ) → Type 0
IsGradual table = (i j : ℕ) → i < length table → j < length table → (slice_index_or table i (0, 0)).1 ≤ distance (slice_index_or table j (0, 0)).0 (slice_index_or table i (0, 0)).0 + (slice_index_or table j (0, 0)).1

-- positions, each with its least cost from a table
abbrev pub nearest_costs : ℕ → List (ℕ × ℕ) → List ℕ → List (ℕ × ℕ)
nearest_costs most table ps = map (λ r. (r, nearest most table r)) ps

-- the last of columns, the first here, with its costs behind the others
abbrev pub column_costs : ℕ → List (List ℕ) → List (ℕ × ℕ)
column_costs most [] = []
column_costs most (ps ∷ before) = costs most ps before
