-- Numbers ascending, each once.
use Rattle.std.specs.Prelude.{[], ⊤, ◌+◌, ◌==◌, ◌∷◌, ◌≤◌, Bool, List, ℕ}
use Rattle.std.specs.List.{list_any}
use Rattle.definitions.specs.JsonLeaves.{once}
use Rattle.definitions.specs.Recorded.{ascending}

-- numbers in ascending order, repeats dropped
abbrev pub distinct : List ℕ → List ℕ
distinct ns = once ◌==◌ (ascending ns)

-- whether a number is among others
abbrev pub holds : List ℕ → ℕ → Bool
holds ns n = list_any (λ m. n == m) ns

-- numbers from one on, each above the one before
abbrev pub Ascends : ℕ → List ℕ → Type 0
Ascends low [] = ⊤
Ascends low (n ∷ ns) = (low ≤ n) × Ascends (n + 1) ns
