-- What crashes leave in the worked examples: a device is how many calls it has had.
use Rattle.std.specs.Prelude.{[], ◌∷◌, ◌≡◌, ◌≤◌, List, ℕ}

-- after the k-th call a crash leaves the byte k, so since a time any from then to now
abbrev pub left_between : ℕ → ℕ → List ℕ → Type 0
left_between now t image = (k : ℕ) × (t ≤ k) × (k ≤ now) × (image ≡ k ∷ [])

-- a device that says of each time only what it leaves now, and the time
abbrev pub forgetful : ℕ → ℕ → List ℕ → Type 0
forgetful now t image = image ≡ now ∷ t ∷ []
