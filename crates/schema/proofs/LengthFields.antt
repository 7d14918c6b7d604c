-- The fields that keep lengths, among some of all fields.
use Rattle.std.proofs.Common.{List, filter, map, ℕ}
use Rattle.definitions.specs.Schema.{Entry, keeps_length}

-- the numbers of those of the fields that keep lengths
abbrev pub numbers : List (ℕ × Entry) → List ℕ
numbers es = map (λ (p : ℕ × Entry). p.0) (filter (λ (p : ℕ × Entry). keeps_length p.1) es)
