-- The groups of an address, written one after the other.
use Rattle.std.proofs.Common.{[], List, append_assoc, codes, false, ◌%◌, ◌++◌, ◌/◌, ◌^◌, ◌∷◌, ◌≡◌, ℕ}
use Rattle.std.specs.Fmt.{digits}

-- a group, behind which `shift` bits stand
abbrev pub group_text : ℕ → ℕ → List ℕ
group_text n shift = digits 16 false (n / 2 ^ shift % 2 ^ 16)

-- groups, each after a colon
abbrev pub later_groups : ℕ → List ℕ → List ℕ
later_groups n [] = []
later_groups n (shift ∷ shifts) = 58 ∷ (group_text n shift ++ later_groups n shifts)

-- one more of them
pub next_group : (n shift : ℕ) (shifts before : List ℕ) → ((before ++ codes ":") ++ group_text n shift) ++ later_groups n shifts ≡ before ++ later_groups n (shift ∷ shifts)
next_group n shift shifts before = simp append_assoc
