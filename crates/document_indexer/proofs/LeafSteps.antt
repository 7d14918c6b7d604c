-- The steps of one leaf of a JSON field.
use Rattle.std.proofs.Common.{[], ◌++◌, ◌∷◌, ◌≡◌, Bool, List, append-nil, if◌then◌else◌, ℕ}
use Rattle.definitions.specs.Analyzers.{Analyzer}
use Rattle.definitions.specs.JsonLeaves.{has_zero, leaves}
use Rattle.definitions.specs.Values.{Value, u64}
use Rattle.document_indexer.specs.Steps.{leaves_steps, plain_leaf_steps}

-- a number alone
pub steps_of_number : (analyze : Analyzer) (field : ℕ) (tokenizer path : List ℕ) (n : ℕ) → leaves_steps analyze field tokenizer ((path, u64 n) ∷ []) ≡ plain_leaf_steps field (path, u64 n)
steps_of_number analyze field tokenizer path n = append-nil (plain_leaf_steps field (path, u64 n))

-- the leaves of a member
abbrev pub member_leaves : Bool → List (List ℕ) → List ℕ → Value → List (List ℕ × Value)
member_leaves dots keys k v = if has_zero k then [] else leaves dots (keys ++ (k ∷ [])) v
