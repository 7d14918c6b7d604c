-- Queries that are not refused.
use Rattle.std.specs.Prelude.{◌≡◌, List, None, ℕ}
use Rattle.definitions.specs.Query.{Clauses, Queries, Query}
use Rattle.definitions.specs.Refusing.{clauses_fault, queries_fault, tree_fault}
use Rattle.definitions.specs.Schema.{Schema}

-- a schema refuses no part of a query, by weights of terms and under a boost
abbrev pub IsAccepted : (List ℕ → ℕ) → ℕ → Query → Type 0
IsAccepted weight b q = ∥ ((schema : Schema) × (tree_fault schema weight b q ≡ None)) ∥₁

-- of clauses
abbrev pub AreAcceptedClauses : (List ℕ → ℕ) → ℕ → Clauses → Type 0
AreAcceptedClauses weight b cs = ∥ ((schema : Schema) × (clauses_fault schema weight b cs ≡ None)) ∥₁

-- of queries in order
abbrev pub AreAccepted : (List ℕ → ℕ) → ℕ → Queries → Type 0
AreAccepted weight b qs = ∥ ((schema : Schema) × (queries_fault schema weight b qs ≡ None)) ∥₁
