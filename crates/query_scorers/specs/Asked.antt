-- The queries in clauses.
use Rattle.std.specs.Prelude.{[], ◌∷◌, Bool, List, false, if◌then◌else◌, true}
use Rattle.definitions.specs.Query.{Clauses, Occur, Query, clause, must, must_not, no_clauses, should}

-- whether two clauses ask the same
abbrev pub is_same : Occur → Occur → Bool
is_same must must = true
is_same should should = true
is_same must_not must_not = true
is_same _ _ = false

-- the queries of the clauses that ask this, in order
abbrev pub asked : Occur → Clauses → List Query
asked occur no_clauses = []
asked occur (clause o q cs) = if is_same occur o then q ∷ asked occur cs else asked occur cs
