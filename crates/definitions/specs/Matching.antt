-- Which documents match a query.
use Rattle.std.specs.Prelude.{[], ◌&&◌, ◌||◌, ◌∷◌, Bool, List, count_by, false, nat_le, nat_lt, not, true, ℕ}
use Rattle.std.specs.List.{list_all, list_any}
use Rattle.definitions.specs.Analyzers.{Analyzer}
use Rattle.definitions.specs.Phrases.{phrase_count, prefix_matches}
use Rattle.definitions.specs.Query.{Clauses, Occur, Queries, Query, all, boolean, boost, clause, const_score, disjunction_max, empty, must, must_not, no_clauses, no_queries, phrase, phrase_prefix, query, should, term}
use Rattle.definitions.specs.Recorded.{holds}
use Rattle.definitions.specs.Schema.{Schema}
use Rattle.definitions.specs.Values.{Document}

-- whether a clause that is required fails, or one that is forbidden matches
abbrev pub agrees : Occur × Bool → Bool
agrees (must, m) = m
agrees (should, m) = true
agrees (must_not, m) = not m

-- whether a clause is a should clause that matches
abbrev pub is_met_should : Occur × Bool → Bool
is_met_should (should, m) = m
is_met_should (must, m) = false
is_met_should (must_not, m) = false

-- whether a clause counts towards matches and scores
abbrev pub is_counted : Occur → Bool
is_counted must = true
is_counted should = true
is_counted must_not = false

-- what the clauses answer: every must matches, no must_not does, enough should clauses do, and at least
-- one must or should clause does
abbrev pub bool_matches : ℕ → List (Occur × Bool) → Bool
bool_matches least answers = list_all agrees answers && nat_le least (count_by is_met_should answers) && list_any (λ a. is_counted a.0 && a.1) answers

abbrev mutual
  pub matches : Schema → Analyzer → Document → Query → Bool
  matches schema analyze doc all = true
  matches schema analyze doc empty = false
  matches schema analyze doc (term t option) = holds schema analyze t doc
  matches schema analyze doc (phrase terms slop) = nat_lt 0 (phrase_count schema analyze terms slop doc)
  matches schema analyze doc (phrase_prefix terms limit) = prefix_matches schema analyze terms doc
  matches schema analyze doc (boolean cs least) = bool_matches least (answers_of schema analyze doc cs)
  matches schema analyze doc (disjunction_max qs tie) = some_match schema analyze doc qs
  matches schema analyze doc (boost factor q) = matches schema analyze doc q
  matches schema analyze doc (const_score constant q) = matches schema analyze doc q

  -- what each clause answers
  pub answers_of : Schema → Analyzer → Document → Clauses → List (Occur × Bool)
  answers_of schema analyze doc no_clauses = []
  answers_of schema analyze doc (clause occur q cs) = (occur, matches schema analyze doc q) ∷ answers_of schema analyze doc cs

  pub some_match : Schema → Analyzer → Document → Queries → Bool
  some_match schema analyze doc no_queries = false
  some_match schema analyze doc (query q qs) = matches schema analyze doc q || some_match schema analyze doc qs
