-- The weights of queries of any form.
use Rattle.std.specs.Prelude.{⊤, ◌≡◌}
use Rattle.definitions.specs.Query as definitions
use Rattle.definitions.specs.Scoring.{Similarity}
use Rattle.query_trees.specs.Queries.{clauses_of, queries_of, query_of}
use Rattle.weights.specs.declared.any_weight.AnyWeight.{AnyWeight}
use Rattle.weights.specs.declared.any_weight.AnyWeight.TheVariants.{All, Boolean, Boost, ConstScore, DisjunctionMax, Empty, Phrase, PhrasePrefix, Term}

module _ {W : Type 0} where
  -- the query
  abbrev pub any_query : AnyWeight W → definitions.Query
  any_query (All w) = definitions.all
  any_query (Empty w) = definitions.empty
  any_query (Term query weights) = definitions.term query.now.0 query.now.1
  any_query (Phrase query weights) = definitions.phrase query.now.0 query.now.1
  any_query (PhrasePrefix query weights) = definitions.phrase_prefix query.now.0 query.now.1
  any_query (Boolean w) = definitions.boolean (clauses_of w.clauses.now) w.minimum_number_should_match
  any_query (DisjunctionMax w) = definitions.disjunction_max (queries_of w.disjuncts.now) w.tie_breaker
  any_query (Boost w) = definitions.boost w.boost (query_of w.weight.query.now)
  any_query (ConstScore w) = definitions.const_score w.score (query_of w.query.now)

  -- it scores by what makes the scorers of its leaves, if it has any
  abbrev pub AnyScoresBy : (W → Similarity) → AnyWeight W → Similarity → Type 0
  AnyScoresBy similarity (All w) sim = ⊤
  AnyScoresBy similarity (Empty w) sim = ⊤
  AnyScoresBy similarity (Term query weights) sim = sim ≡ similarity weights
  AnyScoresBy similarity (Phrase query weights) sim = sim ≡ similarity weights
  AnyScoresBy similarity (PhrasePrefix query weights) sim = sim ≡ similarity weights
  AnyScoresBy similarity (Boolean w) sim = sim ≡ similarity w.weights
  AnyScoresBy similarity (DisjunctionMax w) sim = sim ≡ similarity w.weights
  AnyScoresBy similarity (Boost w) sim = sim ≡ similarity w.weight.weights
  AnyScoresBy similarity (ConstScore w) sim = sim ≡ similarity w.weights
