-- The weights by which queries are searched.
use Rattle.std.specs.Prelude.{⊤}
use Rattle.definitions.specs.Query.{Query, term}
use Rattle.definitions.specs.Scoring.{Similarity}
use Rattle.segment_search.specs.Counted.{IsTermQuery}
use Rattle.segment_search.specs.declared.counted_weight.CountedWeight.{CountedWeight}
use Rattle.segment_search.specs.declared.counted_weight.CountedWeight.TheVariants.{Other, Term}
use Rattle.leaf_weights.specs.TermWeights.{ScoresBy, option_asked, term_of}
use Rattle.weights.specs.AnyForms.{AnyScoresBy, any_query}

module _ {W : Type 0} where
  -- the query
  abbrev pub counted_query : CountedWeight W → Query
  counted_query (Term w) = term (term_of w) (option_asked w)
  counted_query (Other w) = any_query w

  -- it scores by these weights of terms and norms of lengths
  abbrev pub CountedScoresBy : (W → Similarity) → CountedWeight W → Similarity → Type 0
  CountedScoresBy similarity (Term w) sim = ScoresBy sim w
  CountedScoresBy similarity (Other w) sim = AnyScoresBy similarity w sim

  -- it counts blocks if its query is one term
  abbrev pub CountsTerms : CountedWeight W → Type 0
  CountsTerms (Term w) = ⊤
  CountsTerms (Other w) = ¬ IsTermQuery (any_query w)
