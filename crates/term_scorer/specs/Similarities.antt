-- What a similarity stands for.
use Rattle.term_scorer.specs.TermScores.{TermSimilarity}
use Rattle.term_scorer.specs.declared.similarity.Similarity.{Similarity}

-- its weight, its boost and its norms
abbrev pub similarity_data : Similarity → TermSimilarity
similarity_data s = record { weight = s.weight; boost = s.boost; norms = s.norms.now }
