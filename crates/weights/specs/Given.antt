-- What makes the scorers of leaves, where scores may not be asked for.
use Rattle.std.specs.Borrow.{Bor}
use Rattle.std.specs.Prelude.{None, Option, Some}
use Rattle.definitions.specs.Scoring.{Similarity}
use Rattle.weights.specs.Unscored.{no_scores}
use Rattle.weights.specs.declared.given_weights.GivenWeights.{GivenWeights}

-- the similarity of statistics that are lent
abbrev pub lent_similarity : {S : Type 0} → (S → Similarity) → Option (Bor S) → Similarity
lent_similarity similarity None = no_scores
lent_similarity similarity (Some statistics) = similarity statistics.now

-- the weights of terms and the norms of lengths
abbrev pub given_similarity : {S : Type 0} → (S → Similarity) → GivenWeights S → Similarity
given_similarity similarity w = lent_similarity similarity w.statistics
