-- Similarities of statistics, where there are any.
use Rattle.std.proofs.Common.{None, Option, Some, option_map, refl, ◌≡◌}
use Rattle.std.specs.Borrow.{Bor}
use Rattle.definitions.specs.Scoring.{Similarity}
use Rattle.weights.specs.Given.{lent_similarity}
use Rattle.weights.specs.Unscored.{similarity_given}

-- lent statistics are statistics
pub lent_is : {S : Type 0} (similarity : S → Similarity) (o : Option (Bor S)) → lent_similarity similarity o ≡ similarity_given similarity (option_map (λ s. s.now) o)
lent_is similarity None = refl
lent_is similarity (Some statistics) = refl
