-- What the weight of a phrase has.
use Rattle.std.specs.Prelude.{◌≡◌, ℕ}
use Rattle.definitions.specs.Query.{Terms}
use Rattle.definitions.specs.Scoring.{Similarity, weight_sum}
use Rattle.leaf_weights.specs.declared.phrase_weight.PhraseWeight.{PhraseWeight}

-- its terms with their offsets
abbrev pub terms_of : PhraseWeight → Terms
terms_of w = w.terms.now

-- how many places they may be off together
abbrev pub slop_of : PhraseWeight → ℕ
slop_of w = w.slop

-- what the terms weigh together
abbrev pub weight_in : PhraseWeight → ℕ
weight_in w = w.weight

-- it scores by these weights of its terms, added up, and by these norms
pub record ScoresBy (sim : Similarity) (w : PhraseWeight) : Type 0 where
  pub weight_is : weight_sum sim.weight w.terms.now ≡ w.weight
  pub norms_are : sim.norms ≡ w.norms.now
