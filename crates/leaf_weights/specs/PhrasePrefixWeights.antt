-- What the weight of a phrase prefix has.
use Rattle.std.specs.Prelude.{[], ◌-◌, ◌≡◌, List, length, slice_index_or, ℕ}
use Rattle.definitions.specs.Phrases.{whole_terms}
use Rattle.definitions.specs.Query.{Terms}
use Rattle.definitions.specs.Scoring.{Similarity, weight_sum}
use Rattle.leaf_weights.specs.PlacedAnswers.{whole_weight}
use Rattle.leaf_weights.specs.declared.phrase_prefix_weight.PhrasePrefixWeight.{PhrasePrefixWeight}

-- its terms with their offsets, the last of them the prefix
abbrev pub prefix_terms_of : PhrasePrefixWeight → Terms
prefix_terms_of w = w.terms.now

-- the prefix
abbrev pub prefix_of : PhrasePrefixWeight → List ℕ
prefix_of w = (slice_index_or w.terms.now (length w.terms.now - 1) (0, [])).1

-- to how many terms it expands at most
abbrev pub limit_of : PhrasePrefixWeight → ℕ
limit_of w = w.max_expansions

-- the most that a document earns, but for the boost
abbrev pub most_in : PhrasePrefixWeight → ℕ
most_in w = whole_weight (whole_terms w.terms.now) w.weight

-- it scores by these weights of its whole terms, added up, and by these norms
pub record ScoresPrefixBy (sim : Similarity) (w : PhrasePrefixWeight) : Type 0 where
  pub weight_is : weight_sum sim.weight (whole_terms w.terms.now) ≡ w.weight
  pub norms_are : sim.norms ≡ w.norms.now
