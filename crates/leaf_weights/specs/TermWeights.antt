-- What the weight of a term has.
use Rattle.std.specs.Prelude.{◌≡◌, List, ℕ}
use Rattle.definitions.specs.Schema.{IndexRecordOption}
use Rattle.definitions.specs.Scoring.{Similarity}
use Rattle.options.specs.RecordOption.{record_option_of}
use Rattle.leaf_weights.specs.declared.term_weight.TermWeight.{TermWeight}

-- its term
abbrev pub term_of : TermWeight → List ℕ
term_of w = w.term.now

-- what is read of the postings
abbrev pub option_asked : TermWeight → IndexRecordOption
option_asked w = record_option_of w.index_record_option

-- what the term weighs
abbrev pub weight_in : TermWeight → ℕ
weight_in w = w.weight

-- it scores by this weight of its term, and by these norms
pub record ScoresBy (sim : Similarity) (w : TermWeight) : Type 0 where
  pub weight_is : sim.weight w.term.now ≡ w.weight
  pub norms_are : sim.norms ≡ w.norms.now
