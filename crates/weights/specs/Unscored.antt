-- What scores come from, where they may not be asked for.
use Rattle.std.specs.Prelude.{None, Option, Some, replicate}
use Rattle.definitions.specs.Scoring.{Similarity}

-- no term weighs anything
abbrev pub no_scores : Similarity
no_scores = record { weight = λ t. 0; norms = replicate 256 1 }

-- the similarity of statistics, where there are any
abbrev pub similarity_given : {S : Type 0} → (S → Similarity) → Option S → Similarity
similarity_given similarity None = no_scores
similarity_given similarity (Some statistics) = similarity statistics
