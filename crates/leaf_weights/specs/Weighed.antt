-- What terms weigh under a boost.
use Rattle.std.specs.Prelude.{suc, zero, ℕ}
use Rattle.definitions.specs.Scoring.{Similarity}

-- under no boost nothing weighs anything, which no score tells apart
abbrev pub under : ℕ → Similarity → Similarity
under zero sim = record { weight = λ t. 0; norms = sim.norms }
under (suc b) sim = sim
