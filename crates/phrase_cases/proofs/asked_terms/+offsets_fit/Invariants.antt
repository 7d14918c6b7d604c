use Rattle.std.proofs.Common.{length}
use Rattle.phrase_cases.proofs.asked_terms.+offsets_fit.Given as goal

-- proposed from what the function passes where it calls itself
abbrev pub decreases-offsets_fit : goal.decreases-offsets_fit
decreases-offsets_fit g l = length l.term_postings.now
