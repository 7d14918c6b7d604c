-- Ascending terms.
use Rattle.std.proofs.Common.{[], List, ◌∷◌, ℕ}
use Rattle.std.proofs.Props.{props}
use Rattle.layouts.specs.TermSections.{TermsAscend}

pub TermsAscend-prop : (ts : List (List ℕ)) → IsProp (TermsAscend ts)
TermsAscend-prop [] = hlevel props
TermsAscend-prop (t ∷ []) = hlevel props
TermsAscend-prop (s ∷ t ∷ ts) = let rest : IsProp (TermsAscend (t ∷ ts)) = TermsAscend-prop (t ∷ ts) in hlevel (props, rest)
