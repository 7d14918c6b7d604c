-- What must be told of hits in one way alone.
use Rattle.std.specs.Prelude.{[], ◌∷◌, List, ℕ}
use Rattle.std.specs.Coded.{Unit-prop, ×_prop}
use Rattle.std.specs.List.{AllByRecursion-prop}
use Rattle.std.proofs.Props.{props}
use Rattle.definitions.specs.NumberedHits.{NeverRises}
use Rattle.best_k.specs.Kept.{AreSigned, ScoredAddress}

pub NeverRises-prop : {X : Type 0} (key : X → ℕ) (xs : List X) → IsProp (NeverRises key xs)
NeverRises-prop key [] = Unit-prop
NeverRises-prop key (x ∷ xs) = ×_prop (AllByRecursion-prop _ (λ y. hlevel props) xs) (NeverRises-prop key xs)

pub AreSigned-prop : (hits : List ScoredAddress) → IsProp (AreSigned hits)
AreSigned-prop hits = AllByRecursion-prop _ (λ h. hlevel props) hits
