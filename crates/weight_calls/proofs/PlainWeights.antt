-- The queries that all documents match, and none: no schema refuses them.
use Rattle.std.proofs.Common.{[], refl}
use Rattle.std.specs.Prelude.{⊤}
use Rattle.definitions.specs.Query.{all, empty}
use Rattle.definitions.specs.Refusing.{node_fault}
use Rattle.weights.specs.Unscored.{no_scores}
use Rattle.weights.specs.Weighing.{IsWeighed}

pub all_weighed : IsWeighed (λ sim. ⊤) 1 all
unfolding node_fault
all_weighed = ∣ (no_scores, tt, ∣ ([], refl) ∣₁) ∣₁

pub none_weighed : IsWeighed (λ sim. ⊤) 1 empty
unfolding node_fault
none_weighed = ∣ (no_scores, tt, ∣ ([], refl) ∣₁) ∣₁
