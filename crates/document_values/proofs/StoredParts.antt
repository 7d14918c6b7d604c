-- What is stored of a value's parts.
use Rattle.std.proofs.Common.{[], ◌∷◌, ◌≡◌, List, ap, map, refl, ℕ}
use Rattle.definitions.specs.Stored.{plain, plain_members, plain_values}
use Rattle.definitions.specs.Values.{Value, member, value}
use Rattle.layouts.specs.DocumentReading.{to_members, to_values}

pub plain_listed : (vs : List Value) → to_values (map plain vs) ≡ plain_values (to_values vs)
plain_listed [] = refl
plain_listed (v ∷ vs) = ap (value (plain v)) (plain_listed vs)

pub plain_keyed : (ms : List (List ℕ × Value)) → to_members (map (λ m. (m.0, plain m.1)) ms) ≡ plain_members (to_members ms)
plain_keyed [] = refl
plain_keyed (m ∷ ms) = ap (member m.0 (plain m.1)) (plain_keyed ms)
