-- Owned values printed part by part.
use Rattle.std.proofs.Common.{Global, [], ◌∷◌, ◌≡◌, List, Vec, ap, map, refl, rules}
use Rattle.definitions.specs.Printed.{printed, printed_list, printed_values}
use Rattle.definitions.specs.Values.{Value, array}
use Rattle.document_values.specs.Owned.{owned_value, owned_values}
use Rattle.layouts.specs.DocumentReading.{to_values}
use Rattle.document_values.specs.declared.owned_value.OwnedValue.{Array, OwnedValue, the_lemmas}
use Rattle.serde_json.specs.Data.{item}
use Rattle.serde_json.specs.View.{items_of}

pub array_seen : (vs : Vec OwnedValue Global) → owned_value (Array vs) ≡ array (to_values (owned_values vs.items))
array_seen vs = search (rules, the_lemmas)

-- a list of values is printed as an array's
pub printed_listed : (vs : List Value) → printed_list vs ≡ printed_values (to_values vs)
printed_listed [] = refl
printed_listed (v ∷ vs) = ap (item (printed v)) (printed_listed vs)

-- values one after another are their list
pub items_of_values : (vs : List OwnedValue) → items_of (map (λ v. printed (owned_value v)) vs) ≡ printed_list (owned_values vs)
items_of_values [] = refl
items_of_values (v ∷ vs) = ap (item (printed (owned_value v))) (items_of_values vs)
