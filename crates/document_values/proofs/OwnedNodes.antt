-- The values in lists, one after the other.
use Rattle.std.proofs.Common.{[], Global, ap, arith, length, rules, ◌+◌, ◌++◌, ◌<◌, ◌∷◌, ◌≡◌, List, String, Vec}
use Rattle.definitions.specs.Values.{array}
use Rattle.document_values.proofs.OwnedParts.{object_seen}
use Rattle.document_values.specs.Owned.{owned_members, owned_value, owned_values}
use Rattle.document_values.specs.OwnedNodes.{members_above, members_nodes, nodes, nodes_above, values_above, values_nodes}
use Rattle.document_values.specs.declared.owned_value.OwnedValue.{Array, Object, OwnedValue, the_lemmas}
use Rattle.layouts.specs.DocumentReading.{to_members, to_values}

-- the values in one more value
pub last_nodes : (vs : List OwnedValue) (v : OwnedValue) → values_nodes (to_values (owned_values (vs ++ v ∷ []))) ≡ values_nodes (to_values (owned_values vs)) + nodes (owned_value v)
last_nodes [] v = omega arith
last_nodes (w ∷ vs) v = omega (arith, last_nodes vs v)

-- one more value has its values above, where it isn't the first
pub last_above : (vs : List OwnedValue) (v : OwnedValue) → 0 < length vs → values_above (to_values (owned_values (vs ++ v ∷ []))) ≡ values_above (to_values (owned_values vs)) + nodes (owned_value v)
last_above [] v some = omega (arith, some)
last_above (w ∷ vs) v some = omega (arith, last_nodes vs v)

-- the values in one more member
pub last_member_nodes : (ms : List (String Global × OwnedValue)) (m : String Global × OwnedValue) → members_nodes (to_members (owned_members (ms ++ m ∷ []))) ≡ members_nodes (to_members (owned_members ms)) + nodes (owned_value m.1)
last_member_nodes [] m = omega arith
last_member_nodes (n ∷ ms) m = omega (arith, last_member_nodes ms m)

-- one more member has its values above, where it isn't the first
pub last_member_above : (ms : List (String Global × OwnedValue)) (m : String Global × OwnedValue) → 0 < length ms → members_above (to_members (owned_members (ms ++ m ∷ []))) ≡ members_above (to_members (owned_members ms)) + nodes (owned_value m.1)
last_member_above [] m some = omega (arith, some)
last_member_above (n ∷ ms) m some = omega (arith, last_member_nodes ms m)

-- ---- arrays and objects above

pub array_above : (vs : Vec OwnedValue Global) → nodes_above (owned_value (Array vs)) ≡ values_above (to_values (owned_values vs.items))
array_above vs =
    let held : owned_value (Array vs) ≡ array (to_values (owned_values vs.items)) = search (rules, the_lemmas) in
    ap nodes_above held

pub object_above : (ms : Vec (String Global × OwnedValue) Global) → nodes_above (owned_value (Object ms)) ≡ members_above (to_members (owned_members ms.items))
object_above ms = ap nodes_above (object_seen ms)
