-- The values in a value, counted so that each step of letting one go lowers their number.
use Rattle.std.specs.Prelude.{◌+◌, suc, ℕ}
use Rattle.definitions.specs.Values.{Members, Value, Values, array, member, no_members, no_values, object, value}
use Rattle.document_values.specs.Owned.{owned_members, owned_values}
use Rattle.document_values.specs.declared.disposal.Held.{Held}
use Rattle.document_values.specs.declared.disposal.Held.TheVariants as held
use Rattle.layouts.specs.DocumentReading.{to_members, to_values}

-- the values in a value and itself, of which arrays and objects count twice
abbrev mutual
  pub nodes : Value → ℕ
  nodes (array vs) = 2 + values_nodes vs
  nodes (object ms) = 2 + members_nodes ms
  nodes _ = 1

  pub values_nodes : Values → ℕ
  values_nodes no_values = 0
  values_nodes (value v vs) = nodes v + values_nodes vs

  pub members_nodes : Members → ℕ
  members_nodes no_members = 0
  members_nodes (member k v ms) = nodes v + members_nodes ms

-- the values above a value that is let go: the first one of a list is what is above that list
abbrev mutual
  pub nodes_above : Value → ℕ
  nodes_above (array vs) = values_above vs
  nodes_above (object ms) = members_above ms
  nodes_above _ = 0

  pub values_above : Values → ℕ
  values_above no_values = 0
  values_above (value v vs) = suc (nodes_above v + values_nodes vs)

  pub members_above : Members → ℕ
  members_above no_members = 0
  members_above (member k v ms) = suc (nodes_above v + members_nodes ms)

-- the nodes of what a value holds
abbrev pub held_nodes : Held → ℕ
held_nodes held.None = 1
held_nodes (held.Values vs) = 2 + values_nodes (to_values (owned_values vs.items))
held_nodes (held.Members ms) = 2 + members_nodes (to_members (owned_members ms.items))

abbrev pub held_above : Held → ℕ
held_above held.None = 0
held_above (held.Values vs) = values_above (to_values (owned_values vs.items))
held_above (held.Members ms) = members_above (to_members (owned_members ms.items))
