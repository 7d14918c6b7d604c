-- Stored values: what a search gives back of a document.
use Rattle.std.specs.Prelude.{[], ◌∷◌, List, None, Option, Some, filter, filter_map, map, ℕ}
use Rattle.std.specs.List.{enumerate_from}
use Rattle.definitions.specs.Schema.{Entry, Schema, field_has}
use Rattle.definitions.specs.Values.{Document, Members, Value, Values, array, member, no_members, no_values, object, pre_tok_str, str, value, values_of}

-- a field's name and its values, for each field that has some
abbrev pub Named : Type 0
Named = List (List ℕ × List Value)

-- a value as it is stored: pre-tokenised texts become texts
abbrev mutual
  pub plain : Value → Value
  plain (pre_tok_str s ts) = str s
  plain (array vs) = array (plain_values vs)
  plain (object ms) = object (plain_members ms)
  plain v = v

  pub plain_values : Values → Values
  plain_values no_values = no_values
  plain_values (value v vs) = value (plain v) (plain_values vs)

  pub plain_members : Members → Members
  plain_members no_members = no_members
  plain_members (member k v ms) = member k (plain v) (plain_members ms)

-- the values of stored fields, in order of addition
abbrev pub stored_pairs : Schema → Document → Document
stored_pairs schema doc = map (λ p. (p.0, plain p.1)) (filter (λ p. field_has (λ e. e.stored) schema p.0) doc)

-- a field with its values, where it has some
abbrev pub named_values : Document → ℕ × Entry → Option (List ℕ × List Value)
named_values doc (field, e) = elim (values_of field doc) [ [] ↦ None | v ∷ vs ↦ Some (e.name, v ∷ vs) ]

-- the values by field, in the order of the fields
abbrev pub by_field : Schema → Document → Named
by_field schema doc = filter_map (named_values doc) (enumerate_from 0 schema)

-- the stored fields that have a value, each with its values in order
abbrev pub stored_values : Schema → Document → Named
stored_values schema doc = by_field schema (stored_pairs schema doc)
