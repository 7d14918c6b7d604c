-- A token of the code, as the definitions have it.
use Rattle.std.specs.Prelude.{[], ◌&&◌, ◌∷◌, Bool, List, nat_le, string_bytes, true, ℕ}
use Rattle.definitions.specs.Values as values
use Rattle.common.specs.declared.token.Token.{Token}

abbrev pub token_of : Token → values.Token
token_of t = record { position = t.position; position_length = t.position_length; text = string_bytes t.text }

-- whether no token stands before that place, nor before the one before it
abbrev pub positions_rise : ℕ → List values.Token → Bool
positions_rise least [] = true
positions_rise least (t ∷ ts) = nat_le least t.position && positions_rise t.position ts
