-- The value bytes of texts.
use Rattle.std.specs.Prelude.{◌==◌, Bool, List, bytes_eq, codes, false, take, true, ℕ}
use Rattle.std.specs.List.{after_first}
use Rattle.definitions.specs.Schema.{Kind, json_kind, text_kind}

-- whether the value bytes are a text's, in a field of a kind
abbrev pub is_text_key : Kind → List ℕ → Bool
is_text_key text_kind key = true
is_text_key json_kind key = bytes_eq (take 1 (after_first (◌==◌ 0) key)) (codes "s")
is_text_key _ key = false
