-- Terms of JSON fields, whose leaf stands at the end.
use Rattle.std.proofs.Common.{[], append_assoc, ap, option_map, sym, ◌++◌, ◌∙◌, ◌≡◌, List, None, Option, Some, ℕ}
use Rattle.query_text.specs.Answers.{JsonPath, leaf_term}

-- a leaf goes behind the start of the terms at a path
pub appended : (json_path : JsonPath) (leaf : List ℕ) → leaf_term json_path [] ++ leaf ≡ leaf_term json_path leaf
appended json_path leaf = simp append_assoc

-- so does one that may not be there
pub any_appended : (json_path : JsonPath) (start term : List ℕ) (leaf : Option (List ℕ)) → start ≡ leaf_term json_path [] → option_map (λ bytes. start ++ bytes) leaf ≡ Some term → option_map (leaf_term json_path) leaf ≡ Some term
any_appended json_path start term None is made = made
any_appended json_path start term (Some bytes) is made = ap Some (sym (appended json_path bytes) ∙ ap (λ s. s ++ bytes) (sym is)) ∙ made
