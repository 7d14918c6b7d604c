-- A byte that no backslash takes is a dot or a byte of a key.
use Rattle.std.proofs.Common.{[], List, ap, ap₂, false, ◌++◌, ◌∙◌, ◌∷◌, ◌≡◌, ℕ}
use Rattle.definitions.specs.Terms.{key_bytes}
use Rattle.terms.proofs.JsonPathSteps.{path-dot, path-plain, path-taken, path_from}
use Rattle.terms.proofs.json_path.path_byte.Goals as goal
use Rattle.terms.proofs.json_path.path_byte.Goals.{else-not-escaped-via-then-not-escaped+else-byte-eq46, else-not-escaped-via-else-not-escaped}

pub returns-then-byte-eq46 : goal.returns-then-byte-eq46
returns-then-byte-eq46 c rest = ap₂ (λ escaped byte. path_from c.args.expand_dots escaped (byte ∷ rest)) c.if-not-escaped.true c.if-byte-eq46.true ∙ path-dot c.args.expand_dots rest

pub returns : goal.returns
returns c rest =
    let dots = c.args.expand_dots in
    let byte = c.args.byte in
    let here = ap (λ (bytes : List ℕ). bytes ++ path_from dots false rest) c.key_byte.ensures in
    let step : path_from dots c.args.escaped (byte ∷ rest) ≡ key_bytes dots (byte ∷ []) ++ path_from dots false rest =
    elim c.else-not-escaped.branch [
      | else-not-escaped-via-then-not-escaped+else-byte-eq46 w ↦ ap (λ escaped. path_from dots escaped (byte ∷ rest)) w.if-not-escaped.true ∙ path-plain dots byte rest (c.requires w.if-not-escaped.true) w.if-byte-eq46.false
      | else-not-escaped-via-else-not-escaped w ↦ ap (λ escaped. path_from dots escaped (byte ∷ rest)) w.if-not-escaped.false ∙ path-taken dots byte rest
    ] in
    step ∙ here
