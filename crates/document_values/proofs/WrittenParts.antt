-- Arrays and objects put part by part: a code, how many there are, and these.
use Rattle.std.proofs.Common.{[], ◌++◌, ◌∷◌, ◌≡◌, ◌∙◌, List, ap, ap₂, append-nil, append_assoc, length, sym, ℕ}
use Rattle.definitions.specs.NumberCodes.{vint_bytes}
use Rattle.definitions.specs.Values.{Value, array, object}
use Rattle.layouts.specs.DocumentReading.{to_members, to_values}
use Rattle.document_values.proofs.Inside.{members_length, values_length}
use Rattle.layouts.specs.DocumentBytes.{members_bytes, value_bytes, values_bytes}

-- nothing is left
pub parts_put : (out pushed counted last rest parts : List ℕ) (code n m : ℕ) → pushed ≡ out ++ (code ∷ []) → counted ≡ pushed ++ vint_bytes n → n ≡ m → last ++ rest ≡ counted ++ parts → rest ≡ [] → last ≡ out ++ (code ∷ (vint_bytes m ++ parts))
parts_put out pushed counted last rest parts code n m first count is all none =
    sym (append-nil last) ∙ ap (λ r. last ++ r) (sym none) ∙ all
    ∙ ap (λ ys. ys ++ parts) (count ∙ ap₂ (λ p k. p ++ vint_bytes k) first is)
    ∙ append_assoc (out ++ (code ∷ [])) (vint_bytes m) parts
    ∙ append_assoc out (code ∷ []) (vint_bytes m ++ parts)

pub array_put : (out pushed counted last : List ℕ) (n : ℕ) (vs rest : List Value) → pushed ≡ out ++ (12 ∷ []) → counted ≡ pushed ++ vint_bytes n → n ≡ length vs → last ++ values_bytes (to_values rest) ≡ counted ++ values_bytes (to_values vs) → rest ≡ [] → last ≡ out ++ value_bytes (array (to_values vs))
array_put out pushed counted last n vs rest first count is all none = parts_put out pushed counted last (values_bytes (to_values rest)) (values_bytes (to_values vs)) 12 n _ first count (is ∙ sym (values_length vs)) all (ap (λ r. values_bytes (to_values r)) none)

pub object_put : (out pushed counted last : List ℕ) (n : ℕ) (ms rest : List (List ℕ × Value)) → pushed ≡ out ++ (13 ∷ []) → counted ≡ pushed ++ vint_bytes n → n ≡ length ms → last ++ members_bytes (to_members rest) ≡ counted ++ members_bytes (to_members ms) → rest ≡ [] → last ≡ out ++ value_bytes (object (to_members ms))
object_put out pushed counted last n ms rest first count is all none = parts_put out pushed counted last (members_bytes (to_members rest)) (members_bytes (to_members ms)) 13 n _ first count (is ∙ sym (members_length ms)) all (ap (λ r. members_bytes (to_members r)) none)
