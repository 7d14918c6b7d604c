-- A record that is split off.
use Rattle.std.proofs.Common.{[], ◌++◌, ◌<◌, ◌^◌, ◌∙◌, ◌∷◌, ◌≡◌, List, ap, ap₂, arith, drop, length, length-append, sym, take, ℕ}
use Rattle.std.proofs.lemmas.List.{length-take-le, take-append-drop}
use Rattle.definitions.proofs.Lists.{tail_of}
use Rattle.definitions.specs.NumberCodes.{u64_bytes}
use Rattle.inspect.specs.Records.{HasBody}
use Rattle.layouts.specs.RecordFiles.{sized_body}

-- the next `n` bytes are the body
pub framed : (rest behind body after : List ℕ) (n : ℕ) → n < length behind → n < 2 ^ 64 → rest ≡ u64_bytes n ++ behind → body ≡ take n behind → after ≡ drop n behind
    → (rest ≡ sized_body body ++ after) × ((length body < 2 ^ 64) × (0 < length after))
framed rest behind body after n few small is front back =
    let long : length body ≡ n = ap length front ∙ length-take-le n behind (omega arith) in
    let parts : behind ≡ body ++ after = sym (take-append-drop n behind) ∙ ap₂ (λ (x y : List ℕ). x ++ y) (sym front) (sym back) in
    (is ∙ ap₂ (λ (m : ℕ) (l : List ℕ). u64_bytes m ++ l) (sym long) parts, (omega arith, omega (arith, ap length parts, length-append body after)))

-- behind the first byte there is no body, where none can be read there
pub no_body : (bytes rest body : List ℕ) (first gate : ℕ) (other : List ℕ) → bytes ≡ first ∷ other → bytes ≡ gate ∷ rest
    → ((body : List ℕ) (gate : ℕ) (more : List ℕ) → length body < 2 ^ 64 → ¬ (other ≡ sized_body body ++ gate ∷ more)) → ¬ HasBody rest body
no_body bytes rest body first gate other is also none has =
    let same : other ≡ rest = tail_of first gate _ _ (sym is ∙ also) in
    none body has.gate has.more has.short (same ∙ has.rest_is)

-- behind the first byte there is the body that was split off
pub has_body : (bytes rest body after : List ℕ) (first gate : ℕ) → bytes ≡ first ∷ rest → bytes ≡ gate ∷ (sized_body body ++ after) → length body < 2 ^ 64 → 0 < length after → HasBody rest body
has_body bytes rest body [] first gate is also few some = absurd (omega arith)
has_body bytes rest body (next ∷ more) first gate is also few some = record { short = few; gate = next; more = more; rest_is = tail_of first gate _ _ (sym is ∙ also) }
