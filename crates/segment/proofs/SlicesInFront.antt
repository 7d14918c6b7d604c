-- Bytes that are put in front of others, within one list.
use Rattle.std.proofs.Common.{List, ap, arith, drop, get_or, length, length-drop, ◌+◌, ◌-◌, ◌<◌, ◌≡◌, ◌∙◌, ℕ}
use Rattle.std.specs.List.{CopiedTo}
use Rattle.std.proofs.lemmas.List.{ext_get_or, get_or-drop}

-- what was moved stands behind the front as it stood
pub moved_behind : (front bytes whole moved : List ℕ) (m : ℕ) → m ≡ length bytes → ((k : ℕ) → k < length bytes → get_or whole k 0 ≡ get_or bytes k 0) → length moved ≡ length front + length bytes → CopiedTo whole moved 0 (length front) m → drop (length front) moved ≡ bytes
moved_behind front bytes whole moved m all kept long copied =
    let same : length (drop (length front) moved) ≡ length bytes = omega (arith, long, length-drop (length front) moved) in
    ext_get_or 0 (drop (length front) moved) bytes same
    (λ i below.
    let index : 0 + (length front + i - length front) ≡ i = omega arith in
    get_or-drop (length front) moved i 0
    ∙ (copied (length front + i) 0 (omega arith) (omega (arith, below, same, all))
    ∙ (ap (λ n. get_or whole n 0) index ∙ kept i (omega (arith, below, same)))))
