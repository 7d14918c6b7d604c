-- Where prefixes end, by their last bytes.
use Rattle.std.proofs.Common.{[], List, None, Option, Some, ap, if◌then◌else◌, nat_lt, refl, ◌++◌, ◌+◌, ◌<◌, ◌≡◌, ◌∷◌, ℕ}
use Rattle.std.proofs.lemmas.Bool.{lt-ltb}
use Rattle.definitions.specs.Prefixes.{prefix_end}

-- how the end of bytes follows from that of all but the first
abbrev behind_first : ℕ → Option (List ℕ) → Option (List ℕ)
behind_first b o = elim o [ Some end ↦ Some (b ∷ end) | None ↦ if nat_lt b 255 then Some ((b + 1) ∷ []) else None ]

-- a last byte of 255 ends nothing
pub ends_before : (bs : List ℕ) → prefix_end (bs ++ 255 ∷ []) ≡ prefix_end bs
ends_before [] = refl
ends_before (b ∷ bs) = ap (behind_first b) (ends_before bs)

-- a lesser one does
pub ends_here : (bs : List ℕ) (last : ℕ) → last < 255 → prefix_end (bs ++ last ∷ []) ≡ Some (bs ++ (last + 1) ∷ [])
ends_here [] last l = ap (λ b. if b then Some ((last + 1) ∷ []) else None) (lt-ltb last 255 l)
ends_here (b ∷ bs) last l = ap (behind_first b) (ends_here bs last l)
