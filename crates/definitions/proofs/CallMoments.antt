-- Between the third call and the fifth.
use Rattle.std.proofs.Common.{[], arith, refl, suc, zero, ◌∷◌, ◌≡◌, ◌≤◌, ◌⊎◌, inl, inr, ℕ}

-- the byte of one image is that of another
pub same_byte : (a b : ℕ) → a ∷ [] ≡ b ∷ [] → a ≡ b
same_byte a b e = cc

pub same_bytes : (a b c d : ℕ) → a ∷ b ∷ [] ≡ c ∷ d ∷ [] → (a ≡ c) × (b ≡ d)
same_bytes a b c d e = (cc, cc)

-- up to 5 a number is at most 3, or 4, or 5
pub up_to_5 : (k : ℕ) → k ≤ 5 → (k ≤ 3) ⊎ ((k ≡ 4) ⊎ (k ≡ 5))
up_to_5 zero l = inl (omega arith)
up_to_5 (suc zero) l = inl (omega arith)
up_to_5 (suc (suc zero)) l = inl (omega arith)
up_to_5 (suc (suc (suc zero))) l = inl (omega arith)
up_to_5 (suc (suc (suc (suc zero)))) l = inr (inl refl)
up_to_5 (suc (suc (suc (suc (suc zero))))) l = inr (inr refl)
up_to_5 (suc (suc (suc (suc (suc (suc k)))))) l = absurd (omega arith)
