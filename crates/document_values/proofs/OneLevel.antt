-- One level more on both sides.
use Rattle.std.proofs.Common.{arith, false, inl, inr, nat_lt, suc, sym, true, ◌<◌, ◌∙◌, ◌≡◌, ◌⊎◌, ℕ}
use Rattle.std.proofs.lemmas.Bool.Decides.{leb_tells}

pub one_level : (levels deep : ℕ) → nat_lt levels deep ≡ nat_lt (suc levels) (suc deep)
one_level levels deep = go (leb_tells (suc levels) deep) (leb_tells (suc (suc levels)) (suc deep))
  where
    go : ((nat_lt levels deep ≡ true) × (levels < deep)) ⊎ ((nat_lt levels deep ≡ false) × (deep < suc levels)) → ((nat_lt (suc levels) (suc deep) ≡ true) × (suc levels < suc deep)) ⊎ ((nat_lt (suc levels) (suc deep) ≡ false) × (suc deep < suc (suc levels))) → nat_lt levels deep ≡ nat_lt (suc levels) (suc deep)
    go (inl a) (inl b) = a.0 ∙ sym b.0
    go (inr a) (inr b) = a.0 ∙ sym b.0
    go (inl a) (inr b) = let low = a.1 in let high = b.1 in absurd (omega arith)
    go (inr a) (inl b) = let low = a.1 in let high = b.1 in absurd (omega arith)
