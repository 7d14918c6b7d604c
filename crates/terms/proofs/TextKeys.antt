-- Value bytes of texts.
use Rattle.std.proofs.Common.{[], ◌+◌, ◌-◌, ◌∙◌, ◌∷◌, ◌≡◌, ◌≤◌, Bool, List, None, Some, ap, arith, bytes_eq, cond, drop, false, length, nat_eq, nat_lt, refl, slice_get, sym, take, true, unwrap_or, ◌&&◌, ℕ}
use Rattle.std.specs.List.{after_first, position, position_or_len}
use Rattle.std.proofs.Math.Seq.{take-length}
use Rattle.std.proofs.lemmas.Bool.{ltb-false}
use Rattle.std.proofs.lemmas.List.{drop_all, length-drop}
use Rattle.std.proofs.lemmas.Option.{cond_some}

pub none_found : (test : Bool) (k : ℕ) → None ≡ cond test (Some k) None → test ≡ false
none_found true k found = cc
none_found false k found = refl

module _ (test : ℕ → Bool) (bs : List ℕ) where
  -- what stands behind the first that passes
  pub found_behind : (end : ℕ) → Some end ≡ position test bs → take (length bs - (end + 1)) (drop (end + 1) bs) ≡ after_first test bs
  found_behind end found =
      let here = (cond_some (nat_lt (position_or_len test bs) (length bs)) (position_or_len test bs) end (sym found)).1 in
      ap (λ n. take n (drop (end + 1) bs)) (sym (length-drop (end + 1) bs)) ∙ take-length (drop (end + 1) bs) ∙ ap (λ k. drop (k + 1) bs) (sym here)

  -- nothing does where none passes
  pub none_behind : None ≡ position test bs → [] ≡ after_first test bs
  none_behind found =
      let end = position_or_len test bs in
      let past : length bs ≤ end = ltb-false end (length bs) (none_found (nat_lt end (length bs)) end found) in
      sym (drop_all (end + 1) bs (omega (arith, past)))

-- the first byte
pub first_is : (leaf : List ℕ) (b : ℕ) → slice_get leaf 0 ≡ Some b → nat_eq b 115 ≡ bytes_eq (take 1 leaf) (115 ∷ [])
first_is [] b is = cc
first_is (x ∷ xs) b is = ap (λ o. nat_eq (unwrap_or o 0) 115) (sym is) ∙ go (nat_eq x 115)
  where
    go : (t : Bool) → t ≡ (t && true)
    go true = refl
    go false = refl

pub first_none : (leaf : List ℕ) → slice_get leaf 0 ≡ None → false ≡ bytes_eq (take 1 leaf) (115 ∷ [])
first_none [] is = refl
first_none (x ∷ xs) is = cc
