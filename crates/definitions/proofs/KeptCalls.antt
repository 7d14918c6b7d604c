-- What crashes may have left of a device that keeps its calls: at each moment it was what the calls up to then make.
use Rattle.std.proofs.Common.{[], ◌++◌, ◌+◌, ◌≡◌, ◌≤◌, ◌∷◌, ◌⊎◌, List, ap, arith, inl, inr, le_refl, length, length-append, subst, sym, take, take_all, ◌∙◌, ℕ}
use Rattle.std.proofs.lemmas.Bool.{cases_lt}
use Rattle.std.proofs.lemmas.List.{take-append-le}
use Rattle.definitions.specs.Disk.{IsImage, Unsynced}
use Rattle.definitions.specs.Moments.{Elapses}

module _ {C : Type 0} (content : List C → List ℕ) (unsynced : List C → Unsynced) where
  -- what a crash may leave after these calls
  abbrev IsAfter : List C → List ℕ → Type 0
  IsAfter calls image = IsImage (content calls) (unsynced calls) image

  -- what a crash may have left after at least `t` of the calls
  abbrev IsSince : List C → ℕ → List ℕ → Type 0
  IsSince calls t image = (k : ℕ) × (t ≤ k) × (k ≤ length calls) × IsAfter (take k calls) image

  -- now is one of the moments since an earlier one
  pub since_now : (calls : List C) (t : ℕ) (bytes image : List ℕ) → content calls ≡ bytes → t ≤ length calls → IsImage bytes (unsynced calls) image → IsSince calls t image
  since_now calls t bytes image same le is =
      let now : IsAfter calls image = subst (λ (l : List ℕ). IsImage l (unsynced calls) image) (sym same) is in
      (length calls, le, le_refl (length calls), subst (λ (l : List C). IsAfter l image) (sym (take_all (length calls) calls (le_refl _))) now)

  -- since now there is no other
  pub only_now : (calls : List C) (bytes image : List ℕ) → content calls ≡ bytes → IsSince calls (length calls) image → IsImage bytes (unsynced calls) image
  only_now calls bytes image same (k, from, to, is) =
      let now : IsAfter calls image = subst (λ (l : List C). IsAfter l image) (take_all k calls from) is in
      subst (λ (l : List ℕ). IsImage l (unsynced calls) image) same now

  -- time goes on by a call
  pub elapses_by_a_call : (old new : List C) (call : C) (bytes : List ℕ) → new ≡ old ++ call ∷ [] → content new ≡ bytes
      → Elapses (length old) (length new) (IsSince old) (IsSince new) (IsImage bytes (unsynced new))
  elapses_by_a_call old new call bytes more same = record {
    later = omega (arith, long);
    nothing_else = λ t image le since. split t image since;
    keeps = λ t image le since. (since.0, since.1, omega (arith, long, since.2), subst (λ (l : List C). IsAfter l image) (sym (front since.0 since.2)) since.3);
  }
    where
      long : length new ≡ length old + 1
      long = ap length more ∙ length-append old (call ∷ [])

      front : (k : ℕ) → k ≤ length old → take k new ≡ take k old
      front k le = ap (take k) more ∙ take-append-le k old (call ∷ []) le

      split : (t : ℕ) (image : List ℕ) → IsSince new t image → IsSince old t image ⊎ IsImage bytes (unsynced new) image
      split t image (k, from, to, is) = elim (cases_lt (length old) k) [
        | inl past ↦
            let all : length new ≤ k = omega (arith, long) in
            let now : IsAfter new image = subst (λ (l : List C). IsAfter l image) (take_all k new all) is in
            inr (subst (λ (l : List ℕ). IsImage l (unsynced new) image) same now)
        | inr le ↦ inl (k, from, le, subst (λ (l : List C). IsAfter l image) (front k le) is)
      ]
