use Rattle.std.proofs.Common.{[], List, ap, arith, inl, inr, refl, ◌∷◌, ◌∙◌, ◌≡◌, ◌⊎◌, ℕ}
use Rattle.definitions.proofs.CallMoments.{same_byte, up_to_5}
use Rattle.definitions.specs.MomentExamples.{left_between}
use Rattle.definitions.proofs.examples.moments.time_goes_on.Goals as goal

-- what is left since a time after four calls is left after three, or the fourth's
three_or_four : (t : ℕ) (image : List ℕ) → left_between 4 t image → left_between 3 t image ⊎ (image ≡ 4 ∷ [])
three_or_four t image (k, from, to, is) = elim (up_to_5 k (omega (arith, to))) [
  | inl early ↦ inl (k, from, early, is)
  | inr late ↦ elim late [ inl four ↦ inr (is ∙ ap (λ n. n ∷ []) four) | inr five ↦ absurd (omega (arith, to, five)) ]
]

pub returns-clause-one_call : goal.returns-clause-one_call
returns-clause-one_call c = record {
  later = omega arith;
  nothing_else = λ t image le since. three_or_four t image since;
  keeps = λ t image le past. (past.0, past.1, omega (arith, past.2), past.3);
}

pub returns-clause-two_calls : goal.returns-clause-two_calls
returns-clause-two_calls c time = elim (time.nothing_else 3 (4 ∷ []) (omega arith) (4, omega arith, omega arith, refl)) [
  | inl past ↦ (let w = same_byte 4 past.0 past.3 in omega (arith, w, past.2))
  | inr e ↦ (let w = same_byte 4 5 e in omega (arith, w))
]

pub returns-clause-forgotten : goal.returns-clause-forgotten
returns-clause-forgotten c time = let w = same_byte 3 4 (time.keeps 3 (3 ∷ []) (omega arith) (3, omega arith, omega arith, refl)) in omega (arith, w)
