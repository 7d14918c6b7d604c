use Rattle.std.proofs.Common.{[], List, ap, arith, inl, inr, refl, ⊎_elim, ◌∷◌, ◌∙◌, ◌≡◌, ◌⊎◌, ℕ}
use Rattle.definitions.proofs.CallMoments.{same_byte, same_bytes, up_to_5}
use Rattle.definitions.specs.MomentExamples.{left_between}
use Rattle.definitions.proofs.examples.moments.every_moment_counts.Goals as goal

-- one of the three images
abbrev IsOfThree : List ℕ → Type 0
IsOfThree image = (image ≡ 3 ∷ []) ⊎ ((image ≡ 4 ∷ []) ⊎ (image ≡ 5 ∷ []))

-- what is left since a time is left before, or one of the last two
one_of_them : (t : ℕ) (image : List ℕ) → left_between 5 t image → left_between 3 t image ⊎ IsOfThree image
one_of_them t image (k, from, to, is) = elim (up_to_5 k to) [
  | inl early ↦ inl (k, from, early, is)
  | inr late ↦ inr (inr (elim late [ inl four ↦ inl (is ∙ ap (λ n. n ∷ []) four) | inr five ↦ inr (is ∙ ap (λ n. n ∷ []) five) ]))
]

-- since the third call nothing else than the third's
third : (image : List ℕ) → left_between 3 3 image → IsOfThree image
third image (k, from, to, is) = let e : k ≡ 3 = omega (arith, from, to) in inl (is ∙ ap (λ n. n ∷ []) e)

pub returns-clause-all : goal.returns-clause-all
returns-clause-all c = record {
  later = omega arith;
  each_image = λ image left. ⊎_elim (third image) (λ named. named) (one_of_them 3 image left);
  before = λ t image le left. one_of_them t image left;
}

pub returns-clause-without_the_first : goal.returns-clause-without_the_first
returns-clause-without_the_first c run = elim (run.each_image (3 ∷ []) (3, omega arith, omega arith, refl)) [ inl e ↦ (let w = same_byte 3 4 e in omega (arith, w)) | inr e ↦ (let w = same_byte 3 5 e in omega (arith, w)) ]

pub returns-clause-without_the_middle : goal.returns-clause-without_the_middle
returns-clause-without_the_middle c run = elim (run.each_image (4 ∷ []) (4, omega arith, omega arith, refl)) [ inl e ↦ (let w = same_byte 4 3 e in omega (arith, w)) | inr e ↦ (let w = same_byte 4 5 e in omega (arith, w)) ]

pub returns-clause-without_the_last : goal.returns-clause-without_the_last
returns-clause-without_the_last c run = elim (run.each_image (5 ∷ []) (5, omega arith, omega arith, refl)) [ inl e ↦ (let w = same_byte 5 3 e in omega (arith, w)) | inr e ↦ (let w = same_byte 5 4 e in omega (arith, w)) ]

pub returns-clause-another_past : goal.returns-clause-another_past
returns-clause-another_past c run = elim (run.before 2 (5 ∷ 2 ∷ []) (omega arith) refl) [ inl e ↦ (let w = (same_bytes 5 2 3 2 e).0 in omega (arith, w)) | inr e ↦ (let w = (same_bytes 5 2 5 3 e).1 in omega (arith, w)) ]
