-- Facets below others, byte by byte.
use Rattle.std.proofs.Common.{[], ◌&&◌, ◌++◌, ◌==◌, ◌∙◌, ◌∷◌, ◌≡◌, ◌≢◌, Bool, List, ap, ap₂, arith, bytes_eq, cond, false, get_or, length, nat_lt, refl, suc, sym, true, ℕ}
use Rattle.std.specs.List.{onto_first, starts_with}
use Rattle.std.proofs.lemmas.Bool.{and_parts, false_from_ne_true}
use Rattle.std.proofs.lemmas.Bool.Decides.{nat_tests}
use Rattle.definitions.proofs.Lists.{and-false as and_false}
use Rattle.definitions.specs.Facets.{is_root}
use Rattle.terms.proofs.FacetSteps.{some_step}
use Rattle.terms.specs.Steps.{steps_of}

-- the root is kept as no byte
pub is_root-steps_of : (text : List ℕ) → is_root (steps_of text) ≡ (length text == 0)
is_root-steps_of [] = refl
is_root-steps_of (c ∷ cs) = go (c == 0) (steps_of cs) (some_step cs)
  where
    go : (b : Bool) (steps : List (List ℕ)) → steps ≢ [] → is_root (cond b ([] ∷ steps) (onto_first c steps)) ≡ (length (c ∷ cs) == 0)
    go b [] some = absurd (some refl)
    go true (step ∷ steps) some = grind (arith, nat_tests)
    go false (step ∷ steps) some = grind (arith, nat_tests)

-- the first steps are the first of the second ones, and not all
abbrev pub below : List (List ℕ) → List (List ℕ) → Bool
below f g = nat_lt (length f) (length g) && starts_with bytes_eq g f

-- the text begins with the start, and then stands U+0000
abbrev pub follows : List ℕ → List ℕ → Bool
follows [] [] = false
follows [] (y ∷ ys) = y == 0
follows (x ∷ xs) [] = false
follows (x ∷ xs) (y ∷ ys) = (x == y) && follows xs ys

below-root : (y : ℕ) (parts : Bool) (steps : List (List ℕ)) → steps ≢ [] → below ([] ∷ []) (cond parts ([] ∷ steps) (onto_first y steps)) ≡ parts
below-root y parts [] some = absurd (some refl)
below-root y true (step ∷ steps) some = ap (λ b. b && true) (let more : nat_lt 1 (suc (suc (length steps))) ≡ true = grind (arith, nat_tests) in more)
below-root y false (step ∷ steps) some = and_false (nat_lt 1 (suc (length steps)))

root-below : (x : ℕ) (parts : Bool) (steps : List (List ℕ)) → steps ≢ [] → below (cond parts ([] ∷ steps) (onto_first x steps)) ([] ∷ []) ≡ false
root-below x parts [] some = absurd (some refl)
root-below x true (step ∷ steps) some = ap (λ b. b && starts_with bytes_eq ([] ∷ []) ([] ∷ step ∷ steps)) (let few : nat_lt (suc (suc (length steps))) 1 ≡ false = grind (arith, nat_tests) in few)
root-below x false (step ∷ steps) some = ap (λ b. b && starts_with bytes_eq ([] ∷ []) ((x ∷ step) ∷ steps)) (let few : nat_lt (suc (length steps)) 1 ≡ false = grind (arith, nat_tests) in few)

regroup : (same more first rest : Bool) → (more && ((same && first) && rest)) ≡ (same && (more && (first && rest)))
regroup true more first rest = refl
regroup false more first rest = and_false more

below-past : (x y : ℕ) (b d : Bool) (f g : List (List ℕ)) → (x == 0) ≡ b → (y == 0) ≡ d → f ≢ [] → g ≢ [] → below (cond b ([] ∷ f) (onto_first x f)) (cond d ([] ∷ g) (onto_first y g)) ≡ ((x == y) && below f g)
below-past x y b d [] g p q some more = absurd (some refl)
below-past x y b d (s ∷ f) [] p q some more = absurd (more refl)
below-past x y true true (s ∷ f) (t ∷ g) p q some more =
    let same : (x == y) ≡ true = grind (arith, nat_tests) in
    let less : nat_lt (length ([] ∷ s ∷ f)) (length ([] ∷ t ∷ g)) ≡ nat_lt (length (s ∷ f)) (length (t ∷ g)) = grind (arith, nat_tests) in
    rw same (ap (λ b. b && starts_with bytes_eq (t ∷ g) (s ∷ f)) less)
below-past x y true false (s ∷ f) (t ∷ g) p q some more =
    let other : (x == y) ≡ false = grind (arith, nat_tests) in
    rw other (and_false (nat_lt (length ([] ∷ s ∷ f)) (length ((y ∷ t) ∷ g))))
below-past x y false true (s ∷ f) (t ∷ g) p q some more =
    let other : (x == y) ≡ false = grind (arith, nat_tests) in
    rw other (and_false (nat_lt (length ((x ∷ s) ∷ f)) (length ([] ∷ t ∷ g))))
below-past x y false false (s ∷ f) (t ∷ g) p q some more = regroup (x == y) (nat_lt (length (s ∷ f)) (length (t ∷ g))) (bytes_eq s t) (starts_with bytes_eq g f)

-- the steps of one text are below those of the other where these bytes follow
pub below-follows : (start text : List ℕ) → below (steps_of start) (steps_of text) ≡ follows start text
below-follows [] [] = refl
below-follows [] (y ∷ ys) = below-root y (y == 0) (steps_of ys) (some_step ys)
below-follows (x ∷ xs) [] = root-below x (x == 0) (steps_of xs) (some_step xs)
below-follows (x ∷ xs) (y ∷ ys) = below-past x y (x == 0) (y == 0) (steps_of xs) (steps_of ys) refl refl (some_step xs) (some_step ys) ∙ ap (λ b. (x == y) && b) (below-follows xs ys)

-- ---- by what stands behind the start

follows-rest : (start rest : List ℕ) → follows start (start ++ rest) ≡ follows [] rest
follows-rest [] rest = refl
follows-rest (x ∷ xs) rest =
    let same : (x == x) ≡ true = grind (arith, nat_tests) in
    rw same (follows-rest xs rest)

-- a byte that stands behind the start
pub below-some : (start text rest : List ℕ) → text ≡ start ++ rest → (length rest == 0) ≡ false → (get_or rest 0 0 == 0) ≡ below (steps_of start) (steps_of text)
below-some start text [] is some = cc
below-some start text (b ∷ rest) is some = sym (ap (λ t. below (steps_of start) (steps_of t)) is ∙ below-follows start (start ++ (b ∷ rest)) ∙ follows-rest start (b ∷ rest))

-- no byte
pub below-itself : (start text rest : List ℕ) → text ≡ start ++ rest → (length rest == 0) ≡ true → false ≡ below (steps_of start) (steps_of text)
below-itself start text [] is none = sym (ap (λ t. below (steps_of start) (steps_of t)) is ∙ below-follows start (start ++ []) ∙ follows-rest start [])
below-itself start text (b ∷ rest) is none = absurd (grind (arith, nat_tests))

begins : (start text : List ℕ) → follows start text ≡ true → (rest : List ℕ) × (text ≡ start ++ rest)
begins [] text h = (text, refl)
begins (x ∷ xs) [] h = cc
begins (x ∷ xs) (y ∷ ys) h =
    let parts = and_parts (x == y) (follows xs ys) h in
    let more = begins xs ys parts.1 in
    let same : y ≡ x = grind (arith, nat_tests) in
    (more.0, ap₂ (λ (b : ℕ) (bs : List ℕ). b ∷ bs) same more.1)

pub below-none : (start text : List ℕ) → ((rest : List ℕ) → text ≢ start ++ rest) → false ≡ below (steps_of start) (steps_of text)
below-none start text none = sym (below-follows start text ∙ false_from_ne_true (follows start text) (λ h. none (begins start text h).0 (begins start text h).1))
