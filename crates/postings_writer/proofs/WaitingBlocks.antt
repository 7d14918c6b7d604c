-- A block that isn't full yet, document by document.
use Rattle.std.proofs.Common.{[], ap, ap₂, arith, Bool, false, true, List, length, map, min, nat_eq, refl, set, sum, suc, take, ◌++◌, ◌+◌, ◌-◌, ◌<◌, ◌≡◌, ◌∙◌, ◌∷◌, ℕ, if◌then◌else◌}
use Rattle.std.proofs.lemmas.Bool.Decides.{nat_tests}
use Rattle.std.proofs.lemmas.List.{map-append, take_more_set}
use Rattle.std.proofs.lemmas.List.Sums.{sum_by-append}
use Rattle.definitions.specs.Blocks.{least_of}
use Rattle.layouts.specs.TermPostings.{less_1}
use Rattle.postings_writer.specs.TermWriting.{Blocks}

-- counts from the numbers that are kept
abbrev pub counts_of : List ℕ → List ℕ
counts_of less = map (λ n. n + 1) less

pub less_back : (xs : List ℕ) → xs ≡ less_1 (counts_of xs)
less_back [] = refl
less_back (x ∷ xs) = (let first : x ≡ x + 1 - 1 = omega arith in ap₂ (λ n ns. n ∷ ns) first (less_back xs))

-- one count more
pub counts_more : (less : List ℕ) (len count : ℕ) → len < length less → 0 < count → counts_of (take (len + 1) (set less len (count - 1))) ≡ counts_of (take len less) ++ count ∷ []
counts_more less len count within some =
    let back : count - 1 + 1 ≡ count = omega arith in
    ap counts_of (take_more_set less len (count - 1) within)
    ∙ map-append (λ n. n + 1) (take len less) ((count - 1) ∷ [])
    ∙ ap (λ n. counts_of (take len less) ++ n ∷ []) back

pub sum_more : (xs : List ℕ) (x : ℕ) → sum (xs ++ x ∷ []) ≡ sum xs + x
sum_more xs x = sum_by-append (λ n. n) xs (x ∷ []) ∙ (let alone : sum xs + (0 + x) ≡ sum xs + x = omega arith in alone)

-- the least of some numbers and one more
least_with : (y : ℕ) (ys : List ℕ) (x : ℕ) → least_of (y ∷ (ys ++ x ∷ [])) ≡ min (least_of (y ∷ ys)) x
least_with y [] x = refl
least_with y (z ∷ zs) x =
    let turned : min y (min (least_of (z ∷ zs)) x) ≡ min (min y (least_of (z ∷ zs))) x = omega arith in
    ap (λ n. min y n) (least_with z zs x) ∙ turned

pub least_more : (xs : List ℕ) (x : ℕ) → least_of (xs ++ x ∷ []) ≡ (if nat_eq (length xs) 0 then x else min (least_of xs) x)
least_more [] x = refl
least_more (y ∷ ys) x = least_with y ys x ∙ some (nat_eq (length (y ∷ ys)) 0) refl
  where
    some : (b : Bool) → nat_eq (length (y ∷ ys)) 0 ≡ b → min (least_of (y ∷ ys)) x ≡ (if b then x else min (least_of (y ∷ ys)) x)
    some true e = (let none : suc (length ys) ≡ 0 = grind (arith, nat_tests) in absurd (omega arith))
    some false e = refl

-- skip entries and blocks that change
pub changed : (was : Blocks) (skips blocks new_skips new_blocks : List ℕ) (f g : List ℕ → List ℕ) → ◌≡◌ {A = Blocks} (record { skips = skips; blocks = blocks }) was → new_skips ≡ f skips → new_blocks ≡ g blocks → ◌≡◌ {A = Blocks} (record { skips = new_skips; blocks = new_blocks }) (record { skips = f was.skips; blocks = g was.blocks })
changed was skips blocks new_skips new_blocks f g seen to_skips to_blocks =
    let make : List ℕ → List ℕ → Blocks = λ x y. record { skips = x; blocks = y } in
    ap₂ make to_skips to_blocks ∙ ap (λ (w : Blocks). make (f w.skips) (g w.blocks)) seen
