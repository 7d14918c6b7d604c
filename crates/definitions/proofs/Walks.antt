-- Walks: a place is reached by some choice where it is reached step by step.
use Rattle.std.proofs.Common.{[], ◌&&◌, ◌++◌, ◌+◌, ◌-◌, ◌||◌, ◌∙◌, ◌∷◌, ◌≡◌, Bool, List, add_assoc, ap, arith, false, flat_map, le-leb, map, nat_le, refl, reverse, sym, true, zero-add, zero-le, ℕ}
use Rattle.std.specs.List.{list_any}
use Rattle.definitions.specs.Phrases.{choices, distance, is_reached, way}
use Rattle.definitions.specs.Walking.{is_led_to}
use Rattle.std.proofs.lemmas.Bool.Decides.{nat_tests}
use Rattle.std.proofs.lemmas.Grind.{reverse_onto}
use Rattle.std.proofs.lemmas.List.{reverse-reverse}
use Rattle.std.proofs.lemmas.List.Folds.{list_any-append}
use Rattle.definitions.proofs.Lists.{any_never, any_same, or_false as or_no, or_swap}

-- some element passes one of two tests where some passes the first or some the second
pub any_or : {X : Type 0} (f g : X → Bool) (xs : List X) → list_any (λ x. f x || g x) xs ≡ (list_any f xs || list_any g xs)
any_or f g [] = refl
any_or f g (x ∷ xs) = ap (λ b. (f x || g x) || b) (any_or f g xs) ∙ or_swap (f x) (g x) (list_any f xs) (list_any g xs)

-- a test that is the same for each element may stand in front
any_and : {X : Type 0} (b : Bool) (f : X → Bool) (xs : List X) → list_any (λ x. b && f x) xs ≡ (b && list_any f xs)
any_and true f xs = refl
any_and false f xs = any_never xs

-- some element of a mapped list
pub any_map : {X Y : Type 0} (f : X → Y) (test : Y → Bool) (xs : List X) → list_any test (map f xs) ≡ list_any (λ x. test (f x)) xs
any_map f test [] = refl
any_map f test (x ∷ xs) = ap (λ b. test (f x) || b) (any_map f test xs)

-- some element of lists joined
any_flat_map : {X Y : Type 0} (f : X → List Y) (test : Y → Bool) (xs : List X) → list_any test (flat_map f xs) ≡ list_any (λ x. list_any test (f x)) xs
any_flat_map f test [] = refl
any_flat_map f test (x ∷ xs) = list_any-append test (f x) (flat_map f xs) ∙ ap (λ b. list_any test (f x) || b) (any_flat_map f test xs)

-- two lists may be gone through in either order
pub any_swap : {X Y : Type 0} (test : X → Y → Bool) (xs : List X) (ys : List Y) → list_any (λ x. list_any (test x) ys) xs ≡ list_any (λ y. list_any (λ x. test x y) xs) ys
any_swap test [] ys = sym (any_never ys)
any_swap test (x ∷ xs) ys = ap (λ b. list_any (test x) ys || b) (any_swap test xs ys) ∙ sym (any_or (test x) (λ y. list_any (λ x2. test x2 y) xs) ys)

-- ---- one more list at the end

-- a choice from one list more is a choice and a number of that list
any_choice_end : (test : List ℕ → Bool) (lists : List (List ℕ)) (ns : List ℕ) → list_any test (choices (lists ++ (ns ∷ []))) ≡ list_any (λ choice. list_any (λ n. test (choice ++ (n ∷ []))) ns) (choices lists)
any_choice_end test [] ns = any_flat_map (λ n. map (◌∷◌ n) (choices [])) test ns ∙ any_same (λ n. list_any test ((n ∷ []) ∷ [])) (λ n. test (n ∷ [])) (λ n. or_no (test (n ∷ []))) ns ∙ sym (or_no (list_any (λ n. test (n ∷ [])) ns))
any_choice_end test (ms ∷ lists) ns =
    any_flat_map (λ m. map (◌∷◌ m) (choices (lists ++ (ns ∷ [])))) test ms
    ∙ any_same _ _ (λ m. any_map (◌∷◌ m) test (choices (lists ++ (ns ∷ []))) ∙ any_choice_end (λ choice. test (m ∷ choice)) lists ns ∙ sym (any_map (◌∷◌ m) (λ choice. list_any (λ n. test (choice ++ (n ∷ []))) ns) (choices lists))) ms
    ∙ sym (any_flat_map (λ m. map (◌∷◌ m) (choices lists)) (λ choice. list_any (λ n. test (choice ++ (n ∷ []))) ns) ms)

-- the way over one number more
way_end : (choice : List ℕ) (n r : ℕ) → way r (choice ++ (n ∷ [])) ≡ way n choice + distance n r
way_end [] n r = sym (zero-add (distance n r))
way_end (m ∷ []) n r = refl
way_end (m ∷ k ∷ ks) n r = ap (λ w. distance m k + w) (way_end (k ∷ ks) n r) ∙ sym (add_assoc (distance m k) (way n (k ∷ ks)) (distance n r))

-- two ways are within a slop where the second is, and the first is within the rest
both_within : (before last slop : ℕ) → nat_le (before + last) slop ≡ (nat_le last slop && nat_le before (slop - last))
both_within before last slop = grind (arith, nat_tests)

-- a place is reached where a number of the last list within the slop is reached within the rest
pub reached_end : (lists : List (List ℕ)) (ns : List ℕ) (slop r : ℕ) → is_reached (lists ++ (ns ∷ [])) slop r ≡ list_any (λ n. nat_le (distance n r) slop && is_reached lists (slop - distance n r) n) ns
reached_end lists ns slop r =
    any_choice_end (λ choice. nat_le (way r choice) slop) lists ns
    ∙ any_swap (λ choice n. nat_le (way r (choice ++ (n ∷ []))) slop) (choices lists) ns
    ∙ any_same _ _ (λ n. any_same _ _ (λ choice. ap (λ w. nat_le w slop) (way_end choice n r) ∙ both_within (way n choice) (distance n r) slop) (choices lists) ∙ any_and (nat_le (distance n r) slop) (λ choice. nat_le (way n choice) (slop - distance n r)) (choices lists)) ns

-- ---- walks

-- lists lead to a place, the nearest first, where some choice of them reaches it
led_is_reached : (before : List (List ℕ)) (slop r : ℕ) → is_led_to before slop r ≡ is_reached (reverse before) slop r
led_is_reached [] slop r = sym (or_no (nat_le 0 slop) ∙ le-leb 0 slop zero-le)
led_is_reached (ns ∷ before) slop r =
    any_same _ _ (λ n. ap (λ b. nat_le (distance n r) slop && b) (led_is_reached before (slop - distance n r) n)) ns
    ∙ sym (reached_end (reverse before) ns slop r)
    ∙ sym (ap (λ lists. is_reached lists slop r) (reverse_onto before ns []))

-- a place is reached where the earlier lists lead to it, the nearest first
pub reached_is_led : (earlier : List (List ℕ)) (slop r : ℕ) → is_reached earlier slop r ≡ is_led_to (reverse earlier) slop r
reached_is_led earlier slop r = sym (led_is_reached (reverse earlier) slop r ∙ ap (λ lists. is_reached lists slop r) (reverse-reverse earlier))
