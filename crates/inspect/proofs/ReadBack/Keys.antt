-- The order of keys.
use Rattle.std.proofs.Common.{[], List, ap, ◌∙◌, ◌∷◌, ◌++◌, ◌≡◌, ℕ}
use Rattle.std.specs.List.{AllByRecursion}
use Rattle.std.specs.Cmp.Lexicographic.{slice_cmp}
use Rattle.std.specs.Ordering.{nat_cmp, ordering_reverse}
use Rattle.std.specs.declared.cmp.Ordering.{Ordering}
use Rattle.std.specs.declared.cmp.Ordering.TheVariants.{Greater, Less}
use Rattle.std.proofs.lemmas.Cmp.{nat_list_cmp_total}
use Rattle.schema.proofs.FieldNames.{all-push as all_with}

abbrev pub order_of : List ℕ → List ℕ → Ordering
order_of k l = slice_cmp nat_cmp k l

pub after_before : (k l : List ℕ) → order_of k l ≡ Less → order_of l k ≡ Greater
after_before k l e = nat_list_cmp_total.antisymm l k ∙ ap ordering_reverse e

pub before_after : (k l : List ℕ) → order_of k l ≡ Greater → order_of l k ≡ Less
before_after k l e = nat_list_cmp_total.antisymm l k ∙ ap ordering_reverse e

pub before_all : (k l m : List ℕ) → order_of k l ≡ Less → order_of l m ≡ Less → order_of k m ≡ Less
before_all = nat_list_cmp_total.trans

-- each of these stands before one key
abbrev pub Before : List (List ℕ) → List ℕ → Type 0
Before ks k = AllByRecursion (λ l. order_of l k ≡ Less) ks

-- and before each of several
abbrev pub AllBefore : List (List ℕ) → List (List ℕ) → Type 0
AllBefore ks ls = AllByRecursion (λ l. Before ks l) ls

pub more_before : (bs : List (List ℕ)) (k : List ℕ) (ks : List (List ℕ)) → AllBefore bs ks → AllByRecursion (λ l. order_of k l ≡ Less) ks → AllBefore (bs ++ (k ∷ [])) ks
more_before bs k [] all above = tt
more_before bs k (l ∷ ls) all above = (all_with (λ b. order_of b l ≡ Less) bs k all.0 above.0, more_before bs k ls all.1 above.1)
