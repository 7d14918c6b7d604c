-- Things that are taken one after another.
use Rattle.std.proofs.Common.{[], ◌++◌, ◌∷◌, ◌≡◌, ◌∙◌, Bool, List, None, Option, Some, ap, append_assoc, false, flat_map, length, refl, subst, suc, sym, true, zero, ℕ}
use Rattle.std.specs.List.{AllByRecursion}
use Rattle.common.proofs.WordBytes.{back_bytes as bytes_after}
use Rattle.definitions.proofs.Lists.{bind_some}
use Rattle.definitions.specs.Json.{only_if, ◌>>=◌}
use Rattle.definitions.specs.NumberCodes.{AreBytes}
use Rattle.layouts.specs.DocumentReading.{take_many, taken_map}

-- ---- what stands behind an option

-- the parts of what an option has
abbrev pub first_or : {A : Type 0} → A → Option (A × List ℕ) → A
first_or a None = a
first_or a (Some p) = p.0

abbrev pub rest_or : {A : Type 0} → Option (A × List ℕ) → List ℕ
rest_or None = []
rest_or (Some p) = p.1

pub parts_are : {A : Type 0} (p : A × List ℕ) (x : A) (rest : List ℕ) → Some p ≡ Some (x, rest) → (p.0 ≡ x) × (p.1 ≡ rest)
parts_are p x rest e = (ap (first_or x) e, ap rest_or e)

pub map_some : {A B : Type 0} (f : A → B) (o : Option (A × List ℕ)) (y : B) (rest : List ℕ) → taken_map f o ≡ Some (y, rest) → (x : A) × (o ≡ Some (x, rest)) × (f x ≡ y)
map_some f None y rest e = cc
map_some f (Some p) y rest e =
    let are = parts_are (f p.0, p.1) y rest e in
    (p.0, ap (λ r. Some (p.0, r)) are.1, are.0)

pub only_some : {A : Type 0} (b : Bool) (o : Option A) (y : A) → only_if b o ≡ Some y → (b ≡ true) × (o ≡ Some y)
only_some true o y e = (refl, e)
only_some false o y e = cc

-- ---- bytes behind others

-- ---- many

-- what is taken stood there as it is spelled, and is good
abbrev pub IsPut : {A : Type 0} → (List ℕ → Option (A × List ℕ)) → (A → Type 0) → (A → List ℕ) → Type 0
IsPut {A} item Good spell = (bs rest : List ℕ) (x : A) → AreBytes bs → item bs ≡ Some (x, rest) → Good x × (bs ≡ spell x ++ rest)

-- what is spelled and good is taken back
abbrev pub IsBack : {A : Type 0} → (List ℕ → Option (A × List ℕ)) → (A → Type 0) → (A → List ℕ) → Type 0
IsBack {A} item Good spell = (x : A) (rest : List ℕ) → Good x → item (spell x ++ rest) ≡ Some (x, rest)

pub many_put : {A : Type 0} (item : List ℕ → Option (A × List ℕ)) (Good : A → Type 0) (spell : A → List ℕ) → IsPut item Good spell → (n : ℕ) (bs rest : List ℕ) (xs : List A) → AreBytes bs → take_many item n bs ≡ Some (xs, rest) → AllByRecursion Good xs × (length xs ≡ n) × (bs ≡ flat_map spell xs ++ rest)
many_put item Good spell put zero bs rest xs bytes e = (let are = parts_are ([], bs) xs rest e in (subst (AllByRecursion Good) are.0 tt, ap length (sym are.0), are.1 ∙ ap (λ ys. flat_map spell ys ++ rest) are.0))
many_put item Good spell put (suc n) bs rest xs bytes e =
    let one = bind_some (item bs) (λ p. taken_map (λ ys. p.0 ∷ ys) (take_many item n p.1)) (xs, rest) e in
    let more = map_some (λ ys. one.0.0 ∷ ys) (take_many item n one.0.1) xs rest one.2 in
    let first = put bs one.0.1 one.0.0 bytes one.1 in
    let others = many_put item Good spell put n one.0.1 rest more.0 (bytes_after (spell one.0.0) one.0.1 (subst AreBytes first.1 bytes)) more.1 in
    subst (λ ys. AllByRecursion Good ys × (length ys ≡ suc n) × (bs ≡ flat_map spell ys ++ rest)) more.2 (
      (first.0, others.0),
      ap suc others.1,
      first.1 ∙ ap (λ ys. spell one.0.0 ++ ys) others.2 ∙ sym (append_assoc (spell one.0.0) (flat_map spell more.0) rest),
    )

pub many_back : {A : Type 0} (item : List ℕ → Option (A × List ℕ)) (Good : A → Type 0) (spell : A → List ℕ) → IsBack item Good spell → (xs : List A) (rest : List ℕ) → AllByRecursion Good xs → take_many item (length xs) (flat_map spell xs ++ rest) ≡ Some (xs, rest)
many_back item Good spell back [] rest good = refl
many_back item Good spell back (x ∷ xs) rest good =
    ap (take_many item (suc (length xs))) (append_assoc (spell x) (flat_map spell xs) rest)
    ∙ ap (λ o. o >>= (λ p. taken_map (λ ys. p.0 ∷ ys) (take_many item (length xs) p.1))) (back x (flat_map spell xs ++ rest) good.0)
    ∙ ap (taken_map (λ ys. x ∷ ys)) (many_back item Good spell back xs rest good.1)
