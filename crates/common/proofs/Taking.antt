-- Reading a number of items, one after another: what was read and what is left make the whole.
use Rattle.std.proofs.Common.{ℕ, suc, List, [], ◌∷◌, ◌++◌, ◌≡◌, ◌-◌, ◌<◌, ◌+◌, Option, Some, None, refl, sym, ap, ◌∙◌, subst, arith, append_assoc}
use Rattle.definitions.specs.Json.{◌>>=◌}
use Rattle.layouts.specs.DocumentReading.{skip_many, take_many, taken_map}

-- ---- many that are taken

-- these are read, and `left` are left
abbrev pub Runs : {A : Type 0} → (List ℕ → Option (A × List ℕ)) → ℕ → List ℕ → List A → ℕ → List ℕ → Type 0
Runs f n bs xs left rest = take_many f n bs ≡ taken_map (λ ys. xs ++ ys) (take_many f left rest)

-- what is taken behind one of several
abbrev behind_one : {A : Type 0} → (List ℕ → Option (A × List ℕ)) → ℕ → A × List ℕ → Option (List A × List ℕ)
behind_one f n p = taken_map (λ ys. p.0 ∷ ys) (take_many f n p.1)

two_before : {A : Type 0} (xs : List A) (x : A) (o : Option (List A × List ℕ)) → taken_map (λ ys. xs ++ ys) (taken_map (λ ys. x ∷ ys) o) ≡ taken_map (λ ys. (xs ++ x ∷ []) ++ ys) o
two_before xs x None = refl
two_before xs x (Some q) = ap (λ ys. Some (ys, q.1)) (sym (append_assoc xs (x ∷ []) q.0))

one_left : (i n : ℕ) → i < n → n - i ≡ suc (n - (i + 1))
one_left i n h = omega arith

runs_on : {A : Type 0} (f : List ℕ → Option (A × List ℕ)) (n i : ℕ) (bs rest after : List ℕ) (xs : List A) (x : A) → i < n → Runs f n bs xs (n - i) rest → f rest ≡ Some (x, after) → Runs f n bs (xs ++ x ∷ []) (n - (i + 1)) after
runs_on f n i bs rest after xs x within runs is =
    let left = n - (i + 1) in
    runs
    ∙ ap (λ m. taken_map (λ ys. xs ++ ys) (take_many f m rest)) (one_left i n within)
    ∙ ap (λ o. taken_map (λ ys. xs ++ ys) (o >>= behind_one f left)) is
    ∙ two_before xs x (take_many f left after)

-- one is read, and pushed behind those before it
pub runs_pushed : {A : Type 0} (f : List ℕ → Option (A × List ℕ)) (n i : ℕ) (bs rest after : List ℕ) (xs more : List A) (x : A) → i < n → Runs f n bs xs (n - i) rest → f rest ≡ Some (x, after) → more ≡ xs ++ x ∷ [] → Runs f n bs more (n - (i + 1)) after
runs_pushed f n i bs rest after xs more x within runs is same = subst (λ ys. Runs f n bs ys (n - (i + 1)) after) (sym same) (runs_on f n i bs rest after xs x within runs is)

-- one is refused
pub runs_refused : {A : Type 0} (f : List ℕ → Option (A × List ℕ)) (n i : ℕ) (bs rest : List ℕ) (xs : List A) → i < n → Runs f n bs xs (n - i) rest → f rest ≡ None → take_many f n bs ≡ None
runs_refused f n i bs rest xs within runs is =
    runs
    ∙ ap (λ m. taken_map (λ ys. xs ++ ys) (take_many f m rest)) (one_left i n within)
    ∙ ap (λ o. taken_map (λ ys. xs ++ ys) (o >>= behind_one f (n - (i + 1)))) is

-- ---- many that are skipped

-- `left` are left
abbrev pub Skips : {A : Type 0} → (List ℕ → Option (A × List ℕ)) → ℕ → List ℕ → ℕ → List ℕ → Type 0
Skips f n bs left rest = skip_many f n bs ≡ skip_many f left rest
