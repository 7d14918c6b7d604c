-- Splits of a path at its dots, as a walk over its bytes meets them.
use Rattle.std.proofs.Common.{ℕ, List, [], ◌∷◌, ◌++◌, ◌≡◌, ◌≢◌, ◌<◌, ◌+◌, ◌==◌, ◌&&◌, Bool, true, false, cond, not, Option, Some, None, refl, sym, ap, ap₂, ◌∙◌, arith, append-nil, append_assoc, add-one, length, get_or, take, drop, map, filter_map}
use Rattle.std.proofs.lemmas.Bool.Decides.{nat_tests}
use Rattle.std.specs.List.{cons_option, last_or}
use Rattle.std.specs.Option.{option_or}
use Rattle.std.proofs.Math.Seq.{drop-cons, take-suc}
use Rattle.definitions.specs.Facets.{backslash}
use Rattle.definitions.specs.FieldPaths.{field_at_split, splits_from}
use Rattle.definitions.specs.Schema.{Schema}

-- a split with more before it
abbrev pub preceded : List ℕ → List ℕ × List ℕ → List ℕ × List ℕ
preceded before split = (before ++ split.0, split.1)

-- the splits of what follows, each with what stands before it
abbrev pub splits_after : List ℕ → Bool → List ℕ → List (List ℕ × List ℕ)
splits_after before escaped rest = map (preceded before) (splits_from escaped rest)

-- the last of these that a field stands before, or else what was found
abbrev pub last_field : Schema → Option (ℕ × List ℕ) → List (List ℕ × List ℕ) → Option (ℕ × List ℕ)
last_field schema found splits = last_or found (filter_map (field_at_split schema) splits)

-- what is found once a byte is passed: a dot that no backslash takes may end a field's name
abbrev pub found_past : Schema → Option (ℕ × List ℕ) → List ℕ → Bool → ℕ → List ℕ → Option (ℕ × List ℕ)
found_past schema found before escaped c rest = cond (not escaped && (c == 46)) (option_or (field_at_split schema (before, rest)) found) found

-- a byte that is passed stands before the later splits
map-past : (before : List ℕ) (c : ℕ) (splits : List (List ℕ × List ℕ)) → map (preceded before) (map (preceded (c ∷ [])) splits) ≡ map (preceded (before ++ (c ∷ []))) splits
map-past before c [] = refl
map-past before c (p ∷ ps) = ap₂ (joined p.1) (sym (append_assoc before (c ∷ []) p.0)) (map-past before c ps)
  where
    joined : List ℕ → List ℕ → List (List ℕ × List ℕ) → List (List ℕ × List ℕ)
    joined after name rest = (name, after) ∷ rest

last_or-cons_option : {X : Type 0} (found o : Option X) (xs : List X) → last_or found (cons_option o xs) ≡ last_or (option_or o found) xs
last_or-cons_option found None xs = refl
last_or-cons_option found (Some x) xs = refl

-- one byte of the walk
last_field-past : (schema : Schema) (found : Option (ℕ × List ℕ)) (before : List ℕ) (escaped : Bool) (c : ℕ) (rest : List ℕ) → last_field schema found (splits_after before escaped (c ∷ rest)) ≡ last_field schema (found_past schema found before escaped c rest) (splits_after (before ++ (c ∷ [])) (not escaped && (c == backslash)) rest)
last_field-past schema found before true c rest = ap (last_field schema found) (map-past before c (splits_from false rest))
last_field-past schema found before false c rest = go (c == 46)
  where
    go : (b : Bool) → last_field schema found (map (preceded before) (cond b (([], rest) ∷ []) [] ++ map (preceded (c ∷ [])) (splits_from (c == backslash) rest))) ≡ last_field schema (cond b (option_or (field_at_split schema (before, rest)) found) found) (map (preceded (before ++ (c ∷ []))) (splits_from (c == backslash) rest))
    go true = last_or-cons_option found (field_at_split schema (before ++ [], rest)) _ ∙ ap₂ (λ name splits. last_field schema (option_or (field_at_split schema (name, rest)) found) splits) (append-nil before) (map-past before c (splits_from (c == backslash) rest))
    go false = ap (last_field schema found) (map-past before c (splits_from (c == backslash) rest))

-- likewise at a place of a path
pub last_field-at : (schema : Schema) (found : Option (ℕ × List ℕ)) (path : List ℕ) (i : ℕ) (escaped : Bool) → i < length path → last_field schema found (splits_after (take i path) escaped (drop i path)) ≡ last_field schema (found_past schema found (take i path) escaped (get_or path i 0) (drop (i + 1) path)) (splits_after (take (i + 1) path) (not escaped && (get_or path i 0 == backslash)) (drop (i + 1) path))
last_field-at schema found path i escaped inside =
    let c = get_or path i 0 in
    let left : drop i path ≡ c ∷ drop (i + 1) path = rw add-one (drop-cons path i 0 inside) in
    let passed : take (i + 1) path ≡ take i path ++ (c ∷ []) = rw add-one (take-suc path i 0 inside) in
    let next = found_past schema found (take i path) escaped c (drop (i + 1) path) in
    ap (λ rest. last_field schema found (splits_after (take i path) escaped rest)) left
    ∙ last_field-past schema found (take i path) escaped c (drop (i + 1) path)
    ∙ ap (λ before. last_field schema next (splits_after before (not escaped && (c == backslash)) (drop (i + 1) path))) (sym passed)

-- before the first byte these are the splits of the path
pub splits_after-nil : (path : List ℕ) → splits_after [] false path ≡ splits_from false path
splits_after-nil path = same (splits_from false path)
  where
    same : (splits : List (List ℕ × List ℕ)) → map (preceded []) splits ≡ splits
    same [] = refl
    same (p ∷ ps) = ap (λ rest. p ∷ rest) (same ps)

-- ---- what is found past a byte, by cases

pub found_past-dot : (schema : Schema) (found : Option (ℕ × List ℕ)) (before rest : List ℕ) (escaped : Bool) (c : ℕ) (here : Option (ℕ × List ℕ)) → escaped ≡ false → c ≡ 46 → here ≡ field_at_split schema (before, rest) → found_past schema found before escaped c rest ≡ option_or here found
found_past-dot schema found before rest escaped c here free dot is = ap₂ (λ e b. found_past schema found before e b rest) free dot ∙ ap (λ o. option_or o found) (sym is)

pub found_past-escaped : (schema : Schema) (found : Option (ℕ × List ℕ)) (before rest : List ℕ) (escaped : Bool) (c : ℕ) → escaped ≡ true → found_past schema found before escaped c rest ≡ found
found_past-escaped schema found before rest escaped c taken = ap (λ e. found_past schema found before e c rest) taken

pub found_past-other : (schema : Schema) (found : Option (ℕ × List ℕ)) (before rest : List ℕ) (escaped : Bool) (c : ℕ) → c ≢ 46 → found_past schema found before escaped c rest ≡ found
found_past-other schema found before rest true c other = refl
found_past-other schema found before rest false c other =
    let no_dot : (c == 46) ≡ false = grind (arith, nat_tests) in
    ap (λ b. cond b (option_or (field_at_split schema (before, rest)) found) found) no_dot
