-- The bound of a full block, by its skip entry.
use Rattle.std.proofs.Common.{[], ap, ap₂, arith, Bool, false, length, List, map, nat_le, nat_lt, None, Option, refl, Some, sym, true, zip, ◌&&◌, ◌==◌, ◌≡◌, ◌∙◌, ◌∷◌, ℕ, if◌then◌else◌}
use Rattle.std.proofs.lemmas.Bool.Decides.{nat_tests}
use Rattle.std.proofs.lemmas.List.{length-map}
use Rattle.definitions.specs.Blocks.{bound_of, least_of}
use Rattle.definitions.specs.Schema.{IndexRecordOption}
use Rattle.definitions.specs.Scoring.{greatest_of}
use Rattle.layouts.specs.SkipEntries.{count_code}
use Rattle.layouts.specs.TermPostings.{bound_in, id_of, skip_entry}

firsts : (xs ys : List ℕ) → length xs ≡ length ys → map (λ (p : ℕ × ℕ). p.0) (zip xs ys) ≡ xs
firsts [] ys same = refl
firsts (x ∷ xs) [] same = absurd (omega arith)
firsts (x ∷ xs) (y ∷ ys) same = ap (λ zs. x ∷ zs) (firsts xs ys (omega arith))

seconds : (xs ys : List ℕ) → length xs ≡ length ys → map (λ (p : ℕ × ℕ). p.1) (zip xs ys) ≡ ys
seconds [] [] same = refl
seconds [] (y ∷ ys) same = absurd (omega arith)
seconds (x ∷ xs) [] same = absurd (omega arith)
seconds (x ∷ xs) (y ∷ ys) same = ap (λ zs. y ∷ zs) (seconds xs ys (omega arith))

-- a code says none exactly where the count is past 254
told : (g l : ℕ) → ◌≡◌ {A = Option (ℕ × ℕ)} (if nat_lt 254 (count_code g) then None else Some (l, count_code g)) (if nat_le g 254 then Some (l, g) else None)
told g l = go (nat_lt 254 g) refl (nat_le g 254) refl
  where
    go : (b : Bool) → nat_lt 254 g ≡ b → (c : Bool) → nat_le g 254 ≡ c → ◌≡◌ {A = Option (ℕ × ℕ)} (if nat_lt 254 (if b then 255 else g) then None else Some (l, if b then 255 else g)) (if c then Some (l, g) else None)
    go true e true f = absurd (grind (arith, nat_tests))
    go true e false f = refl
    go false e true f = ap (λ (b : Bool). if b then None else Some (l, g)) e
    go false e false f = absurd (grind (arith, nat_tests))

-- a bound by the number of documents, their length ids and their counts
abbrev bound_by : ℕ → List ℕ → List ℕ → Option (ℕ × ℕ)
bound_by n ids counts = if (n == 128) && nat_le (greatest_of counts) 254 then Some (least_of ids, greatest_of counts) else None

pub entry_tells : (option : IndexRecordOption) (ids : List ℕ) (next : ℕ) (docs counts : List ℕ) → length docs ≡ 128 → length counts ≡ 128 → bound_in (skip_entry option ids next docs counts) ≡ bound_of (zip (map (id_of ids) docs) counts)
entry_tells option ids next docs counts full many =
    let xs : List ℕ = map (id_of ids) docs in
    let same : length xs ≡ length counts = length-map docs (id_of ids) ∙ full ∙ sym many in
    let n : length (zip xs counts) ≡ 128 = sym (length-map (zip xs counts) (λ (p : ℕ × ℕ). p.1)) ∙ ap length (seconds xs counts same) ∙ many in
    told (greatest_of counts) (least_of xs)
    ∙ ap (λ k. bound_by k xs counts) (sym n)
    ∙ ap₂ (λ ys zs. bound_by (length (zip xs counts)) ys zs) (sym (firsts xs counts same)) (sym (seconds xs counts same))
