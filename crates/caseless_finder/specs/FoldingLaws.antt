-- Folded texts are texts: laws.
use Rattle.std.proofs.Common.{[], ◌&&◌, ◌++◌, ◌∷◌, ◌≡◌, Bool, IsUtf8, List, ap, chars, nat_le, refl, subst, sym, true, ℕ}
use Rattle.std.proofs.lemmas.Bool.{and_parts, cond_both}
use Rattle.std.proofs.lemmas.Str.{scalars-chars}
use Rattle.ucd_table.specs.Rows.{Row, value_in}
use Rattle.ucd_case.specs.CaseFolding.{full_fold, full_folding, or_itself}
use Rattle.ucd_case.specs.FullFoldingRows.{full_folding_rows}
use Rattle.caseless.specs.Caseless.{default_case_fold}
use Rattle.definitions.specs.Analyzers.{IsAnalyzer}
use Rattle.definitions.proofs.TokenTexts.{raw_and_default_analyzes}
use Rattle.caseless_finder.specs.Folding.{case_folding, folded}
use lib.Utf8.{scalar, scalars}

-- ---- the table

-- each string of the rows is of characters
unfoldable rows_are_scalars : List (Row (List ℕ)) → Bool
rows_are_scalars [] = true
rows_are_scalars (r ∷ rs) = scalars r.2 && rows_are_scalars rs

-- so what is looked up in them is
value_scalars : (rs : List (Row (List ℕ))) (c : ℕ) → rows_are_scalars rs ≡ true → scalars (value_in [] rs c) ≡ true
unfolding rows_are_scalars value_in
value_scalars [] c are = refl
value_scalars (r ∷ rs) c are =
    let each = and_parts (scalars r.2) (rows_are_scalars rs) are in
    cond_both (nat_le r.0 c && nat_le c r.1) r.2 (value_in [] rs c) (λ found. scalars found ≡ true) (λ _. each.0) (λ _. value_scalars rs c each.1)

-- what the table folds to are characters
table_scalars : (c : ℕ) → scalars (full_folding c) ≡ true
unfolding rows_are_scalars full_folding full_folding_rows
table_scalars c = value_scalars full_folding_rows c refl

-- ---- folded characters

-- what stands in the place of an empty entry is the character itself
or_itself_scalars : (c : ℕ) (entry : List ℕ) → scalar c ≡ true → scalars entry ≡ true → scalars (or_itself c entry) ≡ true
or_itself_scalars c [] h are = ap (λ b. b && true) h
or_itself_scalars c (x ∷ xs) h are = are

-- characters in a row, and then others
both_scalars : (xs ys : List ℕ) → scalars xs ≡ true → scalars ys ≡ true → scalars (xs ++ ys) ≡ true
both_scalars [] ys front back = back
both_scalars (x ∷ xs) ys front back =
    let are = and_parts (scalar x) (scalars xs) front in
    subst (λ b. b && scalars (xs ++ ys) ≡ true) (sym are.0) (both_scalars xs ys are.1 back)

-- folded characters are characters
fold_scalars : (cs : List ℕ) → scalars cs ≡ true → scalars (default_case_fold cs) ≡ true
unfolding default_case_fold
fold_scalars [] h = refl
fold_scalars (c ∷ cs) h =
    let are = and_parts (scalar c) (scalars cs) h in
    both_scalars (full_fold c) (default_case_fold cs) (or_itself_scalars c (full_folding c) are.0 (table_scalars c)) (fold_scalars cs are.1)

-- ---- folded texts

-- a folded text is a text
folded_is_text : (s : List ℕ) → IsUtf8 s → IsUtf8 (folded s)
folded_is_text s h = (default_case_fold (chars s), (fold_scalars (chars s) (scalars-chars s h), refl))

-- so its tokens are tokens
pub case_folding_analyzes : IsAnalyzer case_folding
case_folding_analyzes name s h = raw_and_default_analyzes name (folded s) (folded_is_text s h)
