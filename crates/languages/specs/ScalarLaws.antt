-- What is folded, decomposed and composed of characters are characters: laws.
use Rattle.std.proofs.Common.{[], ◌&&◌, ◌++◌, ◌==◌, ◌+◌, ◌-◌, ◌/◌, ◌%◌, ◌∙◌, ◌∷◌, ◌≡◌, Bool, List, Some, ap, arith, cond, false, find, flat_map, inl, inr, nat_le, not, option_map, refl, subst, suc, sym, true, zero, ℕ}
use Rattle.std.proofs.lemmas.Bool.{and_from, and_parts, cases_eq, cond_both}
use Rattle.std.specs.List.{list_all}
use Rattle.ucd_table.specs.Rows.{Row, value_in}
use Rattle.ucd_case.specs.CaseFolding.{full_fold, full_folding}
use Rattle.ucd_case.specs.CaseFolding.{or_itself as or_unfolded}
use Rattle.ucd_case.specs.FullFoldingRows.{full_folding_rows}
use Rattle.ucd_normal.specs.Composition.{composite, is_pair}
use Rattle.ucd_normal.specs.Binary.{is_full_composition_exclusion}
use Rattle.ucd_normal.specs.Decomposition.{any_mapping, canonical_decomposition, canonical_mapping, compatibility_decomposition, decomposition, expand, if_canonical, or_itself}
use Rattle.ucd_normal.specs.DecompositionRows.{Tag, decomposition_rows}
use Rattle.ucd_normal.specs.DecompositionRows.Tag.{canonical}
use Rattle.ucd_normal.specs.declared.forms.Form.{Form}
use Rattle.ucd_normal.specs.declared.forms.Form.TheVariants.{Nfc, Nfd, Nfkc, Nfkd}
use Rattle.unicode_normalization.specs.Compose.{primary_composite}
use Rattle.unicode_normalization.specs.Decompose.{decompose, table_of}
use Rattle.unicode_normalization.specs.Forms.{nfd, nfkd, normalize}
use Rattle.unicode_normalization.specs.Hangul.{compose_hangul, decompose_hangul, is_syllable}
use Rattle.unicode_normalization.proofs.ComposeLemmas.{cases_Option}
use Rattle.unicode_normalization.proofs.DecomposeLemmas.{primary_composite-hangul, primary_composite-table}
use Rattle.unicode_normalization.proofs.HangulLemmas.{compose_hangul-some, decompose_hangul-three, decompose_hangul-two, is_syllable-true}
use Rattle.unicode_normalization.proofs.KeptLemmas.{list_all-normalize}
use Rattle.caseless.specs.Caseless.{default_case_fold}
use Rattle.english_stems.specs.StemLaws.{stem_passes}
use Rattle.english_stems.specs.Stems.{stem}
use Rattle.languages.specs.declared.word_form.WordForm.{WordForm}
use Rattle.languages.specs.declared.word_form.WordForm.TheVariants.{English, Folded, Plain}
use Rattle.languages.specs.Characters.{is_mark}
use Rattle.languages.specs.Folding.{folded}
use Rattle.languages.specs.Forms.{formed}
use Rattle.languages.specs.Plain.{bare, is_accent, loses_behind, plain, plain_letter, without_accents}
use lib.Utf8.{low_scalar, scalar, scalars}

-- ---- lists of characters

-- characters in a row, and then others
pub both_scalars : (xs ys : List ℕ) → scalars xs ≡ true → scalars ys ≡ true → scalars (xs ++ ys) ≡ true
both_scalars [] ys front back = back
both_scalars (x ∷ xs) ys front back =
    let are = and_parts (scalar x) (scalars xs) front in
    and_from _ _ are.0 (both_scalars xs ys are.1 back)

-- what each character gives, in a row
pub flat_scalars : (f : ℕ → List ℕ) → ((x : ℕ) → scalar x ≡ true → scalars (f x) ≡ true) → (cs : List ℕ) → scalars cs ≡ true → scalars (flat_map f cs) ≡ true
flat_scalars f each [] h = refl
flat_scalars f each (c ∷ cs) h =
    let are = and_parts (scalar c) (scalars cs) h in
    both_scalars (f c) (flat_map f cs) (each c are.0) (flat_scalars f each cs are.1)

-- the same as a test of each
pub list_all_from_scalars : (cs : List ℕ) → scalars cs ≡ true → list_all scalar cs ≡ true
list_all_from_scalars [] h = refl
list_all_from_scalars (c ∷ cs) h =
    let are = and_parts (scalar c) (scalars cs) h in
    and_from _ _ are.0 (list_all_from_scalars cs are.1)

pub scalars_from_list_all : (cs : List ℕ) → list_all scalar cs ≡ true → scalars cs ≡ true
scalars_from_list_all [] h = refl
scalars_from_list_all (c ∷ cs) h =
    let are = and_parts (scalar c) (list_all scalar cs) h in
    and_from _ _ are.0 (scalars_from_list_all cs are.1)

-- ---- folding

-- each string of the rows is of characters
unfoldable foldings_are_scalars : List (Row (List ℕ)) → Bool
foldings_are_scalars [] = true
foldings_are_scalars (r ∷ rs) = scalars r.2 && foldings_are_scalars rs

-- so what is looked up in them is
string_scalars : (rs : List (Row (List ℕ))) (c : ℕ) → foldings_are_scalars rs ≡ true → scalars (value_in [] rs c) ≡ true
unfolding foldings_are_scalars value_in
string_scalars [] c are = refl
string_scalars (r ∷ rs) c are =
    let each = and_parts (scalars r.2) (foldings_are_scalars rs) are in
    cond_both (nat_le r.0 c && nat_le c r.1) r.2 (value_in [] rs c) (λ found. scalars found ≡ true) (λ _. each.0) (λ _. string_scalars rs c each.1)

table_scalars : (c : ℕ) → scalars (full_folding c) ≡ true
unfolding foldings_are_scalars full_folding full_folding_rows
table_scalars c = string_scalars full_folding_rows c refl

-- what stands in the place of an empty entry is the character itself
or_unfolded_scalars : (c : ℕ) (entry : List ℕ) → scalar c ≡ true → scalars entry ≡ true → scalars (or_unfolded c entry) ≡ true
or_unfolded_scalars c [] h are = ap (λ b. b && true) h
or_unfolded_scalars c (x ∷ xs) h are = are

pub fold_scalars : (cs : List ℕ) → scalars cs ≡ true → scalars (default_case_fold cs) ≡ true
unfolding default_case_fold
fold_scalars cs h = flat_scalars full_fold (λ c is. or_unfolded_scalars c (full_folding c) is (table_scalars c)) cs h

-- ---- decomposing

abbrev Entry : Type 0
Entry = Tag × List ℕ

-- each code point of the rows and each string is of characters
unfoldable entries_are_scalars : List (Row Entry) → Bool
entries_are_scalars [] = true
entries_are_scalars (r ∷ rs) = (scalar r.0 && scalars r.2.1) && entries_are_scalars rs

all_entries : entries_are_scalars decomposition_rows ≡ true
unfolding entries_are_scalars decomposition_rows
all_entries = refl

entry_scalars : (rs : List (Row Entry)) (c : ℕ) → entries_are_scalars rs ≡ true → scalars (value_in (canonical, []) rs c).1 ≡ true
unfolding entries_are_scalars value_in
entry_scalars [] c are = refl
entry_scalars (r ∷ rs) c are =
    let each = and_parts (scalar r.0 && scalars r.2.1) (entries_are_scalars rs) are in
    cond_both (nat_le r.0 c && nat_le c r.1) r.2 (value_in (canonical, []) rs c) (λ found. scalars found.1 ≡ true)
    (λ _. (and_parts (scalar r.0) (scalars r.2.1) each.0).1) (λ _. entry_scalars rs c each.1)

any_scalars : (c : ℕ) → scalars (any_mapping c) ≡ true
unfolding decomposition
any_scalars c = entry_scalars decomposition_rows c all_entries

if_canonical_scalars : (entry : Entry) → scalars entry.1 ≡ true → scalars (if_canonical entry) ≡ true
if_canonical_scalars (canonical, string) h = h
if_canonical_scalars (_, string) h = refl

canonical_scalars : (c : ℕ) → scalars (canonical_mapping c) ≡ true
canonical_scalars c = if_canonical_scalars (decomposition c) (any_scalars c)

or_itself_scalars : (c : ℕ) (entry : List ℕ) → scalar c ≡ true → scalars entry ≡ true → scalars (or_itself c entry) ≡ true
or_itself_scalars c [] h are = ap (λ b. b && true) h
or_itself_scalars c (x ∷ xs) h are = are

-- mapped again and again
expand_scalars : (mapping : ℕ → List ℕ) → ((c : ℕ) → scalars (mapping c) ≡ true) → (depth c : ℕ) → scalars (expand mapping depth c) ≡ true
unfolding expand
expand_scalars mapping each zero c = each c
expand_scalars mapping each (suc depth) c =
    flat_scalars (λ x. or_itself x (expand mapping depth x)) (λ x is. or_itself_scalars x (expand mapping depth x) is (expand_scalars mapping each depth x)) (mapping c) (each c)

table_of_scalars : (form : Form) (c : ℕ) → scalars (table_of form c) ≡ true
unfolding canonical_decomposition compatibility_decomposition
table_of_scalars Nfd c = expand_scalars canonical_mapping canonical_scalars 3 c
table_of_scalars Nfkd c = expand_scalars any_mapping any_scalars 3 c
table_of_scalars Nfc c = expand_scalars canonical_mapping canonical_scalars 3 c
table_of_scalars Nfkc c = expand_scalars any_mapping any_scalars 3 c

hangul_scalars : (c : ℕ) → is_syllable c ≡ true → scalars (decompose_hangul c) ≡ true
hangul_scalars c h =
    let bounds = is_syllable-true c h in
    let l = low_scalar (0x1100 + (c - 0xAC00) / 588) (omega arith) in
    let v = low_scalar (0x1161 + (c - 0xAC00) % 588 / 28) (omega arith) in
    let t = low_scalar (0x11A7 + (c - 0xAC00) % 28) (omega arith) in
    elim (cases_eq ((c - 0xAC00) % 28) 0) [
      | inl two ↦ ap scalars (decompose_hangul-two c two) ∙ and_from _ _ l (and_from _ _ v refl)
      | inr three ↦ ap scalars (decompose_hangul-three c three) ∙ and_from _ _ l (and_from _ _ v (and_from _ _ t refl))
    ]

decompose_scalars : (form : Form) (c : ℕ) → scalar c ≡ true → scalars (decompose form c) ≡ true
unfolding decompose
decompose_scalars form c h =
    cond_both (is_syllable c) (decompose_hangul c) (or_itself c (table_of form c)) (λ parts. scalars parts ≡ true)
    (λ syllable. hangul_scalars c syllable) (λ _. or_itself_scalars c (table_of form c) h (table_of_scalars form c))

-- ---- composing

-- the code point of a row that is found
found_scalar : (test : Row Entry → Bool) (rs : List (Row Entry)) (c : ℕ) → entries_are_scalars rs ≡ true → option_map (λ row. row.0) (find test rs) ≡ Some c → scalar c ≡ true
unfolding entries_are_scalars
found_scalar test [] c are h = cc
found_scalar test (r ∷ rs) c are h =
    let each = and_parts (scalar r.0 && scalars r.2.1) (entries_are_scalars rs) are in
    cond_both (test r) (Some r) (find test rs) (λ found. option_map (λ (row : Row Entry). row.0) found ≡ Some c → scalar c ≡ true)
    (λ _ here. let same : r.0 ≡ c = cc in subst (λ x. scalar x ≡ true) same (and_parts (scalar r.0) (scalars r.2.1) each.0).0)
    (λ _ later. found_scalar test rs c each.1 later)
    h

composite_scalar : (a b c : ℕ) → composite a b ≡ Some c → scalar c ≡ true
unfolding composite
composite_scalar a b c h = found_scalar (λ row. is_pair a b (if_canonical row.2) && not (is_full_composition_exclusion row.0)) decomposition_rows c all_entries h

primary_composite_scalar : (a b c : ℕ) → primary_composite a b ≡ Some c → scalar c ≡ true
primary_composite_scalar a b c h =
    elim (cases_Option (compose_hangul a b)) [
      | inl none ↦ composite_scalar a b c (sym (primary_composite-table a b none) ∙ h)
      | inr some ↦
          let same : some.0 ≡ c = let e = sym (primary_composite-hangul a b some.0 some.1) ∙ h in cc in
          subst (λ x. scalar x ≡ true) same
          (elim (compose_hangul-some a b some.0 some.1) [
            | inl lv ↦ low_scalar some.0 (omega arith)
            | inr lvt ↦ low_scalar some.0 (omega arith)
          ])
    ]

-- ---- texts

-- a text in each form
pub normalize_scalars : (form : Form) (cs : List ℕ) → scalars cs ≡ true → scalars (normalize form cs) ≡ true
normalize_scalars form cs h =
    scalars_from_list_all (normalize form cs)
    (list_all-normalize form scalar
    (λ c is. list_all_from_scalars (decompose form c) (decompose_scalars form c is))
    (λ a b c _ _ some. primary_composite_scalar a b c some) cs (list_all_from_scalars cs h))

-- the steps of folding, each a list of characters
pub record FoldingScalars (cs : List ℕ) : Type 0 where
  pub decomposed : scalars (nfd cs) ≡ true
  pub once : scalars (default_case_fold (nfd cs)) ≡ true
  pub compatible : scalars (nfkd (default_case_fold (nfd cs))) ≡ true
  pub twice : scalars (default_case_fold (nfkd (default_case_fold (nfd cs)))) ≡ true
  pub all : scalars (folded cs) ≡ true

pub folding_scalars : (cs : List ℕ) → scalars cs ≡ true → FoldingScalars cs
folding_scalars cs h =
    let decomposed = normalize_scalars Nfd cs h in
    let once = fold_scalars (nfd cs) decomposed in
    let compatible = normalize_scalars Nfkd (default_case_fold (nfd cs)) once in
    let twice = fold_scalars (nfkd (default_case_fold (nfd cs))) compatible in
    record {
      decomposed = decomposed;
      once = once;
      compatible = compatible;
      twice = twice;
      all = normalize_scalars Nfkc (default_case_fold (nfkd (default_case_fold (nfd cs)))) twice;
    }

-- ---- words without accents

-- a letter, or those for which it stands
plain_letter_scalars : (c : ℕ) → scalar c ≡ true → scalars (plain_letter c) ≡ true
plain_letter_scalars c h =
    let is : scalars (c ∷ []) ≡ true = and_from _ _ h refl in
    cond_both (c == 0xF8) (0x6F ∷ []) _ (λ cs. scalars cs ≡ true) (λ _. refl)
    (λ _. cond_both (c == 0xE6) (0x61 ∷ 0x65 ∷ []) _ (λ cs. scalars cs ≡ true) (λ _. refl)
    (λ _. cond_both (c == 0x142) (0x6C ∷ []) _ (λ cs. scalars cs ≡ true) (λ _. refl)
    (λ _. cond_both (c == 0x111) (0x64 ∷ []) (c ∷ []) (λ cs. scalars cs ≡ true) (λ _. refl) (λ _. is))))

bare_scalars : (loses : Bool) (c : ℕ) → scalar c ≡ true → scalars (bare loses c) ≡ true
bare_scalars loses c h =
    let is : scalars (c ∷ []) ≡ true = and_from _ _ h refl in
    cond_both (is_mark c) (cond (loses && is_accent c) [] (c ∷ [])) (plain_letter c) (λ cs. scalars cs ≡ true)
    (λ _. cond_both (loses && is_accent c) [] (c ∷ []) (λ cs. scalars cs ≡ true) (λ _. refl) (λ _. is))
    (λ _. plain_letter_scalars c h)

without_accents_scalars : (loses : Bool) (cs : List ℕ) → scalars cs ≡ true → scalars (without_accents loses cs) ≡ true
unfolding without_accents
without_accents_scalars loses [] h = refl
without_accents_scalars loses (c ∷ cs) h =
    let are = and_parts (scalar c) (scalars cs) h in
    both_scalars (bare loses c) (without_accents (loses_behind loses c) cs) (bare_scalars loses c are.0) (without_accents_scalars (loses_behind loses c) cs are.1)

plain_scalars : (word : List ℕ) → scalars word ≡ true → scalars (plain word) ≡ true
plain_scalars word h =
    normalize_scalars Nfc (without_accents false (nfd word)) (without_accents_scalars false (nfd word) (normalize_scalars Nfd word h))

-- ---- stems

stem_scalars : (word : List ℕ) → scalars word ≡ true → scalars (stem word) ≡ true
stem_scalars word h = scalars_from_list_all (stem word) (stem_passes scalar (λ c below. low_scalar c (omega arith)) word (list_all_from_scalars word h))

-- a word in its form
pub formed_scalars : (form : WordForm) (word : List ℕ) → scalars word ≡ true → scalars (formed form word) ≡ true
formed_scalars Folded word h = h
formed_scalars Plain word h = plain_scalars word h
formed_scalars English word h = stem_scalars (plain word) (plain_scalars word h)
