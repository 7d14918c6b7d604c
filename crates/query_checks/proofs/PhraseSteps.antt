-- The terms of a phrase by the steps in which they are read.
use Rattle.std.proofs.Common.{[], ◌+◌, ◌++◌, zero, Bool, List, None, Option, Some, ap, ap₂, arith, false, length, nat_le, nat_lt, option_and_then, option_map, refl, reverse, suc, sym, true, true≢false, zip, ◌&&◌, ◌==◌, ◌∙◌, ◌∷◌, ◌≡◌, ℕ}
use Rattle.std.proofs.lemmas.Bool.{eqb-true}
use Rattle.std.proofs.lemmas.Bool.Decides.{nat_tests}
use Rattle.std.specs.List.{list_all, range_with_len}
use Rattle.definitions.specs.Json.{list_of, only_if}
use Rattle.definitions.specs.Phrases.{by_offset}
use Rattle.definitions.specs.Query.{Terms}
use Rattle.definitions.specs.QueryGrammar.{share_field, terms_at, terms_in}
use Rattle.definitions.specs.Schema.{Schema}
use Rattle.definitions.specs.Scoring.{phrase_field}
use Rattle.definitions.specs.TermGrammar.{term_in}
use Rattle.definitions.specs.Terms.{field_of}
use Rattle.query_checks.specs.ReadPhrases.{given_terms, offsets_at, with_offsets}
use Rattle.query_trees.specs.PhraseTerms.{are_phrase_terms}
use Rattle.serde_json.specs.Data as json
use Rattle.serde_json.specs.Find.{get}
use Rattle.std.proofs.Common.{codes}
use Rattle.definitions.proofs.Lists.{equal_self as is_itself}

-- ---- terms with as many offsets

all_zipped : (test : List ℕ → Bool) (os : List ℕ) (ts : List (List ℕ)) → length os ≡ length ts → list_all (λ p. test p.1) (zip os ts) ≡ list_all test ts
all_zipped test [] [] same = refl
all_zipped test [] (t ∷ ts) same = absurd (omega (arith, same))
all_zipped test (o ∷ os) [] same = absurd (omega (arith, same))
all_zipped test (o ∷ os) (t ∷ ts) same = ap (λ b. test t && b) (all_zipped test os ts (omega (arith, same)))

as_many : (os : List ℕ) (ts : List (List ℕ)) → length os ≡ length ts → length (zip os ts) ≡ length ts
as_many [] [] same = refl
as_many [] (t ∷ ts) same = absurd (omega (arith, same))
as_many (o ∷ os) [] same = absurd (omega (arith, same))
as_many (o ∷ os) (t ∷ ts) same = ap suc (as_many os ts (omega (arith, same)))

some_more : (n : ℕ) → nat_le 2 (suc n) ≡ nat_lt 0 n
some_more n = grind (arith, nat_tests)

-- they are those of a phrase where they share a field
same_test : (os : List ℕ) (ts : List (List ℕ)) → length os ≡ length ts → are_phrase_terms 2 (zip os ts) ≡ share_field ts
same_test [] [] same = refl
same_test [] (t ∷ ts) same = absurd (omega (arith, same))
same_test (o ∷ os) [] same = absurd (omega (arith, same))
same_test (o ∷ os) (t ∷ ts) same =
    let rest : length os ≡ length ts = omega (arith, same) in
    ap₂ (λ a b. a && b)
    (some_more (length (zip os ts)) ∙ ap (nat_lt 0) (as_many os ts rest))
    (ap₂ (λ a b. a && b) (is_itself (field_of t)) (all_zipped (λ u. field_of u == field_of t) os ts rest))

-- ---- the steps

-- terms, if they are those of a phrase
abbrev pub tested : Terms → Option Terms
tested ps = only_if (are_phrase_terms 2 ps) (Some ps)

none_after : (b : Bool) (ts : List (List ℕ)) (f : List (List ℕ) → Option Terms) → f ts ≡ None → option_and_then f (only_if b (Some ts)) ≡ None
none_after true ts f none = none
none_after false ts f none = refl

moved : (b : Bool) (ts : List (List ℕ)) (ps : Terms) (f : List (List ℕ) → Option Terms) → f ts ≡ Some ps → option_and_then f (only_if b (Some ts)) ≡ only_if b (Some ps)
moved true ts ps f is = is
moved false ts ps f is = refl

-- the terms with these offsets, if there are as many
abbrev beside : List (List ℕ) → List ℕ → Option Terms
beside ts os = only_if (length os == length ts) (Some (zip os ts))

beside_tested : (ts : List (List ℕ)) (os : List ℕ) (f : List (List ℕ) → Option Terms) → f ts ≡ beside ts os → option_and_then f (only_if (share_field ts) (Some ts)) ≡ option_and_then tested (beside ts os)
beside_tested ts os f is =
    (elim (length os == length ts) as (λ b. (length os == length ts) ≡ b → f ts ≡ only_if b (Some (zip os ts)) → option_and_then f (only_if (share_field ts) (Some ts)) ≡ option_and_then tested (only_if b (Some (zip os ts)))) [
      | true ↦ (λ e k. moved (share_field ts) ts (zip os ts) f k ∙ ap (λ b. only_if b (Some (zip os ts))) (sym (same_test os ts (eqb-true (length os) (length ts) e))))
      | false ↦ (λ e k. none_after (share_field ts) ts f k)
    ]) refl is

paired_tested : (d : json.Data) (ts : List (List ℕ)) (o : Option (List ℕ)) (f : List (List ℕ) → Option Terms) → f ts ≡ option_and_then (beside ts) o → option_and_then f (only_if (share_field ts) (Some ts)) ≡ option_and_then tested (option_and_then (beside ts) o)
paired_tested d ts None f is = none_after (share_field ts) ts f is
paired_tested d ts (Some os) f is = beside_tested ts os f is

listed_tested : (d : json.Data) (o : Option (List (List ℕ))) → option_and_then (with_offsets d) (option_and_then (λ ts. only_if (share_field ts) (Some ts)) o) ≡ option_and_then tested (option_and_then (with_offsets d) o)
listed_tested d None = refl
listed_tested d (Some ts) = paired_tested d ts (offsets_at (length ts) d) (with_offsets d) refl

found_tested : (schema : Schema) (d : json.Data) (o : Option json.Data) → option_and_then (with_offsets d) (option_and_then (terms_in schema) o) ≡ option_and_then tested (option_and_then (with_offsets d) (option_and_then (list_of (term_in schema)) o))
found_tested schema d None = refl
found_tested schema d (Some x) = listed_tested d (list_of (term_in schema) x)

beside_sorted : (b : Bool) (ps : Terms) → only_if b (Some (by_offset ps)) ≡ option_map by_offset (only_if b (Some ps))
beside_sorted true ps = refl
beside_sorted false ps = refl

offsets_sorted : (ts : List (List ℕ)) (o : Option (List ℕ)) → option_and_then (λ os. only_if (length os == length ts) (Some (by_offset (zip os ts)))) o ≡ option_map by_offset (option_and_then (beside ts) o)
offsets_sorted ts None = refl
offsets_sorted ts (Some os) = beside_sorted (length os == length ts) (zip os ts)

terms_sorted : (d : json.Data) (o : Option (List (List ℕ))) → option_and_then (λ ts. option_and_then (λ os. only_if (length os == length ts) (Some (by_offset (zip os ts)))) (offsets_at (length ts) d)) o ≡ option_map by_offset (option_and_then (with_offsets d) o)
terms_sorted d None = refl
terms_sorted d (Some ts) = offsets_sorted ts (offsets_at (length ts) d)

-- terms, each with its offset, are read, then tested, and then sorted
pub by_steps : (schema : Schema) (d : json.Data) → terms_at schema d ≡ option_map by_offset (option_and_then tested (option_and_then (with_offsets d) (given_terms schema d)))
by_steps schema d =
    let found = get (codes "terms") d in
    terms_sorted d (option_and_then (terms_in schema) found) ∙ ap (option_map by_offset) (found_tested schema d found)

one_or_more : (n : ℕ) → nat_le 1 (suc n) ≡ true
one_or_more n = grind (arith, nat_tests)

both_or_one : (a b c : Bool) → b ≡ true → (a && c) ≡ true → (b && c) ≡ true
both_or_one true b c is both = ap (λ x. x && c) is ∙ both
both_or_one false b c is both = absurd (true≢false (sym both))

-- two terms are one and more
pub one_enough : (ts : Terms) → are_phrase_terms 2 ts ≡ true → are_phrase_terms 1 ts ≡ true
one_enough [] is = cc
one_enough (t ∷ ts) is = both_or_one (nat_le 2 (length (t ∷ ts))) (nat_le 1 (length (t ∷ ts))) (list_all (λ u. field_of u.1 == phrase_field (t ∷ ts)) (t ∷ ts)) (one_or_more (length ts)) is

none_zipped : (os : List ℕ) → zip {X = List ℕ} os [] ≡ []
none_zipped [] = refl
none_zipped (o ∷ os) = refl

none_behind : (ps : Terms) → ps ≡ ps ++ []
none_behind [] = refl
none_behind (p ∷ ps) = ap (λ l. p ∷ l) (none_behind ps)

pub no_items : (ts : List (List ℕ)) → length ts ≡ 0 → ts ≡ []
no_items [] none = refl
no_items (t ∷ ts) none = absurd (omega (arith, none))

-- where no terms are left, those so far are all
pub none_left : (pairs : Terms) (os : List ℕ) (left : List (List ℕ)) (whole : Terms) → left ≡ [] → pairs ++ zip os (reverse left) ≡ whole → pairs ≡ whole
none_left pairs os left whole none is = none_behind pairs ∙ ap (λ ps. pairs ++ ps) (sym (none_zipped os)) ∙ ap (λ l. pairs ++ zip os (reverse l)) (sym none) ∙ is

last_offset : (a n : ℕ) → range_with_len a (suc n) ≡ range_with_len a n ++ ((a + n) ∷ [])
last_offset a zero = let e : a ≡ a + 0 = omega arith in ap (λ x. x ∷ []) e
last_offset a (suc n) = let e : a + 1 + n ≡ a + suc n = omega arith in ap (λ l. a ∷ l) (last_offset (a + 1) n ∙ ap (λ x. range_with_len (a + 1) n ++ (x ∷ [])) e)

-- one offset more
pub offset_more : (n : ℕ) → range_with_len 0 n ++ (n ∷ []) ≡ range_with_len 0 (n + 1)
offset_more n = let e : n + 1 ≡ suc n = omega arith in let z : 0 + n ≡ n = omega arith in sym (ap (range_with_len 0) e ∙ last_offset 0 n ∙ ap (λ x. range_with_len 0 n ++ (x ∷ [])) z)
