-- Given postings are those that fields hold.
use Rattle.std.proofs.Common.{[], Bool, List, None, Option, Some, ap, arith, bytes_eq, cond, false, find, flat_map, length, map, option_map, refl, sym, true, true≢false, ◌++◌, ◌<◌, ◌||◌, ◌≡◌, ◌∙◌, ◌∷◌, ℕ}
use Rattle.std.proofs.lemmas.Slice.Eq.{bytes_eq-Decides}
use Rattle.std.specs.List.{AllByRecursion, list_any}
use Rattle.std.specs.Option.{option_map_or}
use Rattle.definitions.proofs.Lists.{all_append as all_joined, bytes_swap as same_way}
use Rattle.definitions.specs.Postings.{Posting}
use Rattle.definitions.specs.Schema.{Schema}
use Rattle.layouts.specs.InvertedIndexes.{AreGiven, HasPostingsOf, IndexedField, IndexedTerm, all_terms, term_of_key}
use Rattle.segment_reader.proofs.TermsHeld.{found_all, Row}
use Rattle.segment_reader.specs.Readers.{postings_held}

abbrev row : Schema → ℕ → IndexedTerm → Row
row schema field x = (term_of_key schema field x.key, x)

abbrev rows : Schema → List IndexedField → List Row
rows schema fields = flat_map (λ (f : IndexedField). map (row schema f.field) f.terms) fields

-- each row's term has the postings that are given for it
abbrev IsGiven : (List ℕ → List Posting) → Row → Type 0
IsGiven given p = p.1.postings ≡ given p.0

row_given : (given : List ℕ → List Posting) (schema : Schema) (field : ℕ) (xs : List IndexedTerm) → AllByRecursion (λ (x : IndexedTerm). x.postings ≡ given (term_of_key schema field x.key)) xs → AllByRecursion (IsGiven given) (map (row schema field) xs)
row_given given schema field [] all = tt
row_given given schema field (x ∷ xs) all = (all.0, row_given given schema field xs all.1)

rows_given : (given : List ℕ → List Posting) (schema : Schema) (fields : List IndexedField) → AllByRecursion (HasPostingsOf given schema) fields → AllByRecursion (IsGiven given) (rows schema fields)
rows_given given schema [] all = tt
rows_given given schema (f ∷ fields) all = all_joined (IsGiven given) (map (row schema f.field) f.terms) (rows schema fields) (row_given given schema f.field f.terms all.0) (rows_given given schema fields all.1)

-- ---- none

terms_of_rows : (schema : Schema) (fields : List IndexedField) → map (λ (p : Row). p.0) (rows schema fields) ≡ all_terms schema fields
terms_of_rows schema [] = refl
terms_of_rows schema (f ∷ fields) = go f.terms (terms_of_rows schema fields)
  where
    go : (xs : List IndexedTerm) → map (λ (p : Row). p.0) (rows schema fields) ≡ all_terms schema fields → map (λ (p : Row). p.0) (map (row schema f.field) xs ++ rows schema fields) ≡ map (λ (x : IndexedTerm). term_of_key schema f.field x.key) xs ++ all_terms schema fields
    go [] rest = rest
    go (x ∷ xs) rest = ap (λ ts. term_of_key schema f.field x.key ∷ ts) (go xs rest)

none_any : (t : List ℕ) (ps : List Row) → find (λ (p : Row). bytes_eq p.0 t) ps ≡ None → list_any (bytes_eq t) (map (λ (p : Row). p.0) ps) ≡ false
none_any t [] none = refl
none_any t (p ∷ ps) none = go (bytes_eq p.0 t) refl none (none_any t ps)
  where
    go : (b : Bool) → bytes_eq p.0 t ≡ b → cond b (Some p) (find (λ (q : Row). bytes_eq q.0 t) ps) ≡ None → (find (λ (q : Row). bytes_eq q.0 t) ps ≡ None → list_any (bytes_eq t) (map (λ (q : Row). q.0) ps) ≡ false) → (bytes_eq t p.0 || list_any (bytes_eq t) (map (λ (q : Row). q.0) ps)) ≡ false
    go true is some rest = cc
    go false is some rest = ap (λ b. b || list_any (bytes_eq t) (map (λ (q : Row). q.0) ps)) (same_way t p.0 ∙ is) ∙ rest some

pub none_given : (ps : List Posting) → (0 < length ps → ⊥) → [] ≡ ps
none_given [] none = refl
none_given (p ∷ ps) none = absurd (none (omega arith))

pub given_held : (given : List ℕ → List Posting) (schema : Schema) (fields : List IndexedField) (t : List ℕ) → AreGiven given schema fields → postings_held schema fields t ≡ given t
given_held given schema fields t are = go (find (λ (p : Row). bytes_eq p.0 t) (rows schema fields)) refl
  where
    go : (o : Option Row) → find (λ (p : Row). bytes_eq p.0 t) (rows schema fields) ≡ o → option_map_or (λ (x : IndexedTerm). x.postings) (option_map (λ (p : Row). p.1) o) [] ≡ given t
    go None is = none_given (given t) (λ some. true≢false (sym (are.all t some) ∙ ap (list_any (bytes_eq t)) (sym (terms_of_rows schema fields)) ∙ none_any t (rows schema fields) is))
    go (Some p) is =
        let found = found_all (IsGiven given) (λ (q : Row). bytes_eq q.0 t) (rows schema fields) p (rows_given given schema fields are.each_field) is in
        found.0 ∙ ap given ((bytes_eq-Decides p.0 t).0 found.1)
