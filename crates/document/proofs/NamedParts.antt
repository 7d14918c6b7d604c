-- Lists of values by field, and what is stored by name.
use Rattle.std.proofs.Common.{Global, [], ◌++◌, ◌+◌, ◌<◌, ◌==◌, ◌∷◌, ◌≡◌, ◌≢◌, ◌∙◌, List, None, Some, Vec, add-zero, ap, ap₂, append-nil, append_assoc, arith, cond, drop, false, filter, filter_map, get_or, length, length-append, map, refl, slice_get, slice_set, suc, sym, zero, zero-add, ℕ}
use Rattle.std.proofs.lemmas.Bool.Decides.{nat_tests}
use Rattle.std.proofs.lemmas.List.{map-append}
use Rattle.std.proofs.lemmas.List.Elements.{filter-append}
use Rattle.std.specs.List.{cons_option, enumerate_from}
use Rattle.definitions.proofs.Lists.{equal_self as equal-self}
use Rattle.definitions.specs.Schema.{Schema}
use Rattle.definitions.specs.Stored.{Named, by_field, named_values, plain}
use Rattle.definitions.specs.Values.{Document, Value, values_of}
use Rattle.document.specs.FieldLists.{lent_lists, lent_values}
use Rattle.document.specs.NamedDocs.{named_list, named_lists, no_lists, put_all, put_at}
use Rattle.document_values.specs.Shown.{value_of}
use Rattle.document_values.specs.declared.compact_value.CompactDocValue.{CompactDocValue}

-- ---- values of fields

other-is : (m n : ℕ) → m ≢ n → (m == n) ≡ false
other-is m n e = grind (arith, nat_tests)

-- a pair of a field at the end
pub values-own : (field : ℕ) (v : Value) (ps : Document) → values_of field (ps ++ (field, v) ∷ []) ≡ values_of field ps ++ v ∷ []
values-own field v ps =
    ap (map (λ p. p.1)) (filter-append (λ p. p.0 == field) ps ((field, v) ∷ []) ∙ ap (λ b. filter (λ (p : ℕ × Value). p.0 == field) ps ++ cond b ((field, v) ∷ []) []) (equal-self field))
    ∙ map-append (λ (p : ℕ × Value). p.1) (filter (λ p. p.0 == field) ps) ((field, v) ∷ [])

-- a pair of another field at the end
pub values-other : (field other : ℕ) (v : Value) (ps : Document) → other ≢ field → values_of field (ps ++ (other, v) ∷ []) ≡ values_of field ps
values-other field other v ps apart =
    ap (map (λ p. p.1)) (filter-append (λ p. p.0 == field) ps ((other, v) ∷ []) ∙ ap (λ b. filter (λ (p : ℕ × Value). p.0 == field) ps ++ cond b ((other, v) ∷ []) []) (other-is other field apart) ∙ append-nil (filter (λ (p : ℕ × Value). p.0 == field) ps))

-- ---- a list for each field

-- the values of each field from a number on
abbrev lists_from : ℕ → Schema → Document → List (List Value)
lists_from k [] ps = []
lists_from k (e ∷ es) ps = values_of k ps ∷ lists_from (k + 1) es ps

lists-none : (k : ℕ) (es : Schema) → no_lists (length es) ≡ lists_from k es []
lists-none k [] = refl
lists-none k (e ∷ es) = ap (λ ls. [] ∷ ls) (lists-none (k + 1) es)

-- a pair of a field before all of them
lists-before : (k field : ℕ) (v : Value) (es : Schema) (ps : Document) → field < k → lists_from k es (ps ++ (field, v) ∷ []) ≡ lists_from k es ps
lists-before k field v [] ps l = refl
lists-before k field v (e ∷ es) ps l = ap₂ ◌∷◌ (values-other k field v ps (λ same. absurd (omega arith))) (lists-before (k + 1) field v es ps (omega arith))

lists-put : (k i : ℕ) (v : Value) (es : Schema) (ps : Document) → put_at i v (lists_from k es ps) ≡ lists_from k es (ps ++ (k + i, v) ∷ [])
lists-put k i v [] ps = refl
lists-put k zero v (e ∷ es) ps =
    let here : k + 0 ≡ k = add-zero k in
    ap₂ ◌∷◌ (sym (values-own k v ps)) (sym (lists-before (k + 1) k v es ps (omega arith)))
    ∙ ap (λ f. lists_from k (e ∷ es) (ps ++ (f, v) ∷ [])) (sym here)
lists-put k (suc i) v (e ∷ es) ps =
    let there : k + 1 + i ≡ k + suc i = omega arith in
    ap₂ ◌∷◌ (sym (values-other k (k + suc i) v ps (λ same. absurd (omega arith)))) (lists-put (k + 1) i v es ps ∙ ap (λ f. lists_from (k + 1) es (ps ++ (f, v) ∷ [])) there)

pub append_more : (ps qs : Document) (q : ℕ × Value) → (ps ++ q ∷ []) ++ qs ≡ ps ++ q ∷ qs
append_more [] qs q = refl
append_more (p ∷ ps) qs q = ap (λ r. p ∷ r) (append_more ps qs q)

lists-all : (es : Schema) (ps qs : Document) → put_all qs (lists_from 0 es ps) ≡ lists_from 0 es (ps ++ qs)
lists-all es ps [] = ap (lists_from 0 es) (sym (append-nil ps))
lists-all es ps (q ∷ qs) =
    ap (put_all qs) (lists-put 0 q.0 q.1 es ps ∙ ap (λ n. lists_from 0 es (ps ++ (n, q.1) ∷ [])) (zero-add q.0))
    ∙ lists-all es (ps ++ q ∷ []) qs
    ∙ ap (lists_from 0 es) (append_more ps qs q)

lists-named : (k : ℕ) (es : Schema) (ps : Document) → named_lists es (lists_from k es ps) ≡ filter_map (named_values ps) (enumerate_from k es)
lists-named k [] ps = refl
lists-named k (e ∷ es) ps = go (values_of k ps) ∙ ap (cons_option (elim (values_of k ps) [ [] ↦ None | v ∷ vs ↦ Some (e.name, v ∷ vs) ])) (lists-named (k + 1) es ps)
  where
    go : (vs : List Value) → named_lists (e ∷ es) (vs ∷ lists_from (k + 1) es ps) ≡ cons_option (elim vs [ [] ↦ None | w ∷ ws ↦ Some (e.name, w ∷ ws) ]) (named_lists es (lists_from (k + 1) es ps))
    go [] = refl
    go (w ∷ ws) = refl

-- the values of a document, put by field, are those by field
pub named-by_field : (schema : Schema) (ps : Document) → named_lists schema (put_all ps (no_lists (length schema))) ≡ by_field schema ps
named-by_field schema ps = ap (λ ls. named_lists schema (put_all ps ls)) (lists-none 0 schema) ∙ ap (named_lists schema) (lists-all schema [] ps) ∙ lists-named 0 schema ps

-- ---- one list, and the others

named-step : (schema : Schema) (k : ℕ) (vs : List Value) (ls : List (List Value)) → k < length schema → named_lists (drop k schema) (vs ∷ ls) ≡ named_list (slice_get schema k) vs ++ named_lists (drop (k + 1) schema) ls
named-step [] k vs ls l = absurd (omega arith)
named-step (e ∷ es) zero vs ls l = refl
named-step (e ∷ es) (suc k) vs ls l =
    let more : suc (k + 1) ≡ suc k + 1 = omega arith in
    named-step es k vs ls (omega arith) ∙ ap (λ n. named_list (slice_get es k) vs ++ named_lists (drop n (e ∷ es)) ls) more

-- one more field of those that are named
pub named-more : (schema : Schema) (k : ℕ) (values : Vec CompactDocValue Global) (left whole : List (Vec CompactDocValue Global)) (before after all : Named) → k < length schema → whole ≡ values ∷ left → after ≡ before ++ named_list (slice_get schema k) (lent_values values.items) → before ++ named_lists (drop k schema) (lent_lists whole) ≡ all → after ++ named_lists (drop (k + 1) schema) (lent_lists left) ≡ all
named-more schema k values left whole before after all inside is pushed same =
    let first = named_list (slice_get schema k) (lent_values values.items) in
    let rest = named_lists (drop (k + 1) schema) (lent_lists left) in
    ap (λ f. f ++ rest) pushed
    ∙ append_assoc before first rest
    ∙ ap (λ f. before ++ f) (sym (named-step schema k (lent_values values.items) (lent_lists left) inside))
    ∙ ap (λ w. before ++ named_lists (drop k schema) (lent_lists w)) (sym is)
    ∙ same

-- a value is put at the end of one of the lists
pub put_set : (ls : List (Vec CompactDocValue Global)) (i : ℕ) (d more : Vec CompactDocValue Global) (v : CompactDocValue) → i < length ls → more.items ≡ (get_or ls i d).items ++ v ∷ [] → lent_lists (slice_set ls i more) ≡ put_at i (plain (value_of v)) (lent_lists ls)
put_set [] i d more v l same = absurd (omega arith)
put_set (x ∷ xs) zero d more v l same = ap (λ vs. vs ∷ lent_lists xs) (ap lent_values same ∙ map-append (λ (v : CompactDocValue). plain (value_of v)) x.items (v ∷ []))
put_set (x ∷ xs) (suc i) d more v l same = ap (λ ls. lent_values x.items ∷ ls) (put_set xs i d more v (omega arith) same)

no-more : (n : ℕ) → no_lists n ++ [] ∷ [] ≡ no_lists (suc n)
no-more zero = refl
no-more (suc n) = ap (λ ls. [] ∷ ls) (no-more n)

-- an empty list after empty lists
pub empty-more : (ls whole : List (Vec CompactDocValue Global)) (x : Vec CompactDocValue Global) → whole ≡ ls ++ x ∷ [] → x.items ≡ [] → lent_lists ls ≡ no_lists (length ls) → lent_lists whole ≡ no_lists (length whole)
empty-more ls whole x is none before =
    let more : length whole ≡ suc (length ls) = ap length is ∙ length-append ls (x ∷ []) ∙ (omega arith) in
    ap lent_lists is
    ∙ map-append (λ (l : Vec CompactDocValue Global). lent_values l.items) ls (x ∷ [])
    ∙ ap₂ (λ a vs. a ++ vs ∷ []) before (ap lent_values none)
    ∙ no-more (length ls)
    ∙ ap no_lists (sym more)
