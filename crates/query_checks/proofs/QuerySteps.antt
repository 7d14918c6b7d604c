-- One query more of those that are read.
use Rattle.std.proofs.Common.{[], Equal, Greater, Less, List, None, Option, Ordering, Some, ap, arith, codes, drop, get_or, length, map, max, nat_cmp, option_and_then, option_map, refl, suc, sym, unwrap_or, zero, ◌+◌, ◌++◌, ◌<◌, ◌∙◌, ◌∷◌, ◌≡◌, ◌≤◌, ℕ}
use Rattle.std.proofs.lemmas.List.{at_drop_more}
use Rattle.std.specs.Cmp.Lexicographic.{slice_cmp}
use Rattle.std.specs.Ordering.{match_ordering}
use Rattle.definitions.specs.Query.{Clauses, Queries, clause, must, must_not, no_clauses, no_queries, query, should}
use Rattle.definitions.specs.QueryGrammar.{Many, clauses_at, clauses_onto, items_in, nested_query}
use Rattle.definitions.specs.Schema.{Schema}
use Rattle.query_trees.specs.Queries.{clauses_of, occur_of, queries_of, query_of}
use Rattle.query_trees.specs.declared.any_query.AnyQuery.{AnyQuery}
use Rattle.query_trees.specs.declared.occur.Occur.{Occur}
use Rattle.query_trees.specs.declared.occur.Occur.TheVariants as occurs
use Rattle.serde_json.specs.Data.{Data, Members, array, boolean, depth, items_depth, member, members_depth, no_members, null, number, object, string}
use Rattle.serde_json.specs.Find.{get, get_member}
use Rattle.serde_json.specs.View.{items_view, view}
use Rattle.serde_json.specs.declared.value.Value.{Value as Json}

-- ---- items

-- what is left begins with the next item
pub next_item : (items : List Json) (i : ℕ) (item : Json) → i < length items → item ≡ get_or items i item → drop i items ≡ item ∷ drop (i + 1) items
next_item items i item lt same = at_drop_more (λ l. l) items i item lt ∙ ap (λ d. d ∷ drop (i + 1) items) (sym same)

left_depth : (i : ℕ) (items : List Json) → items_depth (items_view (drop i items)) ≤ items_depth (items_view items)
left_depth zero items = omega arith
left_depth (suc i) [] = omega arith
left_depth (suc i) (x ∷ items) = omega (arith, left_depth i items)

-- no item is deeper than all
pub item_depth : (items : List Json) (i : ℕ) (item : Json) → i < length items → item ≡ get_or items i item → depth (view item) ≤ items_depth (items_view items)
item_depth items i item lt same = let at = ap (λ l. items_depth (items_view l)) (next_item items i item lt same) in omega (arith, at, left_depth i items)

-- queries before others
abbrev pub before : List AnyQuery → Queries → Queries
before [] qs = qs
before (q ∷ done) qs = query (query_of q) (before done qs)

before-push : (done : List AnyQuery) (q : AnyQuery) (qs : Queries) → before done (query (query_of q) qs) ≡ before (done ++ (q ∷ [])) qs
before-push [] q qs = refl
before-push (x ∷ done) q qs = ap (query (query_of x)) (before-push done q qs)

-- queries before none
pub before_none : (done : List AnyQuery) → before done no_queries ≡ queries_of done
before_none [] = refl
before_none (q ∷ done) = ap (query (query_of q)) (before_none done)

pushed : (done : List AnyQuery) (q : AnyQuery) (r : Option Queries) → option_map (before done) (option_map (query (query_of q)) r) ≡ option_map (before (done ++ (q ∷ []))) r
pushed done q None = refl
pushed done q (Some qs) = ap Some (before-push done q qs)

-- one query more was read
pub item_read : (schema : Schema) (done : List AnyQuery) (items : List Json) (i : ℕ) (item : Json) (q : AnyQuery) → i < length items → item ≡ get_or items i item → nested_query schema (view item) ≡ Some (query_of q) → option_map (before (done ++ (q ∷ []))) (items_in schema (items_view (drop (i + 1) items))) ≡ option_map (before done) (items_in schema (items_view (drop i items)))
item_read schema done items i item q lt same told =
    let left = items_in schema (items_view (drop (i + 1) items)) in
    sym (ap (λ l. option_map (before done) (items_in schema (items_view l))) (next_item items i item lt same)
    ∙ ap (λ o. option_map (before done) (option_and_then (λ x. option_map (query x) left) o)) told
    ∙ pushed done q left)

-- ---- what stands at a key

-- what was found is not deeper than the members
found_below : (o : Ordering) (e d : Data) (rest : Option Data) (most : ℕ) → (rest ≡ Some d → depth d ≤ most) → match_ordering o rest (Some e) rest ≡ Some d → depth d ≤ max (depth e) most
found_below Less e d rest most below is = let b = below is in omega arith
found_below Equal e d rest most below is = let same = ap (λ p. unwrap_or p e) is in let deep = ap depth same in omega arith
found_below Greater e d rest most below is = let b = below is in omega arith

member_below : (k : List ℕ) (ms : Members) (d : Data) → get_member k ms ≡ Some d → depth d ≤ members_depth ms
member_below k no_members d is = cc
member_below k (member l e ms) d is = found_below (slice_cmp nat_cmp k l) e d (get_member k ms) (members_depth ms) (member_below k ms d) is

-- what stands at a key is less deep
pub get_depth : (k : List ℕ) (x d : Data) → get k x ≡ Some d → depth d < depth x
get_depth k null d is = cc
get_depth k (boolean b) d is = cc
get_depth k (number n) d is = cc
get_depth k (string s) d is = cc
get_depth k (array ds) d is = cc
get_depth k (object ms) d is = let below = member_below k ms d is in omega arith

-- so is it where it was told
pub child_less : (k : List ℕ) (x : Data) (o : Option Data) → o ≡ get k x → (d : Data) → o ≡ Some d → depth d < depth x
child_less k x o same d is = get_depth k x d (sym same ∙ is)

-- ---- clauses

-- the clauses of queries, before other clauses
onto_clauses : (occur : Occur) (qs : List AnyQuery) (cs : List (Occur × AnyQuery)) → clauses_of (map (λ q. (occur, q)) qs ++ cs) ≡ clauses_onto (occur_of occur) (queries_of qs) (clauses_of cs)
onto_clauses occur [] cs = refl
onto_clauses occur (q ∷ qs) cs = ap (λ c. clause (occur_of occur) (query_of q) c) (onto_clauses occur qs cs)

append_nested : {X : Type 0} (xs ys zs : List X) → (xs ++ ys) ++ zs ≡ xs ++ (ys ++ zs)
append_nested [] ys zs = refl
append_nested (x ∷ xs) ys zs = ap (λ l. x ∷ l) (append_nested xs ys zs)

append_none : {X : Type 0} (xs : List X) → xs ≡ xs ++ []
append_none [] = refl
append_none (x ∷ xs) = ap (λ l. x ∷ l) (append_none xs)

-- clauses that ask the same
abbrev pub alike : Occur → List AnyQuery → List (Occur × AnyQuery)
alike occur qs = map (λ q. (occur, q)) qs

-- the clauses of three lists
pub clauses_read : (many : Many) (ms ss ns : List AnyQuery) (none first second third : List (Occur × AnyQuery)) → none ≡ []
    → unwrap_or (many (codes "must")) (Some no_queries) ≡ Some (queries_of ms) → first ≡ none ++ alike occurs.Must ms
    → unwrap_or (many (codes "should")) (Some no_queries) ≡ Some (queries_of ss) → second ≡ first ++ alike occurs.Should ss
    → unwrap_or (many (codes "must_not")) (Some no_queries) ≡ Some (queries_of ns) → third ≡ second ++ alike occurs.MustNot ns
    → clauses_at many ≡ Some (clauses_of third)
clauses_read many ms ss ns none first second third empty must_is first_is should_is second_is must_not_is third_is =
    let from : Option Queries → Option Queries → Option Queries → Option Clauses = λ a b c. option_and_then (λ musts. option_and_then (λ shoulds. option_and_then (λ must_nots. Some (clauses_onto must musts (clauses_onto should shoulds (clauses_onto must_not must_nots no_clauses)))) c) b) a in
    let m = alike occurs.Must ms in
    let s = alike occurs.Should ss in
    let n = alike occurs.MustNot ns in
    let whole : third ≡ m ++ (s ++ (n ++ [])) =
    third_is
    ∙ ap (λ l. l ++ n) (second_is ∙ ap (λ l. l ++ s) (first_is ∙ ap (λ l. l ++ m) empty))
    ∙ append_nested m s n
    ∙ ap (λ l. m ++ (s ++ l)) (append_none n) in
    ap (λ a. from a (unwrap_or (many (codes "should")) (Some no_queries)) (unwrap_or (many (codes "must_not")) (Some no_queries))) must_is
    ∙ ap (λ b. from (Some (queries_of ms)) b (unwrap_or (many (codes "must_not")) (Some no_queries))) should_is
    ∙ ap (λ c. from (Some (queries_of ms)) (Some (queries_of ss)) c) must_not_is
    ∙ ap Some (sym (ap clauses_of whole ∙ onto_clauses occurs.Must ms (s ++ (n ++ [])) ∙ ap (clauses_onto must (queries_of ms)) (onto_clauses occurs.Should ss (n ++ []) ∙ ap (clauses_onto should (queries_of ss)) (onto_clauses occurs.MustNot ns []))))
