-- A query is its form by what stands at its keys.
use Rattle.std.proofs.Common.{◌≡◌, Equal, Greater, Less, List, Option, Ordering, Some, ap, ap₂, cond, is_eq, nat_cmp, option_and_then, option_map, refl, subst, ℕ}
use Rattle.std.specs.Ordering.{match_ordering}
use Rattle.definitions.specs.QueryGrammar.{Inner, inner_at, many_at, members_in, nested_query, one_at, queries_in, query_of}
use Rattle.definitions.specs.Schema.{Schema}
use Rattle.std.proofs.Math.Path.{fun_ext}
use Rattle.std.proofs.lemmas.Map.Text.{is_eq-slice_cmp}
use Rattle.std.specs.Cmp.Lexicographic.{slice_cmp}
use Rattle.serde_json.specs.Find.{get_member}
use Rattle.serde_json.specs.Data as json

-- a key that is compared as equal is found first, whatever is then made of what is found
found_alike : {A B C : Type 0} (f : A → Option C) (g : B → Option C) (o : Ordering) (a : A) (others : Option A) (b : B) (rest : Option B) → f a ≡ g b → option_and_then f others ≡ option_and_then g rest → option_and_then f (cond (is_eq o) (Some a) others) ≡ option_and_then g (match_ordering o rest (Some b) rest)
found_alike f g Less a others b rest here ih = ih
found_alike f g Equal a others b rest here ih = here
found_alike f g Greater a others b rest here ih = ih

-- likewise of a map
mapped_alike : {A B C : Type 0} (f : A → C) (g : B → C) (o : Ordering) (a : A) (others : Option A) (b : B) (rest : Option B) → f a ≡ g b → option_map f others ≡ option_map g rest → option_map f (cond (is_eq o) (Some a) others) ≡ option_map g (match_ordering o rest (Some b) rest)
mapped_alike f g Less a others b rest here ih = ih
mapped_alike f g Equal a others b rest here ih = ap Some here
mapped_alike f g Greater a others b rest here ih = ih

-- the query at a key is that of the member with this key
one_found : (schema : Schema) (ms : json.Members) (k : List ℕ) → option_and_then (λ i. i.one) (inner_at (members_in schema ms) k) ≡ option_and_then (nested_query schema) (get_member k ms)
one_found schema json.no_members k = refl
one_found schema (json.member l d ms) k =
    let i : Inner = record { key = l; one = nested_query schema d; many = queries_in schema d } in
    subst (λ b. option_and_then (λ i. i.one) (cond b (Some i) (inner_at (members_in schema ms) k)) ≡ option_and_then (nested_query schema) (get_member k (json.member l d ms))) (is_eq-slice_cmp k l)
    (found_alike (λ i. i.one) (nested_query schema) (slice_cmp nat_cmp k l) i (inner_at (members_in schema ms) k) d (get_member k ms) refl (one_found schema ms k))

-- the list of queries at a key is that of the member with this key
many_found : (schema : Schema) (ms : json.Members) (k : List ℕ) → option_map (λ i. i.many) (inner_at (members_in schema ms) k) ≡ option_map (queries_in schema) (get_member k ms)
many_found schema json.no_members k = refl
many_found schema (json.member l d ms) k =
    let i : Inner = record { key = l; one = nested_query schema d; many = queries_in schema d } in
    subst (λ b. option_map (λ i. i.many) (cond b (Some i) (inner_at (members_in schema ms) k)) ≡ option_map (queries_in schema) (get_member k (json.member l d ms))) (is_eq-slice_cmp k l)
    (mapped_alike (λ i. i.many) (queries_in schema) (slice_cmp nat_cmp k l) i (inner_at (members_in schema ms) k) d (get_member k ms) refl (many_found schema ms k))

-- a query is its form by what `get` finds at its keys
pub queries_by_keys : (schema : Schema) (d : json.Data) → nested_query schema d ≡ query_of schema (one_at schema d) (many_at schema d) d
queries_by_keys schema json.null = refl
queries_by_keys schema (json.boolean b) = refl
queries_by_keys schema (json.number n) = refl
queries_by_keys schema (json.string s) = refl
queries_by_keys schema (json.array ds) = refl
queries_by_keys schema (json.object ms) = ap₂ (λ one many. query_of schema one many (json.object ms)) (fun_ext (one_found schema ms)) (fun_ext (many_found schema ms))
