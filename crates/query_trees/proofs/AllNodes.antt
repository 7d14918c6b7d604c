-- The nodes of queries: listed, and the terms that they read.
use Rattle.std.proofs.Common.{[], ap, ap₂, length, refl, reverse, suc, sym, ◌++◌, ◌∙◌, ◌∷◌, ◌≡◌, List}
use Rattle.std.proofs.lemmas.List.{append-nil, append_assoc, reverse-append}
use Rattle.std.proofs.lemmas.List.Concat.{flat_map-append}
use Rattle.std.specs.List.{flat_map}
use Rattle.definitions.specs.Query.{Clauses, Queries, Query, all, boolean, boost, clause, const_score, disjunction_max, empty, no_clauses, no_queries, phrase, phrase_prefix, query, term}
use Rattle.definitions.specs.QueryTerms.{clauses_terms, queries_terms, query_terms}
use Rattle.query_trees.proofs.Nodes.{Clause}
use Rattle.query_trees.specs.Queries.{clauses_of, queries_of, query_of}
use Rattle.query_trees.specs.Walks.{children, clauses_children, clauses_walk, own_terms, queries_list, queries_walk, walk, walk_back}
use Rattle.query_trees.specs.declared.any_query.AnyQuery.{AnyQuery}

-- ---- the queries of lists

-- the query of one more clause
pub last_child : (cs : List Clause) (c : Clause) → clauses_children (clauses_of (cs ++ c ∷ [])) ≡ clauses_children (clauses_of cs) ++ query_of c.1 ∷ []
last_child [] c = refl
last_child (d ∷ cs) c = ap (λ qs. query_of d.1 ∷ qs) (last_child cs c)

-- one more query
pub last_query : (qs : List AnyQuery) (q : AnyQuery) → queries_list (queries_of (qs ++ q ∷ [])) ≡ queries_list (queries_of qs) ++ query_of q ∷ []
last_query [] q = refl
last_query (p ∷ qs) q = ap (λ ps. query_of p ∷ ps) (last_query qs q)

-- the last query of those that are left goes to the end
pub one_more : (ws rest : List Query) (q : Query) → (ws ++ q ∷ []) ++ reverse rest ≡ ws ++ reverse (rest ++ q ∷ [])
one_more ws rest q = append_assoc ws (q ∷ []) (reverse rest) ∙ ap (λ l. ws ++ l) (sym (reverse-append rest (q ∷ [])))

-- ---- nodes

-- the nodes of lists, by the queries in them
pub clauses_nodes : (cs : Clauses) → clauses_walk cs ≡ flat_map walk (clauses_children cs)
clauses_nodes no_clauses = refl
clauses_nodes (clause occur q cs) = ap (λ l. walk q ++ l) (clauses_nodes cs)

pub queries_nodes : (qs : Queries) → queries_walk qs ≡ flat_map walk (queries_list qs)
queries_nodes no_queries = refl
queries_nodes (query q qs) = ap (λ l. walk q ++ l) (queries_nodes qs)

-- a node, then those below it
pub below : (q : Query) → walk q ≡ q ∷ flat_map walk (children q)
below all = refl
below empty = refl
below (term t option) = refl
below (phrase terms slop) = refl
below (phrase_prefix terms limit) = refl
below (boolean cs least) = ap (λ l. boolean cs least ∷ l) (clauses_nodes cs)
below (disjunction_max qs tie) = ap (λ l. disjunction_max qs tie ∷ l) (queries_nodes qs)
below (boost factor q) = ap (λ l. boost factor q ∷ l) (sym (append-nil (walk q)))
below (const_score constant q) = ap (λ l. const_score constant q ∷ l) (sym (append-nil (walk q)))

-- the nodes of queries that were appended come first
pub back_append : (ps qs : List Query) → walk_back (ps ++ qs) ≡ walk_back qs ++ walk_back ps
back_append [] qs = sym (append-nil (walk_back qs))
back_append (p ∷ ps) qs = ap (λ l. l ++ walk p) (back_append ps qs) ∙ append_assoc (walk_back qs) (walk_back ps) (walk p)

-- back and back again is in order
pub back_reverse : (qs : List Query) → walk_back (reverse qs) ≡ flat_map walk qs
back_reverse [] = refl
back_reverse (q ∷ qs) = ap walk_back (reverse-append (q ∷ []) qs) ∙ back_append (reverse qs) (q ∷ []) ∙ ap (λ l. walk q ++ l) (back_reverse qs)

-- one node is listed, and those right below it wait in its place
pub one_listed : (nodes ws : List Query) (q : Query) → (nodes ++ q ∷ []) ++ walk_back (ws ++ reverse (children q)) ≡ nodes ++ walk_back (ws ++ q ∷ [])
one_listed nodes ws q =
    append_assoc nodes (q ∷ []) (walk_back (ws ++ reverse (children q)))
    ∙ ap (λ l. nodes ++ q ∷ l) (back_append ws (reverse (children q)) ∙ ap (λ l. l ++ walk_back ws) (back_reverse (children q)))
    ∙ ap (λ l. nodes ++ l) (ap (λ l. l ++ walk_back ws) (sym (below q)) ∙ sym (back_append ws (q ∷ [])))

-- fewer nodes wait then
pub fewer : (ws : List Query) (q : Query) → suc (length (walk_back (ws ++ reverse (children q)))) ≡ length (walk_back (ws ++ q ∷ []))
fewer ws q = ap length (one_listed [] ws q)

-- ---- terms

-- the terms of all nodes are those of the query
mutual
  terms_walked : (q : Query) → flat_map own_terms (walk q) ≡ query_terms q
  terms_walked all = refl
  terms_walked empty = refl
  terms_walked (term t option) = refl
  terms_walked (phrase terms slop) = append-nil _
  terms_walked (phrase_prefix terms limit) = append-nil _
  terms_walked (boolean cs least) = clauses_walked cs
  terms_walked (disjunction_max qs tie) = queries_walked qs
  terms_walked (boost factor q) = terms_walked q
  terms_walked (const_score constant q) = terms_walked q

  clauses_walked : (cs : Clauses) → flat_map own_terms (clauses_walk cs) ≡ clauses_terms cs
  clauses_walked no_clauses = refl
  clauses_walked (clause occur q cs) = flat_map-append own_terms (walk q) (clauses_walk cs) ∙ ap₂ (λ l m. l ++ m) (terms_walked q) (clauses_walked cs)

  queries_walked : (qs : Queries) → flat_map own_terms (queries_walk qs) ≡ queries_terms qs
  queries_walked no_queries = refl
  queries_walked (query q qs) = flat_map-append own_terms (walk q) (queries_walk qs) ∙ ap₂ (λ l m. l ++ m) (terms_walked q) (queries_walked qs)

-- those of queries that wait
pub one_terms : (q : Query) → flat_map own_terms (walk_back (q ∷ [])) ≡ query_terms q
one_terms q = terms_walked q

pub listed_clauses_terms : (cs : Clauses) → flat_map own_terms (walk_back (reverse (clauses_children cs))) ≡ clauses_terms cs
listed_clauses_terms cs = ap (flat_map own_terms) (back_reverse (clauses_children cs) ∙ sym (clauses_nodes cs)) ∙ clauses_walked cs

pub listed_queries_terms : (qs : Queries) → flat_map own_terms (walk_back (reverse (queries_list qs))) ≡ queries_terms qs
listed_queries_terms qs = ap (flat_map own_terms) (back_reverse (queries_list qs) ∙ sym (queries_nodes qs)) ∙ queries_walked qs
