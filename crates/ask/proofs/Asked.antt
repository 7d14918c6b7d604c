-- The nodes of queries that may match, listed.
use Rattle.std.proofs.Common.{[], ap, ap₂, length, refl, reverse, suc, sym, ◌++◌, ◌∙◌, ◌∷◌, ◌≡◌, List}
use Rattle.std.proofs.lemmas.List.{append-nil, append_assoc, reverse-append}
use Rattle.std.proofs.lemmas.List.Concat.{flat_map-append}
use Rattle.std.specs.List.{flat_map}
use Rattle.ask.specs.Sought.{asked, asked_back, below, clauses_asked, clauses_below, if_asked, queries_asked}
use Rattle.definitions.specs.Query as definitions
use Rattle.definitions.specs.Query.{Clauses, Queries, Query, all, boolean, boost, clause, const_score, disjunction_max, empty, must, must_not, no_clauses, no_queries, phrase, phrase_prefix, query, should, term}
use Rattle.query_trees.specs.Queries.{clauses_of, occur_of, query_of}
use Rattle.query_trees.specs.Walks.{queries_list}
use Rattle.query_trees.specs.declared.any_query.AnyQuery.{AnyQuery}
use Rattle.query_trees.specs.declared.occur.Occur.{Occur}

-- ---- the queries of lists

-- the query of one more clause
pub last_clause : (cs : List (Occur × AnyQuery)) (c : Occur × AnyQuery) → clauses_below (clauses_of (cs ++ c ∷ [])) ≡ clauses_below (clauses_of cs) ++ if_asked (occur_of c.0) (query_of c.1 ∷ [])
last_clause [] c = append-nil (if_asked (occur_of c.0) (query_of c.1 ∷ []))
last_clause (d ∷ cs) c =
    ap (λ qs. if_asked (occur_of d.0) (query_of d.1 ∷ []) ++ qs) (last_clause cs c)
    ∙ sym (append_assoc (if_asked (occur_of d.0) (query_of d.1 ∷ [])) (clauses_below (clauses_of cs)) (if_asked (occur_of c.0) (query_of c.1 ∷ [])))

-- what one clause has is the same backwards
backwards : (occur : definitions.Occur) (q : Query) → reverse (if_asked occur (q ∷ [])) ≡ if_asked occur (q ∷ [])
backwards must q = refl
backwards should q = refl
backwards must_not q = refl

-- what the last clause of those that are left has goes to the end
pub one_clause : (ws rest : List Query) (occur : definitions.Occur) (q : Query) → (ws ++ if_asked occur (q ∷ [])) ++ reverse rest ≡ ws ++ reverse (rest ++ if_asked occur (q ∷ []))
one_clause ws rest occur q =
    append_assoc ws (if_asked occur (q ∷ [])) (reverse rest)
    ∙ ap (λ l. ws ++ l) (ap (λ l. l ++ reverse rest) (sym (backwards occur q)) ∙ sym (reverse-append rest (if_asked occur (q ∷ []))))

-- ---- nodes

-- the nodes of lists, by the queries in them
one_nodes : (occur : definitions.Occur) (q : Query) → if_asked occur (asked q) ≡ flat_map asked (if_asked occur (q ∷ []))
one_nodes must q = sym (append-nil (asked q))
one_nodes should q = sym (append-nil (asked q))
one_nodes must_not q = refl

clauses_nodes : (cs : Clauses) → clauses_asked cs ≡ flat_map asked (clauses_below cs)
clauses_nodes no_clauses = refl
clauses_nodes (clause occur q cs) =
    ap₂ (λ l m. l ++ m) (one_nodes occur q) (clauses_nodes cs)
    ∙ sym (flat_map-append asked (if_asked occur (q ∷ [])) (clauses_below cs))

queries_nodes : (qs : Queries) → queries_asked qs ≡ flat_map asked (queries_list qs)
queries_nodes no_queries = refl
queries_nodes (query q qs) = ap (λ l. asked q ++ l) (queries_nodes qs)

-- a node, then those below it
node_first : (q : Query) → asked q ≡ q ∷ flat_map asked (below q)
node_first all = refl
node_first empty = refl
node_first (term t option) = refl
node_first (phrase terms slop) = refl
node_first (phrase_prefix terms limit) = refl
node_first (boolean cs least) = ap (λ l. boolean cs least ∷ l) (clauses_nodes cs)
node_first (disjunction_max qs tie) = ap (λ l. disjunction_max qs tie ∷ l) (queries_nodes qs)
node_first (boost factor q) = ap (λ l. boost factor q ∷ l) (sym (append-nil (asked q)))
node_first (const_score constant q) = ap (λ l. const_score constant q ∷ l) (sym (append-nil (asked q)))

-- the nodes of queries that were appended come first
back_append : (ps qs : List Query) → asked_back (ps ++ qs) ≡ asked_back qs ++ asked_back ps
back_append [] qs = sym (append-nil (asked_back qs))
back_append (p ∷ ps) qs = ap (λ l. l ++ asked p) (back_append ps qs) ∙ append_assoc (asked_back qs) (asked_back ps) (asked p)

-- back and back again is in order
back_reverse : (qs : List Query) → asked_back (reverse qs) ≡ flat_map asked qs
back_reverse [] = refl
back_reverse (q ∷ qs) = ap asked_back (reverse-append (q ∷ []) qs) ∙ back_append (reverse qs) (q ∷ []) ∙ ap (λ l. asked q ++ l) (back_reverse qs)

-- one node is listed, and those right below it wait in its place
pub one_listed : (nodes ws : List Query) (q : Query) → (nodes ++ q ∷ []) ++ asked_back (ws ++ reverse (below q)) ≡ nodes ++ asked_back (ws ++ q ∷ [])
one_listed nodes ws q =
    append_assoc nodes (q ∷ []) (asked_back (ws ++ reverse (below q)))
    ∙ ap (λ l. nodes ++ q ∷ l) (back_append ws (reverse (below q)) ∙ ap (λ l. l ++ asked_back ws) (back_reverse (below q)))
    ∙ ap (λ l. nodes ++ l) (ap (λ l. l ++ asked_back ws) (sym (node_first q)) ∙ sym (back_append ws (q ∷ [])))

-- fewer nodes wait then
pub fewer : (ws : List Query) (q : Query) → suc (length (asked_back (ws ++ reverse (below q)))) ≡ length (asked_back (ws ++ q ∷ []))
fewer ws q = ap length (one_listed [] ws q)
