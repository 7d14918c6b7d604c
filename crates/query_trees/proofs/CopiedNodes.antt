-- Copies that are made from the last node on: those of the queries below a node are the last ones when it is its turn.
use Rattle.std.proofs.Common.{[], ap, ap₂, drop, get_or, length, map, refl, reverse, subst, suc, sym, take, zero, ◌+◌, ◌++◌, ◌<◌, ◌≤◌, ◌∙◌, ◌∷◌, ◌≡◌, List, ℕ, arith}
use Rattle.std.specs.Borrow.{Bor}
use Rattle.std.specs.Prelude.{⊤}
use Rattle.std.proofs.lemmas.List.{append-nil, append_assoc, drop_at, drop_more, length-append, map-append, reverse-append, reverse-reverse, take_all, take_at, take_more}
use Rattle.definitions.specs.Query.{Clauses, Queries, Query, all, boolean, boost, clause, const_score, disjunction_max, empty, no_clauses, no_queries, phrase, phrase_prefix, query, term}
use Rattle.query_trees.proofs.Nodes.{Clause}
use Rattle.query_trees.specs.Queries.{clauses_of, queries_of, query_of}
use Rattle.query_trees.specs.Walks.{children, clauses_children, clauses_walk, queries_list, queries_walk, seen, stack, walk, walk_back}
use Rattle.query_trees.specs.declared.any_query.AnyQuery.{AnyQuery}
use Rattle.query_trees.specs.declared.any_query.AnyQuery.TheVariants.{All, Boolean, Boost, ConstScore, DisjunctionMax, Empty, Phrase, PhrasePrefix, Term}

-- ---- a query is told by what it is in the definitions

abbrev form_of : Query → AnyQuery
form_of all = All (record {})
form_of empty = Empty (record {})
form_of (term t option) = Term (t, option)
form_of (phrase terms slop) = Phrase (terms, slop)
form_of (phrase_prefix terms limit) = PhrasePrefix (terms, limit)
form_of (boolean cs least) = Boolean (cs, least)
form_of (disjunction_max qs tie) = DisjunctionMax (qs, tie)
form_of (boost factor q) = Boost (q, factor)
form_of (const_score constant q) = ConstScore (q, constant)

of_its_form : (q : AnyQuery) → form_of (query_of q) ≡ q
of_its_form (All q) = refl
of_its_form (Empty q) = refl
of_its_form (Term q) = refl
of_its_form (Phrase q) = refl
of_its_form (PhrasePrefix q) = refl
of_its_form (Boolean q) = refl
of_its_form (DisjunctionMax q) = refl
of_its_form (Boost q) = refl
of_its_form (ConstScore q) = refl

pub same_query : (p q : AnyQuery) → query_of p ≡ query_of q → p ≡ q
same_query p q same = sym (of_its_form p) ∙ ap form_of same ∙ of_its_form q

-- ---- the last copies

-- the last one is on top
pub top : (qs : List AnyQuery) (q : AnyQuery) → stack (qs ++ q ∷ []) ≡ query_of q ∷ stack qs
top qs q = ap reverse (map-append query_of qs (q ∷ [])) ∙ reverse-append (map query_of qs) (query_of q ∷ [])

-- there is one where one is wanted
pub some_copy : (copies : List AnyQuery) (q : Query) (rest : List Query) → take (length (q ∷ rest)) (stack copies) ≡ q ∷ rest → 0 < length copies
some_copy [] q rest begins = omega (arith, ap length begins)
some_copy (c ∷ copies) q rest begins = omega arith

abbrev head_or : List Query → Query → Query
head_or [] d = d
head_or (q ∷ qs) d = q

abbrev tail : List Query → List Query
tail [] = []
tail (q ∷ qs) = qs

-- that one is the copy of the first
pub first_copied : (p q : Query) (stacked rest : List Query) → take (length (q ∷ rest)) (p ∷ stacked) ≡ q ∷ rest → p ≡ q
first_copied p q stacked rest begins = ap (λ qs. head_or qs p) begins

-- and those below it are the copies of the others
pub rest_copied : (p q : Query) (stacked rest : List Query) → take (length (q ∷ rest)) (p ∷ stacked) ≡ q ∷ rest → take (length rest) stacked ≡ rest
rest_copied p q stacked rest begins = ap tail begins

-- copies are all on the stack that were made of them alone
pub all_stacked : (copies : List AnyQuery) (qs : List Query) → map query_of copies ≡ reverse qs → stack copies ≡ qs
all_stacked copies qs same = ap reverse same ∙ reverse-reverse qs

pub all_taken : (copies : List AnyQuery) (qs : List Query) → map query_of copies ≡ reverse qs → take (length qs) (stack copies) ≡ qs
all_taken copies qs same = ap (take (length qs)) (all_stacked copies qs same) ∙ take_all (length qs) qs (omega arith)

-- ---- the copies that stand when the nodes that are left were copied

-- each node takes off the copies of those right below it
abbrev pub forest : List Query → List Query
forest [] = []
forest (q ∷ qs) = q ∷ drop (length (children q)) (forest qs)

-- a node and those below it leave one copy
mutual
  forest_walk : (q : Query) (rest : List Query) → forest (walk q ++ rest) ≡ q ∷ forest rest
  forest_walk all rest = refl
  forest_walk empty rest = refl
  forest_walk (term t option) rest = refl
  forest_walk (phrase terms slop) rest = refl
  forest_walk (phrase_prefix terms limit) rest = refl
  forest_walk (boolean cs least) rest =
      ap (λ l. boolean cs least ∷ l) (ap (drop (length (clauses_children cs))) (forest_clauses cs rest) ∙ drop_at (clauses_children cs) (forest rest) (length (clauses_children cs)) refl)
  forest_walk (disjunction_max qs tie) rest =
      ap (λ l. disjunction_max qs tie ∷ l) (ap (drop (length (queries_list qs))) (forest_queries qs rest) ∙ drop_at (queries_list qs) (forest rest) (length (queries_list qs)) refl)
  forest_walk (boost factor q) rest = ap (λ l. boost factor q ∷ drop 1 l) (forest_walk q rest)
  forest_walk (const_score constant q) rest = ap (λ l. const_score constant q ∷ drop 1 l) (forest_walk q rest)

  forest_clauses : (cs : Clauses) (rest : List Query) → forest (clauses_walk cs ++ rest) ≡ clauses_children cs ++ forest rest
  forest_clauses no_clauses rest = refl
  forest_clauses (clause occur q cs) rest =
      ap forest (append_assoc (walk q) (clauses_walk cs) rest)
      ∙ forest_walk q (clauses_walk cs ++ rest)
      ∙ ap (λ l. q ∷ l) (forest_clauses cs rest)

  forest_queries : (qs : Queries) (rest : List Query) → forest (queries_walk qs ++ rest) ≡ queries_list qs ++ forest rest
  forest_queries no_queries rest = refl
  forest_queries (query q qs) rest =
      ap forest (append_assoc (walk q) (queries_walk qs) rest)
      ∙ forest_walk q (queries_walk qs ++ rest)
      ∙ ap (λ l. q ∷ l) (forest_queries qs rest)

-- those of several queries, the last of which is on top
forest_back : (qs rest : List Query) → forest (walk_back qs ++ rest) ≡ reverse qs ++ forest rest
forest_back [] rest = refl
forest_back (q ∷ qs) rest =
    ap forest (append_assoc (walk_back qs) (walk q) rest)
    ∙ forest_back qs (walk q ++ rest)
    ∙ ap (λ l. reverse qs ++ l) (forest_walk q rest)
    ∙ sym (append_assoc (reverse qs) (q ∷ []) (forest rest))
    ∙ ap (λ l. l ++ forest rest) (sym (reverse-append (q ∷ []) qs))

-- ---- a node finds the copies of those right below it

abbrev Whole : List Query → Type 0
Whole [] = ⊤
Whole (q ∷ qs) = (take (length (children q)) (forest qs) ≡ children q) × Whole qs

mutual
  whole_walk : (q : Query) (rest : List Query) → Whole rest → Whole (walk q ++ rest)
  whole_walk all rest whole = (refl, whole)
  whole_walk empty rest whole = (refl, whole)
  whole_walk (term t option) rest whole = (refl, whole)
  whole_walk (phrase terms slop) rest whole = (refl, whole)
  whole_walk (phrase_prefix terms limit) rest whole = (refl, whole)
  whole_walk (boolean cs least) rest whole =
      (ap (take (length (clauses_children cs))) (forest_clauses cs rest) ∙ take_at (clauses_children cs) (forest rest) (length (clauses_children cs)) refl, whole_clauses cs rest whole)
  whole_walk (disjunction_max qs tie) rest whole =
      (ap (take (length (queries_list qs))) (forest_queries qs rest) ∙ take_at (queries_list qs) (forest rest) (length (queries_list qs)) refl, whole_queries qs rest whole)
  whole_walk (boost factor q) rest whole = (ap (take 1) (forest_walk q rest), whole_walk q rest whole)
  whole_walk (const_score constant q) rest whole = (ap (take 1) (forest_walk q rest), whole_walk q rest whole)

  whole_clauses : (cs : Clauses) (rest : List Query) → Whole rest → Whole (clauses_walk cs ++ rest)
  whole_clauses no_clauses rest whole = whole
  whole_clauses (clause occur q cs) rest whole = subst Whole (sym (append_assoc (walk q) (clauses_walk cs) rest)) (whole_walk q (clauses_walk cs ++ rest) (whole_clauses cs rest whole))

  whole_queries : (qs : Queries) (rest : List Query) → Whole rest → Whole (queries_walk qs ++ rest)
  whole_queries no_queries rest whole = whole
  whole_queries (query q qs) rest whole = subst Whole (sym (append_assoc (walk q) (queries_walk qs) rest)) (whole_walk q (queries_walk qs ++ rest) (whole_queries qs rest whole))

whole_back : (qs rest : List Query) → Whole rest → Whole (walk_back qs ++ rest)
whole_back [] rest whole = whole
whole_back (q ∷ qs) rest whole = subst Whole (sym (append_assoc (walk_back qs) (walk q) rest)) (whole_back qs (walk q ++ rest) (whole_walk q rest whole))

whole_drop : (n : ℕ) (qs : List Query) → Whole qs → Whole (drop n qs)
whole_drop zero qs whole = whole
whole_drop (suc n) [] whole = whole
whole_drop (suc n) (q ∷ qs) whole = whole_drop n qs whole.1

-- ---- a turn: the last node that is left is copied

-- it is the next of all
next_left : (left nodes : List Query) (q : Query) → left ++ q ∷ [] ≡ take (suc (length left)) nodes → drop (length left) nodes ≡ q ∷ drop (suc (length left)) nodes
next_left [] [] q same = sym same
next_left [] (n ∷ nodes) q same = ap (λ qs. head_or qs q ∷ nodes) (sym same)
next_left (l ∷ left) [] q same = cc
next_left (l ∷ left) (n ∷ nodes) q same = next_left left nodes q (ap tail same)

-- the others are left
pub others_left : (left nodes : List Query) (q : Query) → left ++ q ∷ [] ≡ take (suc (length left)) nodes → left ≡ take (length left) nodes
others_left [] nodes q same = refl
others_left (l ∷ left) [] q same = cc
others_left (l ∷ left) (n ∷ nodes) q same = ap₂ (λ m ms. m ∷ ms) (ap (λ qs. head_or qs l) same) (others_left left nodes q (ap tail same))

-- the copies of those right below it are on top
pub found_below : (ws left : List Query) (q : Query) → left ++ q ∷ [] ≡ take (suc (length left)) (walk_back ws) → take (length (children q)) (forest (drop (suc (length left)) (walk_back ws))) ≡ children q
found_below ws left q same =
    let whole : Whole (walk_back ws) = subst Whole (append-nil (walk_back ws)) (whole_back ws [] tt) in
    (subst Whole (next_left left (walk_back ws) q same) (whole_drop (length left) (walk_back ws) whole)).0

-- its own copy takes their place
pub own_copy : (nodes left : List Query) (q : Query) (after : List Query) → left ++ q ∷ [] ≡ take (suc (length left)) nodes → forest (drop (suc (length left)) nodes) ≡ children q ++ after → q ∷ after ≡ forest (drop (length left) nodes)
own_copy nodes left q after same taken =
    ap (λ l. q ∷ l) (sym (drop_at (children q) after (length (children q)) refl) ∙ ap (drop (length (children q))) (sym taken))
    ∙ ap forest (sym (next_left left nodes q same))

-- ---- at the end all are copied

pub all_copied : (ws : List Query) (copies : List AnyQuery) → stack copies ≡ forest (walk_back ws) → map query_of copies ≡ ws
all_copied ws copies same =
    sym (reverse-reverse (map query_of copies))
    ∙ ap reverse (same ∙ (ap forest (sym (append-nil (walk_back ws))) ∙ (forest_back ws [] ∙ append-nil (reverse ws))))
    ∙ reverse-reverse ws

-- ---- the same of nodes behind references

-- one node less is left
one_less : (ns left : List (Bor AnyQuery)) (node : Bor AnyQuery) → ns ≡ left ++ node ∷ [] → map seen ns ≡ map seen left ++ seen node ∷ []
one_less ns left node popped = ap (map seen) popped ∙ map-append seen left (node ∷ [])

count_less : (ns left : List (Bor AnyQuery)) (node : Bor AnyQuery) → ns ≡ left ++ node ∷ [] → length (map seen ns) ≡ suc (length (map seen left))
count_less ns left node popped = omega (arith, ap length (one_less ns left node popped), length-append (map seen left) (seen node ∷ []))

last_left : (ns left : List (Bor AnyQuery)) (node : Bor AnyQuery) (nodes : List Query) → ns ≡ left ++ node ∷ [] → map seen ns ≡ take (length (map seen ns)) nodes → map seen left ++ seen node ∷ [] ≡ take (suc (length (map seen left))) nodes
last_left ns left node nodes popped same = sym (one_less ns left node popped) ∙ (same ∙ ap (λ n. take n nodes) (count_less ns left node popped))

past_last : (ns left : List (Bor AnyQuery)) (node : Bor AnyQuery) (nodes : List Query) → ns ≡ left ++ node ∷ [] → forest (drop (length (map seen ns)) nodes) ≡ forest (drop (suc (length (map seen left))) nodes)
past_last ns left node nodes popped = ap (λ n. forest (drop n nodes)) (count_less ns left node popped)

-- the last one finds the copies of those right below it
pub found : (ws : List Query) (ns left : List (Bor AnyQuery)) (node : Bor AnyQuery) (copies : List AnyQuery) → ns ≡ left ++ node ∷ [] → map seen ns ≡ take (length (map seen ns)) (walk_back ws) → stack copies ≡ forest (drop (length (map seen ns)) (walk_back ws)) → take (length (children (seen node))) (stack copies) ≡ children (seen node)
found ws ns left node copies popped same stacked =
    ap (take (length (children (seen node)))) (stacked ∙ past_last ns left node (walk_back ws) popped)
    ∙ found_below ws (map seen left) (seen node) (last_left ns left node (walk_back ws) popped same)

-- and is copied over them
pub turned : (ws : List Query) (ns left : List (Bor AnyQuery)) (node : Bor AnyQuery) (copies after made : List AnyQuery) (copy : AnyQuery) → ns ≡ left ++ node ∷ [] → map seen ns ≡ take (length (map seen ns)) (walk_back ws) → stack copies ≡ forest (drop (length (map seen ns)) (walk_back ws)) → query_of copy ≡ seen node → stack copies ≡ children (seen node) ++ stack after → made ≡ after ++ copy ∷ [] → (map seen left ≡ take (length (map seen left)) (walk_back ws)) × (stack made ≡ forest (drop (length (map seen left)) (walk_back ws)))
turned ws ns left node copies after made copy popped same stacked copied rest pushed =
    let last = last_left ns left node (walk_back ws) popped same in (
      others_left (map seen left) (walk_back ws) (seen node) last,
      ap stack pushed
          ∙ (top after copy
          ∙ (ap (λ q. q ∷ stack after) copied
          ∙ own_copy (walk_back ws) (map seen left) (seen node) (stack after) last (sym (past_last ns left node (walk_back ws) popped) ∙ (sym stacked ∙ rest)))),
    )

-- at the end none is left
pub at_end : (ws : List Query) (ns : List (Bor AnyQuery)) (copies : List AnyQuery) → ns ≡ [] → stack copies ≡ forest (drop (length (map seen ns)) (walk_back ws)) → map query_of copies ≡ ws
at_end ws ns copies none stacked = all_copied ws copies (stacked ∙ ap (λ l. forest (drop (length (map seen l)) (walk_back ws))) none)

-- ---- one copy

pub one_there : (copies : List AnyQuery) (q : Query) → map query_of copies ≡ q ∷ [] → 0 < length copies
one_there [] q same = omega (arith, ap length same)
one_there (c ∷ copies) q same = omega arith

pub one_copy : (copies after : List AnyQuery) (copy q : AnyQuery) → map query_of copies ≡ query_of q ∷ [] → stack copies ≡ query_of copy ∷ stack after → copy ≡ q
one_copy copies after copy q same stacked = same_query copy q (ap (λ qs. head_or qs (query_of q)) (sym stacked ∙ ap reverse same))

-- ---- copies that are taken one by one

pub clauses_listed : (cs : List Clause) → clauses_children (clauses_of cs) ≡ map (λ c. query_of c.1) cs
clauses_listed [] = refl
clauses_listed (c ∷ cs) = ap (λ qs. query_of c.1 ∷ qs) (clauses_listed cs)

pub queries_listed : (qs : List AnyQuery) → queries_list (queries_of qs) ≡ map query_of qs
queries_listed [] = refl
queries_listed (q ∷ qs) = ap (λ ps. query_of q ∷ ps) (queries_listed qs)

-- the last copies are of what is left of a list, and those before were taken off the first ones
pub record Taking {X : Type 0} (f : X → Query) (xs : List X) (i : ℕ) (first now : List Query) : Type 0 where
  pub begins : take (length (map f (drop i xs))) now ≡ map f (drop i xs)
  pub taken : first ≡ map f (take i xs) ++ now

-- one more is taken: the copy of the next one
pub next_taken : {X : Type 0} (f : X → Query) (xs : List X) (i : ℕ) (x : X) (first now after : List Query) (p : Query) → i < length xs → x ≡ get_or xs i x → Taking f xs i first now → now ≡ p ∷ after → (p ≡ f x) × Taking f xs (i + 1) first after
next_taken f xs i x first now after p lt same taking top =
    let next : map f (drop i xs) ≡ f x ∷ map f (drop (i + 1) xs) = ap (map f) (drop_more xs i x lt ∙ ap (λ y. y ∷ drop (i + 1) xs) (sym same)) in
    let begins : take (length (f x ∷ map f (drop (i + 1) xs))) (p ∷ after) ≡ f x ∷ map f (drop (i + 1) xs) =
    ap₂ (λ l s. take (length l) s) (sym next) (sym top) ∙ (taking.begins ∙ next) in
    let copied : p ≡ f x = first_copied p (f x) after (map f (drop (i + 1) xs)) begins in
    let more : map f (take (i + 1) xs) ≡ map f (take i xs) ++ p ∷ [] =
    ap (map f) (take_more xs i x lt)
    ∙ (map-append f (take i xs) (get_or xs i x ∷ [])
    ∙ ap (λ q. map f (take i xs) ++ q ∷ []) (ap f (sym same) ∙ sym copied)) in (
      copied,
      record {
        begins = rest_copied p (f x) after (map f (drop (i + 1) xs)) begins;
        taken = taking.taken ∙ (ap (λ s. map f (take i xs) ++ s) top ∙ (sym (append_assoc (map f (take i xs)) (p ∷ []) after) ∙ ap (λ s. s ++ after) (sym more)));
      },
    )

-- none is taken at first, and all are at the end
pub none_taken : {X : Type 0} (f : X → Query) (xs : List X) (first : List Query) → take (length (map f xs)) first ≡ map f xs → Taking f xs 0 first first
none_taken f xs first begins = record { begins = begins; taken = refl }

pub all_off : {X : Type 0} (f : X → Query) (xs : List X) (i : ℕ) (first now : List Query) → length xs ≤ i → Taking f xs i first now → first ≡ map f xs ++ now
all_off f xs i first now past taking = taking.taken ∙ ap (λ l. map f l ++ now) (take_all i xs past)
