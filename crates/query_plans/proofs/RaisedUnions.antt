-- Unions whose queries stand among other clauses.
use Rattle.std.proofs.Common.{ap, ap₂, arith, count_by, drop, false, get_or, leb-true, length, max, nat_le, refl, subst, suc, sym, take, true, zero, ◌&&◌, ◌*◌, ◌+◌, ◌++◌, ◌<◌, ◌||◌, ◌∙◌, ◌∷◌, ◌≡◌, ◌≤◌, [], Bool, List, ℕ}
use Rattle.std.specs.Prelude.{cond, sum}
use Rattle.std.specs.List.{list_all, list_any}
use Rattle.std.proofs.Math.Dec.{leb-zero}
use Rattle.std.proofs.Math.Nat.{mul-one}
use Rattle.std.proofs.lemmas.Bool.{le-leb, leb-false, lt-leb}
use Rattle.std.proofs.lemmas.List.{take_more}
use Rattle.definitions.specs.Analyzers.{Analyzer}
use Rattle.definitions.specs.Matching.{agrees, answers_of, is_counted, is_met_should, matches}
use Rattle.definitions.specs.Query as definitions
use Rattle.definitions.specs.Query.{Clauses, Occur, Query}
use Rattle.definitions.specs.Schema.{Schema}
use Rattle.definitions.specs.Scoring.{Similarity, clause_scores, score}
use Rattle.definitions.specs.Values.{Document}
use Rattle.query_plans.proofs.ClausePlans.{all_joined, any_joined, bool_plan, both_plans, both_true, clauses_joined, earned, met_joined, scores_joined}
use Rattle.query_plans.proofs.JoinedClauses.{joined_assoc, shoulds_agree, shoulds_count, some_matches, some_met, themselves}
use Rattle.query_plans.proofs.RequiredClauses.{few_met, met_more, num_joined}
use Rattle.query_plans.specs.Plans.{ArePlans, IsPlan, each_asking, joined, num_should}
use Rattle.query_trees.proofs.Nodes.{Clause}
use Rattle.query_trees.specs.Queries.{clauses_of, occur_of, query_of}

-- ---- a union among clauses none of which should match

-- as many as both ask for
both_least : (m n : ℕ) → nat_le (max m 1) n ≡ (nat_le m n && nat_le 1 n)
both_least m n = by_one (nat_le m n) (nat_le 1 n) refl refl
  where
    by_one : (a s : Bool) → nat_le m n ≡ a → nat_le 1 n ≡ s → nat_le (max m 1) n ≡ (a && s)
    by_one true true enough some = le-leb (max m 1) n (let few = leb-true m n enough in let one = leb-true 1 n some in omega (arith, few, one))
    by_one true false enough none = lt-leb (max m 1) n (let few = leb-false 1 n none in omega (arith, few))
    by_one false s few some = lt-leb (max m 1) n (let less = leb-false m n few in omega (arith, less))

-- what the union and the others answer, and what they do together
together : (all enough some others : Bool) → (((all && true) && (enough && some)) && (others || some)) ≡ (((all && (((true && enough) && some) && true)) && true) && (others || (((true && enough) && some) || false)))
together true true true others = refl
together true true false others = refl
together true false some others = refl
together false enough some others = refl

-- whether a union matches
union_matches : (schema : Schema) (analyze : Analyzer) (doc : Document) (minimum : ℕ) (xs : Clauses) → matches schema analyze doc (definitions.boolean (each_asking definitions.should xs) minimum) ≡ ((true && nat_le minimum (count_by is_met_should (answers_of schema analyze doc (each_asking definitions.should xs)))) && nat_le 1 (count_by is_met_should (answers_of schema analyze doc (each_asking definitions.should xs))))
union_matches schema analyze doc minimum xs =
    let n = count_by is_met_should (answers_of schema analyze doc (each_asking definitions.should xs)) in
    ap₂ (λ x y. (x && nat_le minimum n) && y) (shoulds_agree schema analyze doc xs) (shoulds_count schema analyze doc xs ∙ sym (some_met schema analyze doc xs))

-- none of the others should match
none_met : (schema : Schema) (analyze : Analyzer) (doc : Document) (cs : Clauses) → num_should cs ≡ 0 → count_by is_met_should (answers_of schema analyze doc cs) ≡ 0
none_met schema analyze doc cs none = let few = few_met schema analyze doc cs in omega (arith, few, none)

-- the queries of a union stand among clauses none of which should match
pub union_raised : (minimum : ℕ) (cs xs : Clauses) → num_should cs ≡ 0 → IsPlan 1 (definitions.boolean (joined cs (definitions.clause definitions.must (definitions.boolean (each_asking definitions.should xs) minimum) definitions.no_clauses)) 0) (definitions.boolean (joined cs (each_asking definitions.should xs)) (max minimum 1))
union_raised minimum cs xs none = record {
  same_matches = λ schema analyze doc.
      let union = definitions.clause definitions.must (definitions.boolean (each_asking definitions.should xs) minimum) definitions.no_clauses in
      let n = count_by is_met_should (answers_of schema analyze doc (each_asking definitions.should xs)) in
      let agree = list_all agrees (answers_of schema analyze doc cs) in
      let others = list_any (λ (a : Occur × Bool). is_counted a.0 && a.1) (answers_of schema analyze doc cs) in
      let count : count_by is_met_should (answers_of schema analyze doc (joined cs (each_asking definitions.should xs))) ≡ n = (let both = met_joined schema analyze doc cs (each_asking definitions.should xs) in let no = none_met schema analyze doc cs none in omega (arith, both, no)) in
      let some = shoulds_count schema analyze doc xs ∙ sym (some_met schema analyze doc xs) in
      ap₂ (λ x y. x && y)
      (ap₂ (λ x y. x && y) (all_joined schema analyze doc cs (each_asking definitions.should xs) ∙ ap (λ x. agree && x) (shoulds_agree schema analyze doc xs)) (ap (nat_le (max minimum 1)) count ∙ both_least minimum n))
      (any_joined schema analyze doc cs (each_asking definitions.should xs) ∙ ap (λ x. others || x) some)
      ∙ (together agree (nat_le minimum n) (nat_le 1 n) others
      ∙ sym (ap₂ (λ x y. x && y)
      (ap₂ (λ x y. x && y) (all_joined schema analyze doc cs union ∙ ap (λ v. agree && (v && true)) (union_matches schema analyze doc minimum xs)) (leb-zero (count_by is_met_should (answers_of schema analyze doc (joined cs union)))))
      (any_joined schema analyze doc cs union ∙ ap (λ v. others || (v || false)) (union_matches schema analyze doc minimum xs))));
  same_scores = λ schema analyze sim doc b holds.
      let inner = definitions.boolean (each_asking definitions.should xs) minimum in
      let union = definitions.clause definitions.must inner definitions.no_clauses in
      let all = (both_true _ _ (both_true _ _ holds).0).0 in
      let met = (both_true _ _ (both_true _ _ (sym (all_joined schema analyze doc cs union) ∙ all)).1).0 in
      scores_joined schema analyze sim doc b cs (each_asking definitions.should xs)
      ∙ (ap₂ (λ x y. x + y) (ap (λ n. sum (clause_scores schema analyze sim doc n cs)) (sym (mul-one b))) (earned schema analyze sim doc b inner met)
      ∙ sym (scores_joined schema analyze sim doc (b * 1) cs union));
}

-- a union that must match, pushed behind others
pub raised_union : (old now inner : Clauses) (occur : Occur) (q : Query) (minimum least : ℕ) → num_should old ≡ 0 → q ≡ definitions.boolean inner minimum → occur ≡ definitions.must → inner ≡ each_asking definitions.should inner → now ≡ joined old (each_asking definitions.should inner) → least ≡ max minimum 1 → IsPlan 1 (definitions.boolean (joined old (definitions.clause occur q definitions.no_clauses)) 0) (definitions.boolean now least)
raised_union old now inner occur q minimum least none is asked alike are most =
    let one : definitions.clause occur q definitions.no_clauses ≡ definitions.clause definitions.must (definitions.boolean (each_asking definitions.should inner) minimum) definitions.no_clauses = ap₂ (λ o p. definitions.clause o p definitions.no_clauses) asked (is ∙ ap (λ xs. definitions.boolean xs minimum) alike) in
    subst (λ xs. IsPlan 1 (definitions.boolean (joined old xs) 0) (definitions.boolean now least)) (sym one)
    (subst (λ p. IsPlan 1 (definitions.boolean (joined old (definitions.clause definitions.must (definitions.boolean (each_asking definitions.should inner) minimum) definitions.no_clauses)) 0) p) (sym (ap₂ definitions.boolean are most)) (union_raised minimum old inner none))

-- ---- a clause put last

swapped_all : (a g : Bool) → (a && (g && true)) ≡ (g && a)
swapped_all true true = refl
swapped_all true false = refl
swapped_all false true = refl
swapped_all false false = refl

swapped_any : (a g : Bool) → (a || (g || false)) ≡ (g || a)
swapped_any true true = refl
swapped_any true false = refl
swapped_any false true = refl
swapped_any false false = refl

-- a clause behind those that stood behind it
last_instead : (least : ℕ) (ds : Clauses) (occur : Occur) (q : Query) → ArePlans least 1 (definitions.clause occur q ds) (joined ds (definitions.clause occur q definitions.no_clauses))
last_instead least ds occur q = record {
  agree = λ schema analyze doc. all_joined schema analyze doc ds (definitions.clause occur q definitions.no_clauses) ∙ swapped_all (list_all agrees (answers_of schema analyze doc ds)) (agrees (occur, matches schema analyze doc q));
  enough = λ schema analyze doc others.
      let m = matches schema analyze doc q in
      let behind = met_joined schema analyze doc ds (definitions.clause occur q definitions.no_clauses) in
      let alone = met_more occur m [] in
      let before = met_more occur m (answers_of schema analyze doc ds) in
      let same : count_by is_met_should (answers_of schema analyze doc (joined ds (definitions.clause occur q definitions.no_clauses))) ≡ count_by is_met_should (answers_of schema analyze doc (definitions.clause occur q ds)) = omega (arith, behind, alone, before) in
      ap (λ n. nat_le least (others + n)) same;
  counted = λ schema analyze doc all. any_joined schema analyze doc ds (definitions.clause occur q definitions.no_clauses) ∙ swapped_any (list_any (λ (a : Occur × Bool). is_counted a.0 && a.1) (answers_of schema analyze doc ds)) (is_counted occur && matches schema analyze doc q);
  scores = λ schema analyze sim doc b all.
      let one = definitions.clause occur q definitions.no_clauses in
      let behind = scores_joined schema analyze sim doc b ds one in
      let before = scores_joined schema analyze sim doc b one ds in
      ap (λ n. n) (omega (arith, behind, before))
      ∙ ap (λ n. sum (clause_scores schema analyze sim doc n (definitions.clause occur q ds))) (sym (mul-one b));
}

-- a clause taken out of the middle
taken_out : (least : ℕ) (cs ds : Clauses) (occur : Occur) (q : Query) → ArePlans least 1 (joined cs (definitions.clause occur q ds)) (joined (joined cs ds) (definitions.clause occur q definitions.no_clauses))
taken_out least cs ds occur q =
    subst (λ xs. ArePlans least 1 (joined cs (definitions.clause occur q ds)) xs) (sym (joined_assoc cs ds (definitions.clause occur q definitions.no_clauses)))
    (both_plans least 1 cs cs (definitions.clause occur q ds) (joined ds (definitions.clause occur q definitions.no_clauses)) (themselves least cs) (last_instead least ds occur q))

-- a list around one of its members
around : (cs : List Clause) (i : ℕ) (c : Clause) → i < length cs → c ≡ get_or cs i c → cs ≡ take i cs ++ c ∷ drop (i + 1) cs
around [] i c small is = absurd (omega (arith, small))
around (d ∷ cs) zero c small is = ap (λ x. x ∷ cs) (sym is)
around (d ∷ cs) (suc i) c small is =
    let next : suc (i + 1) ≡ suc i + 1 = omega arith in
    ap (λ xs. d ∷ xs) (around cs i c (omega (arith, small)) is) ∙ ap (λ n. d ∷ (take i cs ++ c ∷ drop n (d ∷ cs))) next

-- a clause removed, and put last
pub removed_plan : (cs rest : List Clause) (i : ℕ) (c : Clause) → i < length cs → c ≡ get_or cs i c → rest ≡ take i cs ++ drop (i + 1) cs → IsPlan 1 (definitions.boolean (clauses_of cs) 0) (definitions.boolean (joined (clauses_of rest) (definitions.clause (occur_of c.0) (query_of c.1) definitions.no_clauses)) 0)
removed_plan cs rest i c small is out =
    let whole = ap clauses_of (around cs i c small is) ∙ clauses_joined (take i cs) (c ∷ drop (i + 1) cs) in
    let left = ap clauses_of out ∙ clauses_joined (take i cs) (drop (i + 1) cs) in
    subst (λ xs. IsPlan 1 (definitions.boolean xs 0) (definitions.boolean (joined (clauses_of rest) (definitions.clause (occur_of c.0) (query_of c.1) definitions.no_clauses)) 0)) (sym whole)
    (subst (λ xs. IsPlan 1 (definitions.boolean (joined (clauses_of (take i cs)) (definitions.clause (occur_of c.0) (query_of c.1) (clauses_of (drop (i + 1) cs)))) 0) (definitions.boolean (joined xs (definitions.clause (occur_of c.0) (query_of c.1) definitions.no_clauses)) 0)) (sym left)
    (bool_plan 0 1 _ _ (taken_out 0 (clauses_of (take i cs)) (clauses_of (drop (i + 1) cs)) (occur_of c.0) (query_of c.1))))

-- none of those that are left should match
pub none_left : (cs rest : List Clause) (i : ℕ) (c : Clause) → i < length cs → c ≡ get_or cs i c → rest ≡ take i cs ++ drop (i + 1) cs → num_should (clauses_of cs) ≡ 0 → num_should (clauses_of rest) ≡ 0
none_left cs rest i c small is out none =
    let whole = ap (λ xs. num_should (clauses_of xs)) (around cs i c small is) ∙ (ap num_should (clauses_joined (take i cs) (c ∷ drop (i + 1) cs)) ∙ num_joined (clauses_of (take i cs)) (clauses_of (c ∷ drop (i + 1) cs))) in
    let left = ap (λ xs. num_should (clauses_of xs)) out ∙ (ap num_should (clauses_joined (take i cs) (drop (i + 1) cs)) ∙ num_joined (clauses_of (take i cs)) (clauses_of (drop (i + 1) cs))) in
    omega (arith, whole, left, none)
