-- Should clauses that all have to match are musts.
use Rattle.std.proofs.Common.{ap, ap₂, arith, count_by, nat_le, refl, subst, suc, sym, true, false, ◌&&◌, ◌+◌, ◌++◌, ◌||◌, ◌∙◌, ◌∷◌, ◌≡◌, ◌≤◌, [], Bool, List, if◌then◌else◌, ℕ}
use Rattle.std.specs.Prelude.{cond, sum}
use Rattle.std.specs.List.{list_all, list_any}
use Rattle.std.proofs.Math.Dec.{leb-suc-suc, leb-zero}
use Rattle.std.proofs.Math.Nat.{mul-one}
use Rattle.std.proofs.lemmas.Bool.{lt-leb}
use Rattle.std.proofs.lemmas.List.Sums.{sum_by-cons}
use Rattle.definitions.specs.Analyzers.{Analyzer}
use Rattle.definitions.specs.Matching.{agrees, answers_of, is_counted, is_met_should, matches}
use Rattle.definitions.specs.Query as definitions
use Rattle.definitions.specs.Query.{Clauses, Occur, Query}
use Rattle.definitions.specs.Schema.{Schema}
use Rattle.definitions.specs.Scoring.{Similarity, clause_scores, score}
use Rattle.definitions.specs.Values.{Document}
use Rattle.query_plans.proofs.ClausePlans.{clauses_joined}
use Rattle.query_plans.specs.Plans.{ArePlans, IsPlan, asked_for, joined, num_should, one_if_should, required}
use Rattle.query_trees.proofs.Nodes.{Clause}
use Rattle.query_trees.specs.Queries.{clauses_of, occur_of}

-- whether all should clauses match
abbrev pub all_met : Schema → Analyzer → Document → Clauses → Bool
all_met schema analyze doc definitions.no_clauses = true
all_met schema analyze doc (definitions.clause definitions.should q cs) = matches schema analyze doc q && all_met schema analyze doc cs
all_met schema analyze doc (definitions.clause definitions.must q cs) = all_met schema analyze doc cs
all_met schema analyze doc (definitions.clause definitions.must_not q cs) = all_met schema analyze doc cs

-- one answer more
pub met_more : (occur : Occur) (m : Bool) (xs : List (Occur × Bool)) → count_by is_met_should ((occur, m) ∷ xs) ≡ cond (is_met_should (occur, m)) 1 0 + count_by is_met_should xs
met_more occur m xs = sum_by-cons (λ x. cond (is_met_should x) 1 0) (occur, m) xs

one_at_most : (m : Bool) → cond m 1 0 ≤ 1
one_at_most true = omega arith
one_at_most false = omega arith

-- no more match than there are
pub few_met : (schema : Schema) (analyze : Analyzer) (doc : Document) (cs : Clauses) → count_by is_met_should (answers_of schema analyze doc cs) ≤ num_should cs
few_met schema analyze doc definitions.no_clauses = omega arith
few_met schema analyze doc (definitions.clause definitions.should q cs) =
    let m = matches schema analyze doc q in
    let more = met_more definitions.should m (answers_of schema analyze doc cs) in
    let one = one_at_most m in
    let rest = few_met schema analyze doc cs in
    omega (arith, more, one, rest)
few_met schema analyze doc (definitions.clause definitions.must q cs) =
    let more = met_more definitions.must (matches schema analyze doc q) (answers_of schema analyze doc cs) in
    let rest = few_met schema analyze doc cs in
    omega (arith, more, rest)
few_met schema analyze doc (definitions.clause definitions.must_not q cs) =
    let more = met_more definitions.must_not (matches schema analyze doc q) (answers_of schema analyze doc cs) in
    let rest = few_met schema analyze doc cs in
    omega (arith, more, rest)

-- one more of as many
by_one : (m : Bool) (n met all : ℕ) (rest : Bool) → all ≡ cond m 1 0 + met → met ≤ n → nat_le n met ≡ rest → nat_le (1 + n) all ≡ (m && rest)
by_one true n met all rest is few same =
    let left : 1 + n ≡ suc n = omega arith in
    let right : all ≡ suc met = omega (arith, is) in
    ap₂ nat_le left right ∙ (leb-suc-suc n met ∙ same)
by_one false n met all rest is few same = lt-leb (1 + n) all (omega (arith, is, few))

-- as many as there are match where all do
pub all_if_met : (schema : Schema) (analyze : Analyzer) (doc : Document) (cs : Clauses) → nat_le (num_should cs) (count_by is_met_should (answers_of schema analyze doc cs)) ≡ all_met schema analyze doc cs
all_if_met schema analyze doc definitions.no_clauses = refl
all_if_met schema analyze doc (definitions.clause definitions.should q cs) =
    by_one (matches schema analyze doc q) (num_should cs) (count_by is_met_should (answers_of schema analyze doc cs)) _ (all_met schema analyze doc cs) (met_more definitions.should (matches schema analyze doc q) (answers_of schema analyze doc cs)) (few_met schema analyze doc cs) (all_if_met schema analyze doc cs)
all_if_met schema analyze doc (definitions.clause definitions.must q cs) =
    let same : count_by is_met_should (answers_of schema analyze doc (definitions.clause definitions.must q cs)) ≡ count_by is_met_should (answers_of schema analyze doc cs) = (let more = met_more definitions.must (matches schema analyze doc q) (answers_of schema analyze doc cs) in omega (arith, more)) in
    let none : 0 + num_should cs ≡ num_should cs = omega arith in
    ap₂ nat_le none same ∙ all_if_met schema analyze doc cs
all_if_met schema analyze doc (definitions.clause definitions.must_not q cs) =
    let same : count_by is_met_should (answers_of schema analyze doc (definitions.clause definitions.must_not q cs)) ≡ count_by is_met_should (answers_of schema analyze doc cs) = (let more = met_more definitions.must_not (matches schema analyze doc q) (answers_of schema analyze doc cs) in omega (arith, more)) in
    let none : 0 + num_should cs ≡ num_should cs = omega arith in
    ap₂ nat_le none same ∙ all_if_met schema analyze doc cs

move : (m a b : Bool) → (m && (a && b)) ≡ (a && (m && b))
move true true b = refl
move true false b = refl
move false true b = refl
move false false b = refl

group : (m a b : Bool) → (m && (a && b)) ≡ ((m && a) && b)
group true a b = refl
group false a b = refl

-- the clauses agree where they did, and all should clauses match
all_required : (schema : Schema) (analyze : Analyzer) (doc : Document) (cs : Clauses) → list_all agrees (answers_of schema analyze doc (required cs)) ≡ (list_all agrees (answers_of schema analyze doc cs) && all_met schema analyze doc cs)
all_required schema analyze doc definitions.no_clauses = refl
all_required schema analyze doc (definitions.clause definitions.should q cs) =
    ap (λ x. matches schema analyze doc q && x) (all_required schema analyze doc cs) ∙ move (matches schema analyze doc q) (list_all agrees (answers_of schema analyze doc cs)) (all_met schema analyze doc cs)
all_required schema analyze doc (definitions.clause definitions.must q cs) =
    ap (λ x. matches schema analyze doc q && x) (all_required schema analyze doc cs) ∙ group (matches schema analyze doc q) (list_all agrees (answers_of schema analyze doc cs)) (all_met schema analyze doc cs)
all_required schema analyze doc (definitions.clause definitions.must_not q cs) =
    ap (λ x. agrees (definitions.must_not, matches schema analyze doc q) && x) (all_required schema analyze doc cs) ∙ group (agrees (definitions.must_not, matches schema analyze doc q)) (list_all agrees (answers_of schema analyze doc cs)) (all_met schema analyze doc cs)

any_required : (schema : Schema) (analyze : Analyzer) (doc : Document) (cs : Clauses) → list_any (λ (a : Occur × Bool). is_counted a.0 && a.1) (answers_of schema analyze doc (required cs)) ≡ list_any (λ (a : Occur × Bool). is_counted a.0 && a.1) (answers_of schema analyze doc cs)
any_required schema analyze doc definitions.no_clauses = refl
any_required schema analyze doc (definitions.clause definitions.should q cs) = ap (λ x. matches schema analyze doc q || x) (any_required schema analyze doc cs)
any_required schema analyze doc (definitions.clause definitions.must q cs) = ap (λ x. matches schema analyze doc q || x) (any_required schema analyze doc cs)
any_required schema analyze doc (definitions.clause definitions.must_not q cs) = any_required schema analyze doc cs

scores_required : (schema : Schema) (analyze : Analyzer) (sim : Similarity) (doc : Document) (b : ℕ) (cs : Clauses) → clause_scores schema analyze sim doc b (required cs) ≡ clause_scores schema analyze sim doc b cs
scores_required schema analyze sim doc b definitions.no_clauses = refl
scores_required schema analyze sim doc b (definitions.clause definitions.should q cs) = ap (λ xs. (if matches schema analyze doc q then score schema analyze sim doc b q ∷ [] else []) ++ xs) (scores_required schema analyze sim doc b cs)
scores_required schema analyze sim doc b (definitions.clause definitions.must q cs) = ap (λ xs. (if matches schema analyze doc q then score schema analyze sim doc b q ∷ [] else []) ++ xs) (scores_required schema analyze sim doc b cs)
scores_required schema analyze sim doc b (definitions.clause definitions.must_not q cs) = scores_required schema analyze sim doc b cs

without_true : (a any : Bool) → ((a && true) && any) ≡ (a && any)
without_true true any = refl
without_true false any = refl

-- a bool whose should clauses all have to match
pub required_plan : (least : ℕ) (cs : Clauses) → least ≡ num_should cs → IsPlan 1 (definitions.boolean cs least) (definitions.boolean (required cs) 0)
required_plan least cs is = record {
  same_matches = λ schema analyze doc.
      let xs = answers_of schema analyze doc cs in
      let any = list_any (λ (a : Occur × Bool). is_counted a.0 && a.1) xs in
      ap₂ (λ x y. x && y) (ap₂ (λ x y. x && y) (all_required schema analyze doc cs) (leb-zero (count_by is_met_should (answers_of schema analyze doc (required cs))))) (any_required schema analyze doc cs)
      ∙ (without_true (list_all agrees xs && all_met schema analyze doc cs) any
      ∙ ap (λ m. (list_all agrees xs && m) && any) (sym (ap (λ n. nat_le n (count_by is_met_should xs)) is ∙ all_if_met schema analyze doc cs)));
  same_scores = λ schema analyze sim doc b holds.
      ap sum (scores_required schema analyze sim doc b cs)
      ∙ ap (λ n. sum (clause_scores schema analyze sim doc n cs)) (sym (mul-one b));
}

-- ---- how many should clauses there are

pub num_joined : (cs ds : Clauses) → num_should (joined cs ds) ≡ num_should cs + num_should ds
num_joined definitions.no_clauses ds = omega arith
num_joined (definitions.clause occur q cs) ds = let rest = num_joined cs ds in omega (arith, rest)

-- one clause more
pub next_should : (before all : List Clause) (c : Clause) (n m : ℕ) → all ≡ before ++ c ∷ [] → n ≡ num_should (clauses_of before) → m ≡ one_if_should (occur_of c.0) → n + m ≡ num_should (clauses_of all)
next_should before all c n m is so_far one =
    let both = ap (λ xs. num_should (clauses_of xs)) is ∙ (ap num_should (clauses_joined before (c ∷ [])) ∙ num_joined (clauses_of before) (clauses_of (c ∷ []))) in
    omega (arith, both, so_far, one)

pub one_should : (occur : Occur) → one_if_should occur ≤ 1
one_should definitions.should = omega arith
one_should definitions.must = omega arith
one_should definitions.must_not = omega arith

-- ---- clauses that are asked for as they are

as_they_are : (cs : Clauses) → asked_for false cs ≡ cs
as_they_are definitions.no_clauses = refl
as_they_are (definitions.clause occur q cs) = ap (definitions.clause occur q) (as_they_are cs)

pub same_asked : (cs ds : Clauses) (least boost : ℕ) → ArePlans least boost (asked_for false cs) ds → ArePlans least boost cs ds
same_asked cs ds least boost plans = subst (λ xs. ArePlans least boost xs ds) (as_they_are cs) plans
