-- Clauses that stand for others.
use Rattle.std.proofs.Common.{ap, ap₂, arith, get_or, length, true≢false, ◌==◌, count_by, nat_le, refl, subst, sym, true, false, ◌&&◌, ◌*◌, ◌+◌, ◌++◌, ◌||◌, ◌∙◌, ◌∷◌, ◌≡◌, [], append_assoc, Bool, List, if◌then◌else◌, ℕ}
use Rattle.std.specs.Prelude.{cond, sum}
use Rattle.std.specs.List.{list_all, list_any}
use Rattle.std.proofs.Math.Nat.{mul-one}
use Rattle.std.proofs.lemmas.Bool.{eqb-true}
use Rattle.std.proofs.lemmas.List.Folds.{list_all-append, list_any-append}
use Rattle.std.proofs.lemmas.List.Sums.{sum_by-append}
use Rattle.definitions.specs.Analyzers.{Analyzer}
use Rattle.definitions.specs.Matching.{agrees, answers_of, bool_matches, is_counted, is_met_should, matches}
use Rattle.definitions.specs.Query as definitions
use Rattle.definitions.specs.Query.{Clauses, Occur, Query}
use Rattle.definitions.specs.Schema.{Schema}
use Rattle.definitions.specs.Scoring.{Similarity, clause_scores, score}
use Rattle.definitions.specs.Values.{Document}
use Rattle.query_plans.proofs.PlanLaws.{one_sum, score_if_met}
use Rattle.query_plans.specs.Plans.{ArePlans, IsPlan, asked_for, asked_occur, is_itself, joined}
use Rattle.query_trees.specs.Queries.{clauses_of, occur_of, query_of}
use Rattle.query_trees.proofs.Nodes.{Clause}

-- ---- clauses behind others

pub clauses_joined : (xs ys : List Clause) → clauses_of (xs ++ ys) ≡ joined (clauses_of xs) (clauses_of ys)
clauses_joined [] ys = refl
clauses_joined (x ∷ xs) ys = ap (definitions.clause (occur_of x.0) (query_of x.1)) (clauses_joined xs ys)

answers_joined : (schema : Schema) (analyze : Analyzer) (doc : Document) (cs ds : Clauses) → answers_of schema analyze doc (joined cs ds) ≡ answers_of schema analyze doc cs ++ answers_of schema analyze doc ds
answers_joined schema analyze doc definitions.no_clauses ds = refl
answers_joined schema analyze doc (definitions.clause occur q cs) ds = ap (λ xs. (occur, matches schema analyze doc q) ∷ xs) (answers_joined schema analyze doc cs ds)

sum_joined : (xs ys : List ℕ) → sum (xs ++ ys) ≡ sum xs + sum ys
sum_joined xs ys = sum_by-append (λ n. n) xs ys

all_scores : (schema : Schema) (analyze : Analyzer) (sim : Similarity) (doc : Document) (b : ℕ) (cs ds : Clauses) → clause_scores schema analyze sim doc b (joined cs ds) ≡ clause_scores schema analyze sim doc b cs ++ clause_scores schema analyze sim doc b ds
all_scores schema analyze sim doc b definitions.no_clauses ds = refl
all_scores schema analyze sim doc b (definitions.clause occur q cs) ds =
    let own = if is_counted occur && matches schema analyze doc q then score schema analyze sim doc b q ∷ [] else [] in
    ap (λ xs. own ++ xs) (all_scores schema analyze sim doc b cs ds) ∙ sym (append_assoc own (clause_scores schema analyze sim doc b cs) (clause_scores schema analyze sim doc b ds))

pub scores_joined : (schema : Schema) (analyze : Analyzer) (sim : Similarity) (doc : Document) (b : ℕ) (cs ds : Clauses) → sum (clause_scores schema analyze sim doc b (joined cs ds)) ≡ sum (clause_scores schema analyze sim doc b cs) + sum (clause_scores schema analyze sim doc b ds)
scores_joined schema analyze sim doc b cs ds = ap sum (all_scores schema analyze sim doc b cs ds) ∙ sum_joined (clause_scores schema analyze sim doc b cs) (clause_scores schema analyze sim doc b ds)

pub count_joined : {X : Type 0} (p : X → Bool) (xs ys : List X) → count_by p (xs ++ ys) ≡ count_by p xs + count_by p ys
count_joined p xs ys = sum_by-append (λ x. cond (p x) 1 0) xs ys

pub both_true : (a b : Bool) → (a && b) ≡ true → (a ≡ true) × (b ≡ true)
both_true true true is = (refl, refl)
both_true true false is = (refl, is)
both_true false b is = (is, absurd (true≢false (sym is)))

-- ---- plans of clauses

-- no clause stands for none
pub no_plans : (least boost : ℕ) → ArePlans least boost definitions.no_clauses definitions.no_clauses
no_plans least boost = record {
  agree = λ schema analyze doc. refl;
  enough = λ schema analyze doc others. refl;
  counted = λ schema analyze doc agree. refl;
  scores = λ schema analyze sim doc b agree. refl;
}

pub all_joined : (schema : Schema) (analyze : Analyzer) (doc : Document) (cs ds : Clauses) → list_all agrees (answers_of schema analyze doc (joined cs ds)) ≡ (list_all agrees (answers_of schema analyze doc cs) && list_all agrees (answers_of schema analyze doc ds))
all_joined schema analyze doc cs ds = ap (list_all agrees) (answers_joined schema analyze doc cs ds) ∙ list_all-append agrees (answers_of schema analyze doc cs) (answers_of schema analyze doc ds)

pub any_joined : (schema : Schema) (analyze : Analyzer) (doc : Document) (cs ds : Clauses) → list_any (λ a. is_counted a.0 && a.1) (answers_of schema analyze doc (joined cs ds)) ≡ (list_any (λ a. is_counted a.0 && a.1) (answers_of schema analyze doc cs) || list_any (λ a. is_counted a.0 && a.1) (answers_of schema analyze doc ds))
any_joined schema analyze doc cs ds = ap (list_any (λ a. is_counted a.0 && a.1)) (answers_joined schema analyze doc cs ds) ∙ list_any-append (λ a. is_counted a.0 && a.1) (answers_of schema analyze doc cs) (answers_of schema analyze doc ds)

pub met_joined : (schema : Schema) (analyze : Analyzer) (doc : Document) (cs ds : Clauses) → count_by is_met_should (answers_of schema analyze doc (joined cs ds)) ≡ count_by is_met_should (answers_of schema analyze doc cs) + count_by is_met_should (answers_of schema analyze doc ds)
met_joined schema analyze doc cs ds = ap (count_by is_met_should) (answers_joined schema analyze doc cs ds) ∙ count_joined is_met_should (answers_of schema analyze doc cs) (answers_of schema analyze doc ds)

-- plans of some clauses and of those behind them
pub both_plans : (least boost : ℕ) (cs ds cs2 ds2 : Clauses) → ArePlans least boost cs ds → ArePlans least boost cs2 ds2 → ArePlans least boost (joined cs cs2) (joined ds ds2)
both_plans least boost cs ds cs2 ds2 one two = record {
  agree = λ schema analyze doc.
      all_joined schema analyze doc ds ds2
      ∙ (ap₂ (λ x y. x && y) (one.agree schema analyze doc) (two.agree schema analyze doc)
      ∙ sym (all_joined schema analyze doc cs cs2));
  enough = λ schema analyze doc others.
      let n = count_by is_met_should (answers_of schema analyze doc ds) in
      let n2 = count_by is_met_should (answers_of schema analyze doc ds2) in
      let m = count_by is_met_should (answers_of schema analyze doc cs) in
      let m2 = count_by is_met_should (answers_of schema analyze doc cs2) in
      let first : others + (n + n2) ≡ others + n2 + n = omega arith in
      let second : others + n2 + m ≡ others + m + n2 = omega arith in
      let third : others + m + m2 ≡ others + (m + m2) = omega arith in
      ap (λ x. nat_le least (others + x)) (met_joined schema analyze doc ds ds2)
      ∙ (ap (nat_le least) first
      ∙ (one.enough schema analyze doc (others + n2)
      ∙ (ap (nat_le least) second
      ∙ (two.enough schema analyze doc (others + m)
      ∙ (ap (nat_le least) third
      ∙ sym (ap (λ x. nat_le least (others + x)) (met_joined schema analyze doc cs cs2)))))));
  counted = λ schema analyze doc all.
      let both = both_true _ _ (sym (all_joined schema analyze doc cs cs2) ∙ all) in
      any_joined schema analyze doc ds ds2
      ∙ (ap₂ (λ x y. x || y) (one.counted schema analyze doc both.0) (two.counted schema analyze doc both.1)
      ∙ sym (any_joined schema analyze doc cs cs2));
  scores = λ schema analyze sim doc b all.
      let both = both_true _ _ (sym (all_joined schema analyze doc cs cs2) ∙ all) in
      scores_joined schema analyze sim doc b ds ds2
      ∙ (ap₂ (λ x y. x + y) (one.scores schema analyze sim doc b both.0) (two.scores schema analyze sim doc b both.1)
      ∙ sym (scores_joined schema analyze sim doc (b * boost) cs cs2));
}

-- the scores of one clause
one_scores : (occur : Occur) (boost : ℕ) (q p : Query) → IsPlan (if is_counted occur then boost else 1) q p → (schema : Schema) (analyze : Analyzer) (sim : Similarity) (doc : Document) (b : ℕ) → sum (clause_scores schema analyze sim doc b (definitions.clause occur p definitions.no_clauses)) ≡ sum (clause_scores schema analyze sim doc (b * boost) (definitions.clause occur q definitions.no_clauses))
one_scores definitions.must boost q p plan schema analyze sim doc b = ap (λ xs. sum (xs ++ [])) (score_if_met boost q p plan schema analyze sim doc b)
one_scores definitions.should boost q p plan schema analyze sim doc b = ap (λ xs. sum (xs ++ [])) (score_if_met boost q p plan schema analyze sim doc b)
one_scores definitions.must_not boost q p plan schema analyze sim doc b = refl

-- one clause stands for another that asks the same
pub one_plan : (least boost : ℕ) (occur : Occur) (q p : Query) → IsPlan (if is_counted occur then boost else 1) q p → ArePlans least boost (definitions.clause occur q definitions.no_clauses) (definitions.clause occur p definitions.no_clauses)
one_plan least boost occur q p plan = record {
  agree = λ schema analyze doc. ap (λ m. list_all agrees ((occur, m) ∷ [])) (plan.same_matches schema analyze doc);
  enough = λ schema analyze doc others. ap (λ m. nat_le least (others + count_by is_met_should ((occur, m) ∷ []))) (plan.same_matches schema analyze doc);
  counted = λ schema analyze doc all. ap (λ m. list_any (λ (a : Occur × Bool). is_counted a.0 && a.1) ((occur, m) ∷ [])) (plan.same_matches schema analyze doc);
  scores = λ schema analyze sim doc b all. one_scores occur boost q p plan schema analyze sim doc b;
}

-- a bool of plans
pub bool_plan : (least boost : ℕ) (cs ds : Clauses) → ArePlans least boost cs ds → IsPlan boost (definitions.boolean cs least) (definitions.boolean ds least)
bool_plan least boost cs ds plans = record {
  same_matches = λ schema analyze doc.
      let xs = answers_of schema analyze doc ds in
      let ys = answers_of schema analyze doc cs in
      let enough : nat_le least (count_by is_met_should xs) ≡ nat_le least (count_by is_met_should ys) = ap (nat_le least) (sym (from_zero (count_by is_met_should xs))) ∙ (plans.enough schema analyze doc 0 ∙ ap (nat_le least) (from_zero (count_by is_met_should ys))) in
      together _ _ _ _ _ _ (plans.agree schema analyze doc) enough (plans.counted schema analyze doc);
  same_scores = λ schema analyze sim doc b holds. plans.scores schema analyze sim doc b (both_true _ _ (both_true _ _ holds).0).0;
}
  where
    from_zero : (n : ℕ) → 0 + n ≡ n
    from_zero n = omega arith

    together : (a e c x f d : Bool) → a ≡ x → e ≡ f → (x ≡ true → c ≡ d) → (a && e && c) ≡ (x && f && d)
    together a e c true f d same enough counted = ap₂ (λ m n. m && n) (ap₂ (λ m n. m && n) same enough) (counted refl)
    together a e c false f d same enough counted = ap₂ (λ m n. m && n && c) same enough

-- what is asked of clauses behind others
asked_joined : (all : Bool) (cs ds : Clauses) → asked_for all (joined cs ds) ≡ joined (asked_for all cs) (asked_for all ds)
asked_joined all definitions.no_clauses ds = refl
asked_joined all (definitions.clause occur q cs) ds = ap (definitions.clause (asked_occur all occur) q) (asked_joined all cs ds)

-- what stands for plans of clauses
pub then_plans : (least boost : ℕ) (cs ds es : Clauses) → ArePlans least boost cs ds → ArePlans least 1 ds es → ArePlans least boost cs es
then_plans least boost cs ds es one two = record {
  agree = λ schema analyze doc. two.agree schema analyze doc ∙ one.agree schema analyze doc;
  enough = λ schema analyze doc others. two.enough schema analyze doc others ∙ one.enough schema analyze doc others;
  counted = λ schema analyze doc all. two.counted schema analyze doc (one.agree schema analyze doc ∙ all) ∙ one.counted schema analyze doc all;
  scores = λ schema analyze sim doc b all.
      two.scores schema analyze sim doc b (one.agree schema analyze doc ∙ all)
      ∙ (ap (λ n. sum (clause_scores schema analyze sim doc n ds)) (mul-one b)
      ∙ one.scores schema analyze sim doc b all);
}

-- one clause more
pub more_plans : (least boost : ℕ) (all : Bool) (before now : List Clause) (ds next : Clauses) (c : Clause) (occur : Occur) (p : Query) → now ≡ before ++ c ∷ [] → occur ≡ asked_occur all (occur_of c.0) → ArePlans least boost (asked_for all (clauses_of before)) ds → IsPlan (if is_counted occur then boost else 1) (query_of c.1) p → ArePlans least 1 (joined ds (definitions.clause occur p definitions.no_clauses)) next → ArePlans least boost (asked_for all (clauses_of now)) next
more_plans least boost all before now ds next c occur p is same plans plan rest =
    let one = subst (λ o. ArePlans least boost (definitions.clause o (query_of c.1) definitions.no_clauses) (definitions.clause occur p definitions.no_clauses)) same (one_plan least boost occur (query_of c.1) p plan) in
    subst (λ xs. ArePlans least boost xs next) (sym (ap (λ xs. asked_for all (clauses_of xs)) is ∙ (ap (asked_for all) (clauses_joined before (c ∷ [])) ∙ asked_joined all (clauses_of before) (clauses_of (c ∷ [])))))
    (then_plans least boost (joined (asked_for all (clauses_of before)) (asked_for all (clauses_of (c ∷ [])))) (joined ds (definitions.clause occur p definitions.no_clauses)) next
    (both_plans least boost (asked_for all (clauses_of before)) ds (asked_for all (clauses_of (c ∷ []))) (definitions.clause occur p definitions.no_clauses) plans one) rest)

-- ---- a clause alone

pub earned : (schema : Schema) (analyze : Analyzer) (sim : Similarity) (doc : Document) (b : ℕ) (q : Query) → matches schema analyze doc q ≡ true → score schema analyze sim doc b q ≡ sum ((if matches schema analyze doc q then score schema analyze sim doc (b * 1) q ∷ [] else []) ++ [])
earned schema analyze sim doc b q met =
    ap (λ n. score schema analyze sim doc n q) (sym (mul-one b))
    ∙ (sym (one_sum (score schema analyze sim doc (b * 1) q))
    ∙ ap (λ m. sum ((if m then score schema analyze sim doc (b * 1) q ∷ [] else []) ++ [])) (sym met))

all_zero : (least : ℕ) → (least == 0) ≡ true → nat_le least 0 ≡ true
all_zero least is = ap (λ n. nat_le n 0) (eqb-true least 0 is)

never : (x : Bool) → false ≡ (x && false)
never true = refl
never false = refl

matched : (least : ℕ) (occur : Occur) (m : Bool) → is_itself least occur ≡ true → m ≡ bool_matches least ((occur, m) ∷ [])
matched least definitions.must true is = sym (ap (λ x. x && true) (all_zero least is))
matched least definitions.must false is = refl
matched least definitions.should true is = sym (ap (λ x. x && true) is)
matched least definitions.should false is = never (nat_le least 0)
matched least definitions.must_not m is = absurd (true≢false (sym is))

scored : (least : ℕ) (occur : Occur) (schema : Schema) (analyze : Analyzer) (sim : Similarity) (doc : Document) (b : ℕ) (q : Query) → is_itself least occur ≡ true → matches schema analyze doc q ≡ true → score schema analyze sim doc b q ≡ sum (clause_scores schema analyze sim doc (b * 1) (definitions.clause occur q definitions.no_clauses))
scored least definitions.must schema analyze sim doc b q is met = earned schema analyze sim doc b q met
scored least definitions.should schema analyze sim doc b q is met = earned schema analyze sim doc b q met
scored least definitions.must_not schema analyze sim doc b q is met = absurd (true≢false (sym is))

-- a bool of one clause that asks what its query does
pub alone : (least : ℕ) (occur : Occur) (q : Query) → is_itself least occur ≡ true → IsPlan 1 (definitions.boolean (definitions.clause occur q definitions.no_clauses) least) q
alone least occur q is = record {
  same_matches = λ schema analyze doc. matched least occur (matches schema analyze doc q) is;
  same_scores = λ schema analyze sim doc b holds. scored least occur schema analyze sim doc b q is (matched least occur (matches schema analyze doc q) is ∙ holds);
}

-- a list of one clause
pub only : (cs : List Clause) (c : Clause) → length cs ≡ 1 → c ≡ get_or cs 0 c → cs ≡ c ∷ []
only [] c one is = absurd (omega (arith, one))
only (d ∷ []) c one is = ap (λ x. x ∷ []) (sym is)
only (d ∷ e ∷ cs) c one is = absurd (omega (arith, one))
