-- Clauses that stand in place of one.
use Rattle.std.proofs.Common.{ap, ap₂, arith, count_by, le-leb, leb-true, length, map, nat_eq, nat_le, refl, subst, suc, sym, true, false, true≢false, zero, ◌&&◌, ◌*◌, ◌+◌, ◌++◌, ◌<◌, ◌||◌, ◌∙◌, ◌∷◌, ◌≡◌, ◌≤◌, [], Bool, List, if◌then◌else◌, ℕ}
use Rattle.std.specs.Prelude.{cond, not, sum}
use Rattle.std.specs.List.{list_all, list_any}
use Rattle.std.proofs.Math.Dec.{leb-zero}
use Rattle.std.proofs.Math.Bool.{and-true}
use Rattle.std.proofs.Math.Nat.{mul-one}
use Rattle.std.proofs.lemmas.Bool.{eq-eqb, leb-false, lt-leb}
use Rattle.definitions.specs.Analyzers.{Analyzer}
use Rattle.definitions.specs.Matching.{agrees, answers_of, bool_matches, is_counted, is_met_should, matches}
use Rattle.definitions.specs.Query as definitions
use Rattle.definitions.specs.Query.{Clauses, Occur, Query}
use Rattle.definitions.specs.Schema.{Schema}
use Rattle.definitions.specs.Scoring.{Similarity, clause_scores, score}
use Rattle.definitions.specs.Values.{Document}
use Rattle.query_plans.proofs.ClausePlans.{both_plans, both_true, clauses_joined, earned}
use Rattle.query_trees.proofs.Nodes.{Clause}
use Rattle.query_trees.specs.Queries.{clauses_of, occur_of, query_of}
use Rattle.query_trees.specs.declared.any_query.AnyQuery.{AnyQuery}
use Rattle.query_trees.specs.declared.occur.Occur.{Occur as AskedOccur}
use Rattle.query_plans.proofs.RequiredClauses.{met_more}
use Rattle.query_plans.specs.Plans.{ArePlans, each_asking, is_some, joined}

-- ---- what clauses that ask alike answer

abbrev pub all_match : Schema → Analyzer → Document → Clauses → Bool
all_match schema analyze doc definitions.no_clauses = true
all_match schema analyze doc (definitions.clause occur q cs) = matches schema analyze doc q && all_match schema analyze doc cs

abbrev pub some_matches : Schema → Analyzer → Document → Clauses → Bool
some_matches schema analyze doc definitions.no_clauses = false
some_matches schema analyze doc (definitions.clause occur q cs) = matches schema analyze doc q || some_matches schema analyze doc cs

musts_agree : (schema : Schema) (analyze : Analyzer) (doc : Document) (cs : Clauses) → list_all agrees (answers_of schema analyze doc (each_asking definitions.must cs)) ≡ all_match schema analyze doc cs
musts_agree schema analyze doc definitions.no_clauses = refl
musts_agree schema analyze doc (definitions.clause occur q cs) = ap (λ x. matches schema analyze doc q && x) (musts_agree schema analyze doc cs)

pub shoulds_agree : (schema : Schema) (analyze : Analyzer) (doc : Document) (cs : Clauses) → list_all agrees (answers_of schema analyze doc (each_asking definitions.should cs)) ≡ true
shoulds_agree schema analyze doc definitions.no_clauses = refl
shoulds_agree schema analyze doc (definitions.clause occur q cs) = shoulds_agree schema analyze doc cs

neither : (a b : Bool) → (not a && not b) ≡ not (a || b)
neither true b = refl
neither false b = refl

nots_agree : (schema : Schema) (analyze : Analyzer) (doc : Document) (cs : Clauses) → list_all agrees (answers_of schema analyze doc (each_asking definitions.must_not cs)) ≡ not (some_matches schema analyze doc cs)
nots_agree schema analyze doc definitions.no_clauses = refl
nots_agree schema analyze doc (definitions.clause occur q cs) = ap (λ x. not (matches schema analyze doc q) && x) (nots_agree schema analyze doc cs) ∙ neither (matches schema analyze doc q) (some_matches schema analyze doc cs)

no_must_met : (schema : Schema) (analyze : Analyzer) (doc : Document) (cs : Clauses) → count_by is_met_should (answers_of schema analyze doc (each_asking definitions.must cs)) ≡ 0
no_must_met schema analyze doc definitions.no_clauses = refl
no_must_met schema analyze doc (definitions.clause occur q cs) = met_more definitions.must (matches schema analyze doc q) (answers_of schema analyze doc (each_asking definitions.must cs)) ∙ ap (λ n. 0 + n) (no_must_met schema analyze doc cs)

no_not_met : (schema : Schema) (analyze : Analyzer) (doc : Document) (cs : Clauses) → count_by is_met_should (answers_of schema analyze doc (each_asking definitions.must_not cs)) ≡ 0
no_not_met schema analyze doc definitions.no_clauses = refl
no_not_met schema analyze doc (definitions.clause occur q cs) = met_more definitions.must_not (matches schema analyze doc q) (answers_of schema analyze doc (each_asking definitions.must_not cs)) ∙ ap (λ n. 0 + n) (no_not_met schema analyze doc cs)

one_met : (m s : Bool) (n all : ℕ) → all ≡ cond m 1 0 + n → nat_le 1 n ≡ s → nat_le 1 all ≡ (m || s)
one_met true s n all is rest = le-leb 1 all (omega (arith, is))
one_met false s n all is rest = let same : all ≡ n = omega (arith, is) in ap (nat_le 1) same ∙ rest

pub some_met : (schema : Schema) (analyze : Analyzer) (doc : Document) (cs : Clauses) → nat_le 1 (count_by is_met_should (answers_of schema analyze doc (each_asking definitions.should cs))) ≡ some_matches schema analyze doc cs
some_met schema analyze doc definitions.no_clauses = refl
some_met schema analyze doc (definitions.clause occur q cs) = one_met (matches schema analyze doc q) (some_matches schema analyze doc cs) (count_by is_met_should (answers_of schema analyze doc (each_asking definitions.should cs))) _ (met_more definitions.should (matches schema analyze doc q) (answers_of schema analyze doc (each_asking definitions.should cs))) (some_met schema analyze doc cs)

musts_count : (schema : Schema) (analyze : Analyzer) (doc : Document) (cs : Clauses) → list_any (λ (a : Occur × Bool). is_counted a.0 && a.1) (answers_of schema analyze doc (each_asking definitions.must cs)) ≡ some_matches schema analyze doc cs
musts_count schema analyze doc definitions.no_clauses = refl
musts_count schema analyze doc (definitions.clause occur q cs) = ap (λ x. matches schema analyze doc q || x) (musts_count schema analyze doc cs)

pub shoulds_count : (schema : Schema) (analyze : Analyzer) (doc : Document) (cs : Clauses) → list_any (λ (a : Occur × Bool). is_counted a.0 && a.1) (answers_of schema analyze doc (each_asking definitions.should cs)) ≡ some_matches schema analyze doc cs
shoulds_count schema analyze doc definitions.no_clauses = refl
shoulds_count schema analyze doc (definitions.clause occur q cs) = ap (λ x. matches schema analyze doc q || x) (shoulds_count schema analyze doc cs)

nots_count : (schema : Schema) (analyze : Analyzer) (doc : Document) (cs : Clauses) → list_any (λ (a : Occur × Bool). is_counted a.0 && a.1) (answers_of schema analyze doc (each_asking definitions.must_not cs)) ≡ false
nots_count schema analyze doc definitions.no_clauses = refl
nots_count schema analyze doc (definitions.clause occur q cs) = nots_count schema analyze doc cs

nots_score : (schema : Schema) (analyze : Analyzer) (sim : Similarity) (doc : Document) (b : ℕ) (cs : Clauses) → clause_scores schema analyze sim doc b (each_asking definitions.must_not cs) ≡ []
nots_score schema analyze sim doc b definitions.no_clauses = refl
nots_score schema analyze sim doc b (definitions.clause occur q cs) = nots_score schema analyze sim doc b cs

neither_true : (a b : Bool) → (a || b) ≡ false → (a ≡ false) × (b ≡ false)
neither_true true b is = absurd (true≢false is)
neither_true false b is = (refl, is)

none_score : (schema : Schema) (analyze : Analyzer) (sim : Similarity) (doc : Document) (b : ℕ) (cs : Clauses) → some_matches schema analyze doc cs ≡ false → clause_scores schema analyze sim doc b (each_asking definitions.should cs) ≡ []
none_score schema analyze sim doc b definitions.no_clauses none = refl
none_score schema analyze sim doc b (definitions.clause occur q cs) none =
    let both = neither_true (matches schema analyze doc q) (some_matches schema analyze doc cs) none in
    ap₂ (λ m xs. (if m then score schema analyze sim doc b q ∷ [] else []) ++ xs) both.0 (none_score schema analyze sim doc b cs both.1)

first_true : (m a s : Bool) → (m && a) ≡ true → (m || s) ≡ true
first_true true a s is = refl
first_true false a s is = absurd (true≢false (sym is))

some_of_all : (schema : Schema) (analyze : Analyzer) (doc : Document) (cs : Clauses) → is_some cs ≡ true → all_match schema analyze doc cs ≡ true → some_matches schema analyze doc cs ≡ true
some_of_all schema analyze doc definitions.no_clauses some all = absurd (true≢false (sym some))
some_of_all schema analyze doc (definitions.clause occur q cs) some all = first_true (matches schema analyze doc q) (all_match schema analyze doc cs) (some_matches schema analyze doc cs) all

all_and_some : (a s : Bool) → (a ≡ true → s ≡ true) → ((a && true) && s) ≡ a
all_and_some true s some = some refl
all_and_some false s some = refl

-- a bool of musts
musts_match : (schema : Schema) (analyze : Analyzer) (doc : Document) (cs : Clauses) → is_some cs ≡ true → matches schema analyze doc (definitions.boolean (each_asking definitions.must cs) 0) ≡ all_match schema analyze doc cs
musts_match schema analyze doc cs some =
    ap₂ (λ x y. x && y) (ap₂ (λ x y. x && y) (musts_agree schema analyze doc cs) (leb-zero (count_by is_met_should (answers_of schema analyze doc (each_asking definitions.must cs))))) (musts_count schema analyze doc cs)
    ∙ all_and_some (all_match schema analyze doc cs) (some_matches schema analyze doc cs) (some_of_all schema analyze doc cs some)

enough_and_some : (least n : ℕ) (s : Bool) → least ≤ 1 → nat_le 1 n ≡ s → ((true && nat_le least n) && s) ≡ s
enough_and_some least n false few is = never (nat_le least n)
  where
    never : (x : Bool) → ((true && x) && false) ≡ false
    never true = refl
    never false = refl
enough_and_some least n true few is = let one = leb-true 1 n is in ap (λ x. (true && x) && true) (le-leb least n (omega (arith, few, one)))

-- a bool of shoulds, of which one is enough
pub shoulds_match : (schema : Schema) (analyze : Analyzer) (doc : Document) (minimum : ℕ) (cs : Clauses) → minimum ≤ 1 → matches schema analyze doc (definitions.boolean (each_asking definitions.should cs) minimum) ≡ some_matches schema analyze doc cs
shoulds_match schema analyze doc minimum cs few =
    let n = count_by is_met_should (answers_of schema analyze doc (each_asking definitions.should cs)) in
    ap₂ (λ x y. (x && nat_le minimum n) && y) (shoulds_agree schema analyze doc cs) (shoulds_count schema analyze doc cs)
    ∙ enough_and_some minimum n (some_matches schema analyze doc cs) few (some_met schema analyze doc cs)

pub or_false : (m : Bool) → m ≡ (m || false)
or_false true = refl
or_false false = refl

-- ---- clauses in place of one

-- musts in place of one of a bool of them
pub musts_join : (least : ℕ) (cs : Clauses) → is_some cs ≡ true → ArePlans least 1 (definitions.clause definitions.must (definitions.boolean (each_asking definitions.must cs) 0) definitions.no_clauses) (each_asking definitions.must cs)
musts_join least cs some = record {
  agree = λ schema analyze doc. musts_agree schema analyze doc cs ∙ (sym (musts_match schema analyze doc cs some) ∙ sym (and-true (matches schema analyze doc (definitions.boolean (each_asking definitions.must cs) 0))));
  enough = λ schema analyze doc others. ap (λ n. nat_le least (others + n)) (no_must_met schema analyze doc cs);
  counted = λ schema analyze doc all.
      let met = (both_true _ _ all).0 in
      musts_count schema analyze doc cs
      ∙ (some_of_all schema analyze doc cs some (sym (musts_match schema analyze doc cs some) ∙ met)
      ∙ (sym met ∙ or_false (matches schema analyze doc (definitions.boolean (each_asking definitions.must cs) 0))));
  scores = λ schema analyze sim doc b all. earned schema analyze sim doc b (definitions.boolean (each_asking definitions.must cs) 0) (both_true _ _ all).0;
}

as_enough : (least others n : ℕ) (s : Bool) → least ≤ 1 → nat_le 1 n ≡ s → nat_le least (others + n) ≡ nat_le least (others + cond s 1 0)
as_enough least others n true few is =
    let one = leb-true 1 n is in
    le-leb least (others + n) (omega (arith, few, one)) ∙ sym (le-leb least (others + 1) (omega (arith, few)))
as_enough least others n false few is =
    let below = leb-false 1 n is in
    let none : others + n ≡ others + 0 = omega (arith, below) in
    ap (nat_le least) none

-- shoulds in place of one of a bool of them
pub shoulds_join : (least minimum : ℕ) (cs : Clauses) → minimum ≤ 1 → least ≤ 1 → ArePlans least 1 (definitions.clause definitions.should (definitions.boolean (each_asking definitions.should cs) minimum) definitions.no_clauses) (each_asking definitions.should cs)
shoulds_join least minimum cs few one = record {
  agree = λ schema analyze doc. shoulds_agree schema analyze doc cs;
  enough = λ schema analyze doc others.
      let m = matches schema analyze doc (definitions.boolean (each_asking definitions.should cs) minimum) in
      let alone : count_by is_met_should ((definitions.should, m) ∷ []) ≡ cond m 1 0 = (let more = met_more definitions.should m [] in omega (arith, more)) in
      as_enough least others _ (some_matches schema analyze doc cs) one (some_met schema analyze doc cs)
      ∙ (ap (λ x. nat_le least (others + cond x 1 0)) (sym (shoulds_match schema analyze doc minimum cs few))
      ∙ ap (λ n. nat_le least (others + n)) (sym alone));
  counted = λ schema analyze doc all. shoulds_count schema analyze doc cs ∙ (sym (shoulds_match schema analyze doc minimum cs few) ∙ or_false _);
  scores = λ schema analyze sim doc b all. by_match minimum cs few schema analyze sim doc b (matches schema analyze doc (definitions.boolean (each_asking definitions.should cs) minimum)) refl;
}
  where
    by_match : (minimum : ℕ) (cs : Clauses) → minimum ≤ 1 → (schema : Schema) (analyze : Analyzer) (sim : Similarity) (doc : Document) (b : ℕ) (m : Bool) → matches schema analyze doc (definitions.boolean (each_asking definitions.should cs) minimum) ≡ m → sum (clause_scores schema analyze sim doc b (each_asking definitions.should cs)) ≡ sum (clause_scores schema analyze sim doc (b * 1) (definitions.clause definitions.should (definitions.boolean (each_asking definitions.should cs) minimum) definitions.no_clauses))
    by_match minimum cs few schema analyze sim doc b true is = earned schema analyze sim doc b (definitions.boolean (each_asking definitions.should cs) minimum) is
    by_match minimum cs few schema analyze sim doc b false is =
        ap sum (none_score schema analyze sim doc b cs (sym (shoulds_match schema analyze doc minimum cs few) ∙ is))
        ∙ ap (λ m. sum ((if m then sum (clause_scores schema analyze sim doc (b * 1) (each_asking definitions.should cs)) ∷ [] else []) ++ [])) (sym is)

-- must nots in place of one of a bool of shoulds
pub nots_join : (least minimum : ℕ) (cs : Clauses) → minimum ≤ 1 → ArePlans least 1 (definitions.clause definitions.must_not (definitions.boolean (each_asking definitions.should cs) minimum) definitions.no_clauses) (each_asking definitions.must_not cs)
nots_join least minimum cs few = record {
  agree = λ schema analyze doc. nots_agree schema analyze doc cs ∙ (ap not (sym (shoulds_match schema analyze doc minimum cs few)) ∙ sym (and-true (not (matches schema analyze doc (definitions.boolean (each_asking definitions.should cs) minimum)))));
  enough = λ schema analyze doc others. ap (λ n. nat_le least (others + n)) (no_not_met schema analyze doc cs);
  counted = λ schema analyze doc all. nots_count schema analyze doc cs;
  scores = λ schema analyze sim doc b all. ap sum (nots_score schema analyze sim doc b cs);
}

-- ---- one after the other

-- clauses stand for themselves
pub themselves : (least : ℕ) (cs : Clauses) → ArePlans least 1 cs cs
themselves least cs = record {
  agree = λ schema analyze doc. refl;
  enough = λ schema analyze doc others. refl;
  counted = λ schema analyze doc all. refl;
  scores = λ schema analyze sim doc b all. ap (λ n. sum (clause_scores schema analyze sim doc n cs)) (sym (mul-one b));
}

-- what stands for clauses that stand for others
pub through : (least boost : ℕ) (cs ds es : Clauses) → ArePlans least 1 cs ds → ArePlans least boost ds es → ArePlans least boost cs es
through least boost cs ds es one two = record {
  agree = λ schema analyze doc. two.agree schema analyze doc ∙ one.agree schema analyze doc;
  enough = λ schema analyze doc others. two.enough schema analyze doc others ∙ one.enough schema analyze doc others;
  counted = λ schema analyze doc all. two.counted schema analyze doc (one.agree schema analyze doc ∙ all) ∙ one.counted schema analyze doc all;
  scores = λ schema analyze sim doc b all.
      two.scores schema analyze sim doc b (one.agree schema analyze doc ∙ all)
      ∙ (one.scores schema analyze sim doc (b * boost) all
      ∙ ap (λ n. sum (clause_scores schema analyze sim doc n cs)) (mul-one (b * boost)));
}

-- ---- clauses one by one

pub each_joined : (occur : Occur) (cs ds : Clauses) → each_asking occur (joined cs ds) ≡ joined (each_asking occur cs) (each_asking occur ds)
each_joined occur definitions.no_clauses ds = refl
each_joined occur (definitions.clause asks q cs) ds = ap (definitions.clause occur q) (each_joined occur cs ds)

pub joined_assoc : (cs ds es : Clauses) → joined (joined cs ds) es ≡ joined cs (joined ds es)
joined_assoc definitions.no_clauses ds es = refl
joined_assoc (definitions.clause occur q cs) ds es = ap (definitions.clause occur q) (joined_assoc cs ds es)

pub joined_none : (cs : Clauses) → joined cs definitions.no_clauses ≡ cs
joined_none definitions.no_clauses = refl
joined_none (definitions.clause occur q cs) = ap (definitions.clause occur q) (joined_none cs)

-- clauses in place of one behind others
pub in_place : (least boost : ℕ) (cs one several es : Clauses) → ArePlans least 1 one several → ArePlans least boost (joined cs several) es → ArePlans least boost (joined cs one) es
in_place least boost cs one several es joins plans = through least boost (joined cs one) (joined cs several) es (both_plans least 1 cs cs one several (themselves least cs) joins) plans

-- one clause more that asks alike
pub one_more_alike : (occur : Occur) (before now : List Clause) (c : Clause) → now ≡ before ++ c ∷ [] → each_asking occur (clauses_of now) ≡ joined (each_asking occur (clauses_of before)) (definitions.clause occur (query_of c.1) definitions.no_clauses)
one_more_alike occur before now c is = ap (λ xs. each_asking occur (clauses_of xs)) is ∙ (ap (each_asking occur) (clauses_joined before (c ∷ [])) ∙ each_joined occur (clauses_of before) (clauses_of (c ∷ [])))

-- clauses that ask alike, one more
pub alike_more : (occur : Occur) (before now : List Clause) (c : Clause) → now ≡ before ++ c ∷ [] → occur_of c.0 ≡ occur → clauses_of before ≡ each_asking occur (clauses_of before) → clauses_of now ≡ each_asking occur (clauses_of now)
alike_more occur before now c is asks alike =
    let last : clauses_of (c ∷ []) ≡ definitions.clause occur (query_of c.1) definitions.no_clauses = ap (λ o. definitions.clause o (query_of c.1) definitions.no_clauses) asks in
    ap clauses_of is ∙ (clauses_joined before (c ∷ []) ∙ (ap₂ joined alike last ∙ sym (one_more_alike occur before now c is)))

-- one clause pushed behind others
pub pushed : (least : ℕ) (old now : List Clause) (occur : AskedOccur) (q r : AnyQuery) → q ≡ r → now ≡ old ++ (occur, r) ∷ [] → ArePlans least 1 (joined (clauses_of old) (definitions.clause (occur_of occur) (query_of q) definitions.no_clauses)) (clauses_of now)
pushed least old now occur q r same is =
    subst (λ xs. ArePlans least 1 (joined (clauses_of old) (definitions.clause (occur_of occur) (query_of q) definitions.no_clauses)) xs) (sym (ap clauses_of is ∙ clauses_joined old ((occur, r) ∷ [])))
    (subst (λ x. ArePlans least 1 (joined (clauses_of old) (definitions.clause (occur_of occur) (query_of x) definitions.no_clauses)) (joined (clauses_of old) (definitions.clause (occur_of occur) (query_of r) definitions.no_clauses))) (sym same) (themselves least (joined (clauses_of old) (definitions.clause (occur_of occur) (query_of r) definitions.no_clauses))))

-- the clauses of a bool pushed behind others
pub opened : (least : ℕ) (old now inner : Clauses) (occur : Occur) (q : Query) (minimum : ℕ) → q ≡ definitions.boolean inner minimum → ArePlans least 1 (definitions.clause occur (definitions.boolean inner minimum) definitions.no_clauses) (each_asking occur inner) → now ≡ joined old (each_asking occur inner) → ArePlans least 1 (joined old (definitions.clause occur q definitions.no_clauses)) now
opened least old now inner occur q minimum is joins are =
    subst (λ xs. ArePlans least 1 (joined old (definitions.clause occur q definitions.no_clauses)) xs) (sym are)
    (subst (λ x. ArePlans least 1 (joined old (definitions.clause occur x definitions.no_clauses)) (joined old (each_asking occur inner))) (sym is)
    (both_plans least 1 old old (definitions.clause occur (definitions.boolean inner minimum) definitions.no_clauses) (each_asking occur inner) (themselves least old) joins))

-- the queries of clauses, each asked for as is said
pub each_asked : (occur : AskedOccur) (cs : List Clause) → clauses_of (map (λ (c : Clause). (occur, c.1)) cs) ≡ each_asking (occur_of occur) (clauses_of cs)
each_asked occur [] = refl
each_asked occur (c ∷ cs) = ap (definitions.clause (occur_of occur) (query_of c.1)) (each_asked occur cs)

pub some_clause : (cs : List Clause) (n : ℕ) → n ≡ length cs → nat_eq n 0 ≡ false → is_some (clauses_of cs) ≡ true
some_clause [] n is some = absurd (true≢false (sym (eq-eqb n 0 is) ∙ some))
some_clause (c ∷ cs) n is some = refl
