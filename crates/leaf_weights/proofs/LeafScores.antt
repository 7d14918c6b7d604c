-- What the weights of queries that hold no other answer.
use Rattle.std.proofs.Common.{[], Bool, Err, IfNone, IfOk, IfSome, List, None, Ok, Option, Result, Some, ap, arith, false, filter_map, if◌then◌else◌, le_trans, length, refl, true, ◌==◌, suc, sym, zero, ◌*◌, ◌+◌, ◌∙◌, ◌∷◌, ◌≡◌, ◌≤◌, ℕ}
use Rattle.std.proofs.Math.Nat.{mul-le-mul_right}
use Rattle.std.proofs.lemmas.Bool.Decides.{nat_tests}
use Rattle.std.proofs.lemmas.List.Sums.{sum_by-cons}
use Rattle.docsets.specs.Entries.{Entry, from}
use Rattle.definitions.specs.Analyzers.{Analyzer}
use Rattle.definitions.specs.Answers.{answer_at, answers}
use Rattle.definitions.specs.Matching.{matches}
use Rattle.definitions.specs.Phrases.{whole_terms}
use Rattle.definitions.specs.Query.{Query, Terms, phrase, phrase_prefix}
use Rattle.std.specs.List.{cons_option, enumerate_from}
use Rattle.definitions.specs.Refusing.{bound, tree_fault}
use Rattle.definitions.specs.Schema.{Schema}
use Rattle.definitions.specs.ScoredLists.{ScoredList}
use Rattle.definitions.specs.Scoring.{Similarity, max_score, phrase_score, prefix_score, score, weight_sum}
use Rattle.definitions.specs.Values.{Document}
use Rattle.docsets.specs.ScoredEntries.{greatest_score, pairs_of}
use Rattle.query_scorers.specs.Scores.{Scores}
use Rattle.leaf_weights.specs.PlacedAnswers.{whole_weight}
use Rattle.query_scorers.proofs.FormScores.{none_scores}
use Rattle.segment_reader.specs.SegmentReaders.{StandsFor, max_doc_of}
use Rattle.segment_reader.specs.declared.segment_reader.SegmentReader.{SegmentReader}
use Rattle.leaf_weights.specs.Weighed.{under}

-- under no boost weights tell nothing
zero_times : (x y : ℕ) → 0 * x ≡ 0 * y
zero_times x y = omega arith

answers_by : (schema : Schema) (analyze : Analyzer) (sim other : Similarity) (b : ℕ) (q : Query) → ((doc : Document) → score schema analyze sim doc b q ≡ score schema analyze other doc b q) → (n : ℕ) (docs : List Document) → filter_map (answer_at schema analyze sim b q) (enumerate_from n docs) ≡ filter_map (answer_at schema analyze other b q) (enumerate_from n docs)
answers_by schema analyze sim other b q same n [] = refl
answers_by schema analyze sim other b q same n (doc ∷ docs) = go (matches schema analyze doc q) (answers_by schema analyze sim other b q same (n + 1) docs)
  where
    go : (m : Bool) → filter_map (answer_at schema analyze sim b q) (enumerate_from (n + 1) docs) ≡ filter_map (answer_at schema analyze other b q) (enumerate_from (n + 1) docs) → cons_option (if m then Some (n, score schema analyze sim doc b q) else None) (filter_map (answer_at schema analyze sim b q) (enumerate_from (n + 1) docs)) ≡ cons_option (if m then Some (n, score schema analyze other doc b q) else None) (filter_map (answer_at schema analyze other b q) (enumerate_from (n + 1) docs))
    go true rest = ap (λ s. (n, s) ∷ filter_map (answer_at schema analyze sim b q) (enumerate_from (n + 1) docs)) (same doc) ∙ ap (λ ps. (n, score schema analyze other doc b q) ∷ ps) rest
    go false rest = rest

pub phrase_answers_same : (schema : Schema) (analyze : Analyzer) (sim : Similarity) (b : ℕ) (ts : Terms) (slop : ℕ) (docs : List Document) → answers schema analyze (under b sim) b (phrase ts slop) docs ≡ answers schema analyze sim b (phrase ts slop) docs
phrase_answers_same schema analyze sim zero ts slop docs = answers_by schema analyze (under 0 sim) sim 0 (phrase ts slop) (λ doc. zero_times (phrase_score schema analyze (under 0 sim) doc ts slop) (phrase_score schema analyze sim doc ts slop)) 0 docs
phrase_answers_same schema analyze sim (suc b) ts slop docs = refl

pub prefix_answers_same : (schema : Schema) (analyze : Analyzer) (sim : Similarity) (b : ℕ) (ts : Terms) (limit : ℕ) (docs : List Document) → answers schema analyze (under b sim) b (phrase_prefix ts limit) docs ≡ answers schema analyze sim b (phrase_prefix ts limit) docs
prefix_answers_same schema analyze sim zero ts limit docs = answers_by schema analyze (under 0 sim) sim 0 (phrase_prefix ts limit) (λ doc. zero_times (prefix_score schema analyze (under 0 sim) doc (whole_terms ts)) (prefix_score schema analyze sim doc (whole_terms ts))) 0 docs
prefix_answers_same schema analyze sim (suc b) ts limit docs = refl

-- nor do they change a bound
pub weighs_same : (sim : Similarity) (b : ℕ) (ts : Terms) → b * weight_sum (under b sim).weight ts ≡ b * weight_sum sim.weight ts
weighs_same sim zero ts = zero_times (weight_sum (under 0 sim).weight ts) (weight_sum sim.weight ts)
weighs_same sim (suc b) ts = refl

-- ---- from what a weight says to what a query answers

module _ {X : Type 0} (entries : X → List Entry) where
  -- the same answers by another name
  pub some_same : (o : Option X) (ps rs : ScoredList) → ps ≡ rs → IfSome o (λ x. pairs_of (entries x) ≡ ps) → IfSome o (λ x. pairs_of (entries x) ≡ rs)
  some_same None ps rs same h = tt
  some_same (Some x) ps rs same h = h ∙ same

  pub ok_some_same : {E : Type 0} (res : Result (Option X) E) (ps rs : ScoredList) → ps ≡ rs → IfOk res (λ o. IfSome o (λ x. pairs_of (entries x) ≡ ps)) → IfOk res (λ o. IfSome o (λ x. pairs_of (entries x) ≡ rs))
  ok_some_same (Ok o) ps rs same h = some_same o ps rs same h
  ok_some_same (Err e) ps rs same h = tt

  module _ (sim : Similarity) (b : ℕ) (q : Query) (r : SegmentReader) where
    pub some_scores : (o : Option X) (most : ℕ) → ((schema : Schema) (analyze : Analyzer) (docs : List Document) → StandsFor schema analyze docs r → tree_fault schema sim.weight b q ≡ None → IfSome o (λ x. pairs_of (entries x) ≡ answers schema analyze sim b q docs)) → IfSome o (λ x. from (max_doc_of r) (entries x) ≡ []) → IfSome o (λ x. greatest_score (entries x) ≤ most) → most ≡ bound sim.weight b q → IfSome o (λ x. Scores sim b q r (entries x))
    some_scores None most said within bounded is = tt
    some_scores (Some x) most said within bounded is = record { answers_are = said; within = within; bounded = omega (arith, bounded, is) }

    pub ok_some_scores : {E : Type 0} (res : Result (Option X) E) (most : ℕ) → ((schema : Schema) (analyze : Analyzer) (docs : List Document) → StandsFor schema analyze docs r → tree_fault schema sim.weight b q ≡ None → IfOk res (λ o. IfSome o (λ x. pairs_of (entries x) ≡ answers schema analyze sim b q docs))) → IfOk res (λ o. IfSome o (λ x. from (max_doc_of r) (entries x) ≡ [])) → IfOk res (λ o. IfSome o (λ x. greatest_score (entries x) ≤ most)) → most ≡ bound sim.weight b q → IfOk res (λ o. IfSome o (λ x. Scores sim b q r (entries x)))
    ok_some_scores (Ok o) most said within bounded is = some_scores o most said within bounded is
    ok_some_scores (Err e) most said within bounded is = tt

module _ {X : Type 0} (sim : Similarity) (b : ℕ) (q : Query) (r : SegmentReader) where
  pub nothing_scores : (o : Option X) → ((schema : Schema) (analyze : Analyzer) (docs : List Document) → StandsFor schema analyze docs r → IfNone o (answers schema analyze sim b q docs ≡ [])) → IfNone o (Scores sim b q r [])
  nothing_scores (Some x) lack = tt
  nothing_scores None lack = none_scores sim b q r [] refl (λ schema analyze docs stands passes. lack schema analyze docs stands)

  pub ok_nothing_scores : {E : Type 0} (res : Result (Option X) E) → ((schema : Schema) (analyze : Analyzer) (docs : List Document) → StandsFor schema analyze docs r → IfOk res (λ o. IfNone o (answers schema analyze sim b q docs ≡ []))) → IfOk res (λ o. IfNone o (Scores sim b q r []))
  ok_nothing_scores (Ok o) lack = nothing_scores o lack
  ok_nothing_scores (Err e) lack = tt

pub none_same : {X : Type 0} (o : Option X) (ps rs : ScoredList) → ps ≡ rs → IfNone o (ps ≡ []) → IfNone o (rs ≡ [])
none_same None ps rs same h = sym same ∙ h
none_same (Some x) ps rs same h = tt

pub ok_none_same : {X E : Type 0} (res : Result (Option X) E) (ps rs : ScoredList) → ps ≡ rs → IfOk res (λ o. IfNone o (ps ≡ [])) → IfOk res (λ o. IfNone o (rs ≡ []))
ok_none_same (Ok o) ps rs same h = none_same o ps rs same h
ok_none_same (Err e) ps rs same h = tt

-- ---- weights under a boost

le_times : (b n : ℕ) → n ≤ suc b * n
le_times b n = let one : 1 * n ≤ suc b * n = mul-le-mul_right n (omega arith) in omega (arith, one)

no_weight : (sim : Similarity) (ts : Terms) → weight_sum (under 0 sim).weight ts ≡ 0
no_weight sim [] = refl
no_weight sim (t ∷ ts) =
    let more = sum_by-cons (λ (t : ℕ × List ℕ). 0) t ts in
    let rest = no_weight sim ts in
    omega (arith, more, rest)

pub weighs_nothing : (sim : Similarity) (b : ℕ) (ts : Terms) → b ≡ 0 → 0 ≡ weight_sum (under b sim).weight ts
weighs_nothing sim b ts none = sym (ap (λ n. weight_sum (under n sim).weight ts) none ∙ no_weight sim ts)

-- they are small where the product is
pub small_under : (sim : Similarity) (b : ℕ) (ts : Terms) → b * weight_sum sim.weight ts ≤ max_score → weight_sum (under b sim).weight ts ≤ max_score
small_under sim zero ts l = (let none = weighs_nothing sim 0 ts refl in omega (arith, none))
small_under sim (suc b) ts l = le_trans (le_times b (weight_sum sim.weight ts)) l

pub small_if_boosted : (sim : Similarity) (b : ℕ) (ts : Terms) → b * weight_sum sim.weight ts ≤ max_score → 1 ≤ b → weight_sum sim.weight ts ≤ max_score
small_if_boosted sim zero ts l some = absurd (omega (arith, some))
small_if_boosted sim (suc b) ts l some = le_trans (le_times b (weight_sum sim.weight ts)) l

pub norms_under : (sim : Similarity) (b : ℕ) → (under b sim).norms ≡ sim.norms
norms_under sim zero = refl
norms_under sim (suc b) = refl

-- ---- whole terms before a prefix

-- one term's weights together are its weight
one_weight : (sim : Similarity) (whole : Terms) → ((t : List ℕ) → sim.weight t ≤ max_score) → length whole ≡ 1 → weight_sum sim.weight whole ≤ max_score
one_weight sim [] small one = absurd (omega (arith, one))
one_weight sim (t ∷ []) small one = (let more = sum_by-cons (λ (t : ℕ × List ℕ). sim.weight t.1) t [] in let here = small t.1 in omega (arith, more, here))
one_weight sim (t ∷ u ∷ us) small one = absurd (omega (arith, one))

pub whole_small : (sim : Similarity) (b : ℕ) (whole : Terms) → ((t : List ℕ) → sim.weight t ≤ max_score) → b * (if length whole == 1 then 1 else weight_sum sim.weight whole) ≤ max_score → 1 ≤ b → weight_sum sim.weight whole ≤ max_score
whole_small sim b whole small l some = go (length whole == 1) refl l
  where
    go : (one : Bool) → (length whole == 1) ≡ one → b * (if one then 1 else weight_sum sim.weight whole) ≤ max_score → weight_sum sim.weight whole ≤ max_score
    go true is most = one_weight sim whole small (let size : length whole ≡ 1 = grind (arith, nat_tests, is) in size)
    go false is most = small_if_boosted sim b whole most some

pub whole_under : (sim : Similarity) (b : ℕ) (whole : Terms) → ((t : List ℕ) → sim.weight t ≤ max_score) → b * (if length whole == 1 then 1 else weight_sum sim.weight whole) ≤ max_score → weight_sum (under b sim).weight whole ≤ max_score
whole_under sim zero whole small l = (let none = no_weight sim whole in omega (arith, none))
whole_under sim (suc b) whole small l = whole_small sim (suc b) whole small l (omega arith)

pub whole_same : (sim : Similarity) (b : ℕ) (whole : Terms) → b * whole_weight whole (weight_sum (under b sim).weight whole) ≡ b * (if length whole == 1 then 1 else weight_sum sim.weight whole)
whole_same sim zero whole = zero_times (whole_weight whole (weight_sum (under 0 sim).weight whole)) (if length whole == 1 then 1 else weight_sum sim.weight whole)
whole_same sim (suc b) whole = refl

-- what holds of a scorer, where it holds by what is known where there is one
pub ok_with : {X E P : Type 0} (Q : X → Type 0) (res : Result (Option X) E) → IfOk res (λ o. IfSome o (λ x. P)) → (P → IfOk res (λ o. IfSome o Q)) → IfOk res (λ o. IfSome o Q)
ok_with Q (Ok (Some x)) known make = make known
ok_with Q (Ok None) known make = tt
ok_with Q (Err e) known make = tt
