-- What scorers of clauses have together.
use Rattle.std.proofs.Common.{[], Bool, List, ap, arith, false, if◌then◌else◌, length, map, nat_le, not, refl, subst, sum, sym, true, ◌&&◌, ◌+◌, ◌<◌, ◌∙◌, ◌∷◌, ◌≡◌, ◌≤◌, ℕ, ℤ}
use Rattle.std.proofs.lemmas.Bool.Decides.{nat_tests}
use Rattle.std.proofs.lemmas.List.{length-map}
use Rattle.any_scorer.proofs.Bounded.{bounded_clauses}
use Rattle.any_scorer.proofs.ByClauses.{left_out, nothing_added, only_shoulds, summed_with, with_shoulds}
use Rattle.any_scorer.proofs.ByScores.{joined, with_optional_scores}
use Rattle.any_scorer.proofs.OneDocument.{scores_without}
use Rattle.any_scorer.specs.Clauses.{by_clauses, by_number, scores_at, scores_of}
use Rattle.definitions.specs.Postings.{terminated}
use Rattle.definitions.specs.Scoring.{max_score}
use Rattle.definitions.specs.Sinks as sinks
use Rattle.docsets.proofs.MemberLaws.{Rising-listed, sum-greatest}
use Rattle.docsets.specs.Entries.{Entry, Rising}
use Rattle.docsets.specs.Members.{at_least, enough, entries_at, greatest_sum, joining}
use Rattle.docsets.specs.ScoredEntries.{greatest_score, pairs_of}
use Rattle.intersections.specs.DifferenceLaws.{Rising-without}
use Rattle.intersections.specs.Differences.{without}
use Rattle.intersections.specs.Meetings.{meeting}
use Rattle.intersections.specs.OptionalLaws.{Rising-optional}
use Rattle.intersections.specs.Optionals.{with_optional}
use Rattle.walks.specs.Unions.{union}
use Rattle.joint_walks.specs.Together.{HasClauses, IsFedSuch}

-- as many lists as scorers
pub some_mapped : {X : Type 0} (entries : X → List Entry) (xs : List X) → 1 ≤ length xs → 1 ≤ length (map entries xs)
some_mapped entries xs some = let long = length-map xs entries in omega (arith, long, some)

-- what is said where there are scorers, of their lists
pub none_mapped : {X : Type 0} (entries : X → List Entry) (xs : List X) (n m : ℕ) → n ≡ length xs → (0 < n → m ≡ 0) → 0 < length (map entries xs) → m ≡ 0
none_mapped entries xs n m many none some = let long = length-map xs entries in none (omega (arith, many, long, some))

-- ---- lists without what a set has

-- sets that agree on documents take the same
pub without_agree : (f g : ℕ → Bool) (low : ℕ) (es : List Entry) → Rising low es → ((d : ℕ) → d < terminated → f d ≡ g d) → without f es ≡ without g es
without_agree f g low [] r same = refl
without_agree f g low (e ∷ es) r same =
    ap (λ b. if b then without f es else e ∷ without f es) (same e.doc r.1)
    ∙ ap (λ xs. if g e.doc then xs else e ∷ xs) (without_agree f g (e.doc + 1) es r.3 same)

-- nothing is taken where there is nothing to exclude
pub without_none : (es : List Entry) → without (enough 1 []) es ≡ es
without_none [] = refl
without_none (e ∷ es) = ap (λ xs. e ∷ xs) (without_none es)

-- ---- lists of what clauses have

-- they ascend, and have these scores
abbrev Have : ℕ → List (List Entry) → List (List Entry) → List (List Entry) → List Entry → Type 0
Have minimum musts shoulds must_nots es = Rising 0 es × ((d : ℕ) → d < terminated → scores_of d es ≡ by_clauses minimum musts shoulds must_nots d)

-- without what must not match
pub have_without : (minimum : ℕ) (musts shoulds must_nots : List (List Entry)) (es : List Entry) → Have minimum musts shoulds [] es → Have minimum musts shoulds must_nots (without (enough 1 must_nots) es)
have_without minimum musts shoulds must_nots es have = (Rising-without (enough 1 must_nots) 0 es have.0, λ d l. scores_without (enough 1 must_nots) d es ∙ (ap (λ xs. if enough 1 must_nots d then [] else xs) (have.1 d l) ∙ left_out minimum d musts shoulds must_nots))

-- of what should match alone, the union
pub have_any : (shoulds : List (List Entry)) (es : List Entry) → Rising 0 es → ((d : ℕ) → d < terminated → scores_of d es ≡ by_number 1 shoulds d) → Have 0 [] shoulds [] es
have_any shoulds es rises scores = (rises, λ d l. scores d l ∙ only_shoulds 0 d shoulds)

-- of what must match alone, what all have
pub have_all : (musts : List (List Entry)) (es : List Entry) → 1 ≤ length musts → Rising 0 es → ((d : ℕ) → d < terminated → scores_of d es ≡ by_number (length musts) musts d) → Have 0 musts [] [] es
have_all musts es some rises scores = (rises, λ d l. scores d l ∙ (nothing_added (by_number (length musts) musts d) ∙ with_shoulds d musts [] some))

-- of both, what all have with what any adds
pub have_both : (musts shoulds : List (List Entry)) (es os : List Entry) → 1 ≤ length musts → Rising 0 es → Rising 0 os → greatest_score es + greatest_score os ≤ max_score → ((d : ℕ) → d < terminated → scores_of d es ≡ by_number (length musts) musts d) → ((d : ℕ) → d < terminated → scores_of d os ≡ by_number 1 shoulds d) → Have 0 musts shoulds [] (with_optional sum es os)
have_both musts shoulds es os some r ro fits scores more = (
  Rising-optional {C = ℕ} (λ c xs. sum xs) (λ c. 0) (λ c xs l. omega (arith, l)) 0 es os r ro refl fits,
  λ d l. with_optional_scores sum (with_optional sum es os) (with_optional sum es os) es os d refl refl
      ∙ (summed_with d os shoulds (scores_of d es) (more d l)
      ∙ (ap (map (λ s. s + sum (scores_at d shoulds))) (scores d l) ∙ with_shoulds d musts shoulds some)),
)

module _ {X : Type 0} (entries : X → List Entry) (rising : (x : X) → Rising 0 (entries x)) where
  -- no score is above the sum of the greatest of each
  pub complete : (minimum : ℕ) (xs ys : List X) (must_nots : List (List Entry)) (es : List Entry) → Have minimum (map entries xs) (map entries ys) must_nots es → HasClauses minimum (map entries xs) (map entries ys) must_nots es
  complete minimum xs ys must_nots es have = record { rises = have.0; scores = have.1; bounded = bounded_clauses entries rising minimum xs ys must_nots es have.0 have.1 }

  -- the documents that enough lists have ascend, if the scores fit together
  joined_rises : (n : ℕ) (xs : List X) → greatest_sum (map entries xs) ≤ max_score → Rising 0 (at_least n joining (map entries xs))
  joined_rises n xs fits = Rising-listed (enough n (map entries xs)) (λ d. joining d (entries_at d (map entries xs))) 0 (λ d l t is. (let most = sum-greatest entries rising d xs in omega (arith, most, fits)))

  pub has_union : (xs : List X) → greatest_sum (map entries xs) ≤ max_score → HasClauses 0 [] (map entries xs) [] (union (map entries xs))
  has_union xs fits = complete 0 [] xs [] (union (map entries xs)) (have_any (map entries xs) (union (map entries xs)) (joined_rises 1 xs fits) (λ d l. joined 1 (union (map entries xs)) (union (map entries xs)) (map entries xs) refl refl d l))

  pub has_meeting : (xs : List X) → 1 ≤ length xs → greatest_sum (map entries xs) ≤ max_score → HasClauses 0 (map entries xs) [] [] (meeting (map entries xs))
  has_meeting xs some fits = complete 0 xs [] [] (meeting (map entries xs)) (have_all (map entries xs) (meeting (map entries xs)) (some_mapped entries xs some) (joined_rises (length (map entries xs)) xs fits) (λ d l. joined (length (map entries xs)) (meeting (map entries xs)) (meeting (map entries xs)) (map entries xs) refl refl d l))

-- ---- minima that ask for no more

-- where something matches, it is one of those that should, if nothing must
tests : (m n : ℕ) (c : Bool) → m ≤ 1 → (nat_le 0 n && nat_le 1 n && c) ≡ (nat_le m n && nat_le 1 n && c)
tests m n true l = grind (arith, nat_tests, l)
tests m n false l = grind (arith, nat_tests, l)

least_minimum : (m d : ℕ) (musts shoulds must_nots : List (List Entry)) → m ≤ 1 → (0 < length musts → m ≡ 0) → by_clauses 0 musts shoulds must_nots d ≡ by_clauses m musts shoulds must_nots d
least_minimum m d [] shoulds must_nots few none = ap (λ b. if b then sum (scores_at d shoulds) ∷ [] else []) (tests m (length (entries_at d shoulds)) (not (enough 1 must_nots d)) few)
least_minimum m d (es ∷ musts) shoulds must_nots few none = ap (λ k. by_clauses k (es ∷ musts) shoulds must_nots d) (sym (none (omega arith)))

-- what clauses have without a minimum they have with one that asks for no more
pub at_minimum : (m : ℕ) (musts shoulds must_nots : List (List Entry)) → m ≤ 1 → (0 < length musts → m ≡ 0) → (es : List Entry) → HasClauses 0 musts shoulds must_nots es → HasClauses m musts shoulds must_nots es
at_minimum m musts shoulds must_nots few none es has = record { rises = has.rises; scores = λ d l. has.scores d l ∙ least_minimum m d musts shoulds must_nots few none; bounded = has.bounded }

-- ---- what a sink was fed

-- a sink that was fed entries of which something is said
pub is_fed_such : {S : Type 0} (limit : S → ℤ) (taken : S → ℕ × ℕ → S) (before : S) (Has : List Entry → Type 0) (after : S) (es : List Entry) → Has es → after ≡ sinks.fed limit taken before (pairs_of es) → IsFedSuch limit taken before Has after
is_fed_such limit taken before Has after es has is = record { entries = es; has = has; fed = is }

-- of which less is said then too
pub fed_such_weaker : {S : Type 0} (limit : S → ℤ) (taken : S → ℕ × ℕ → S) (before : S) (P Q : List Entry → Type 0) (after : S) → ((es : List Entry) → P es → Q es) → IsFedSuch limit taken before P after → IsFedSuch limit taken before Q after
fed_such_weaker limit taken before P Q after weaker is = record { entries = is.entries; has = weaker is.entries is.has; fed = is.fed }

-- likewise of equal lists
pub same_has : (minimum : ℕ) (ms ns ss ts xs ys : List (List Entry)) (es : List Entry) → ms ≡ ns → ss ≡ ts → xs ≡ ys → HasClauses minimum ms ss xs es → HasClauses minimum ns ts ys es
same_has minimum ms ns ss ts xs ys es musts shoulds must_nots has = subst (λ ks. HasClauses minimum ks ts ys es) musts (subst (λ ks. HasClauses minimum ms ks ys es) shoulds (subst (λ ks. HasClauses minimum ms ss ks es) must_nots has))
