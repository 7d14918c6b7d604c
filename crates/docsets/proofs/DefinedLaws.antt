-- The documents that enough lists have are those of the definitions.
use Rattle.std.proofs.Common.{[], Bool, List, ap, arith, false, filter, flat_map, if◌then◌else◌, le-leb, length, map, nat_le, refl, subst, suc, sym, true, zero, ◌&&◌, ◌++◌, ◌+◌, ◌-◌, ◌<◌, ◌==◌, ◌||◌, ◌∙◌, ◌∷◌, ◌≡◌, ◌≤◌, ℕ}
use Rattle.std.proofs.lemmas.Bool.{lt-leb}
use Rattle.std.proofs.lemmas.Bool.Decides.{nat_tests}
use Rattle.std.proofs.lemmas.List.{length-append, length-map}
use Rattle.std.specs.List.{AllByRecursion}
use Rattle.definitions.specs.Postings.{terminated}
use Rattle.definitions.specs.ScoredLists.{documents_of}
use Rattle.definitions.specs.ScoredLists as lists
use Rattle.docsets.specs.Entries.{Entry, Rising}
use Rattle.docsets.specs.ScoredEntries.{pairs_of}
use Rattle.definitions.proofs.Lists.{by_order}
use Rattle.docsets.specs.Distinct.{Ascends, distinct, holds}
use Rattle.docsets.proofs.DistinctLaws.{Ascends-distinct, Ascends-filter, Ascends-lower, ascending-same, filter-agrees, holds-append, holds-below, holds-distinct, holds-filter, holds-first, holds-other}
use Rattle.docsets.specs.Members.{at_document, at_least, enough, entries_at, entries_of, listed, scores_in, walk}
use Rattle.docsets.proofs.MemberLaws.{scores-append}

-- ---- documents of a walk

walk-ascends : (f : ℕ → Bool) (s : ℕ → Entry) (low n : ℕ) → Ascends low (map (λ e. e.doc) (walk f s low n))
unfolding walk
walk-ascends f s low zero = tt
walk-ascends f s low (suc n) =
    let rest = walk-ascends f s (low + 1) n in
    elim (f low) as (λ b. Ascends low (map (λ e. e.doc) (if b then at_document low (s low) ∷ walk f s (low + 1) n else walk f s (low + 1) n))) [
      | true ↦ (omega arith, rest)
      | false ↦ Ascends-lower low (low + 1) (map (λ e. e.doc) (walk f s (low + 1) n)) (omega arith) rest
    ]

walk-holds : (f : ℕ → Bool) (s : ℕ → Entry) (low n d : ℕ) → low ≤ d → d < low + n → holds (map (λ e. e.doc) (walk f s low n)) d ≡ f d
unfolding walk
walk-holds f s low zero d b l = absurd (omega (arith, b, l))
walk-holds f s low (suc n) d b l =
    let rest : List ℕ = map (λ e. e.doc) (walk f s (low + 1) n) in
    by_order d low (holds (map (λ e. e.doc) (if f low then at_document low (s low) ∷ walk f s (low + 1) n else walk f s (low + 1) n)) d ≡ f d)
    (λ u. (let here : d ≡ low = omega (arith, u, b) in
    subst (λ x. holds (map (λ e. e.doc) (if f low then at_document low (s low) ∷ walk f s (low + 1) n else walk f s (low + 1) n)) x ≡ f x) (sym here)
    (elim (f low) as (λ b. holds (map (λ e. e.doc) (if b then at_document low (s low) ∷ walk f s (low + 1) n else walk f s (low + 1) n)) low ≡ b) [
      | true ↦ holds-first low rest
      | false ↦ holds-below (low + 1) low rest (walk-ascends f s (low + 1) n) (omega arith)
    ])))
    (λ o. (let ih = walk-holds f s (low + 1) n d (omega (arith, o)) (omega (arith, l)) in
    elim (f low) as (λ b. holds (map (λ e. e.doc) (if b then at_document low (s low) ∷ walk f s (low + 1) n else walk f s (low + 1) n)) d ≡ f d) [
      | true ↦ holds-other d low rest o ∙ ih
      | false ↦ ih
    ]))

walk-ends : (f : ℕ → Bool) (s : ℕ → Entry) (low n d : ℕ) → low + n ≤ d → holds (map (λ e. e.doc) (walk f s low n)) d ≡ false
unfolding walk
walk-ends f s low zero d l = refl
walk-ends f s low (suc n) d l =
    let ih = walk-ends f s (low + 1) n d (omega (arith, l)) in
    elim (f low) as (λ b. holds (map (λ e. e.doc) (if b then at_document low (s low) ∷ walk f s (low + 1) n else walk f s (low + 1) n)) d ≡ false) [
      | true ↦ holds-other d low (map (λ e. e.doc) (walk f s (low + 1) n)) (omega (arith, l)) ∙ ih
      | false ↦ ih
    ]

-- with scores that a document determines
walk-pairs : (f : ℕ → Bool) (s : ℕ → Entry) (g : ℕ → ℕ) (low n : ℕ) → ((d : ℕ) → (s d).score ≡ g d) → pairs_of (walk f s low n) ≡ map (λ d. (d, g d)) (map (λ e. e.doc) (walk f s low n))
unfolding walk
walk-pairs f s g low zero same = refl
walk-pairs f s g low (suc n) same =
    let ih = walk-pairs f s g (low + 1) n same in
    elim (f low) as (λ b. pairs_of (if b then at_document low (s low) ∷ walk f s (low + 1) n else walk f s (low + 1) n) ≡ map (λ d. (d, g d)) (map (λ e. e.doc) (if b then at_document low (s low) ∷ walk f s (low + 1) n else walk f s (low + 1) n))) [
      | true ↦ ap (λ x. (low, x) ∷ pairs_of (walk f s (low + 1) n)) (same low) ∙ ap (λ ps. (low, g low) ∷ ps) ih
      | false ↦ ih
    ]

listed-ascends : (f : ℕ → Bool) (s : ℕ → Entry) → Ascends 0 (map (λ e. e.doc) (listed f s 0))
unfolding listed
listed-ascends f s = walk-ascends f s 0 (terminated - 0)

listed-holds : (f : ℕ → Bool) (s : ℕ → Entry) (d : ℕ) → d < terminated → holds (map (λ e. e.doc) (listed f s 0)) d ≡ f d
unfolding listed
listed-holds f s d l = walk-holds f s 0 (terminated - 0) d (omega arith) (omega (arith, l))

listed-ends : (f : ℕ → Bool) (s : ℕ → Entry) (d : ℕ) → terminated ≤ d → holds (map (λ e. e.doc) (listed f s 0)) d ≡ false
unfolding listed
listed-ends f s d l = walk-ends f s 0 (terminated - 0) d (omega (arith, l))

listed-pairs : (f : ℕ → Bool) (s : ℕ → Entry) (g : ℕ → ℕ) → ((d : ℕ) → (s d).score ≡ g d) → pairs_of (listed f s 0) ≡ map (λ d. (d, g d)) (map (λ e. e.doc) (listed f s 0))
unfolding listed
listed-pairs f s g same = walk-pairs f s g 0 (terminated - 0) same

-- ---- scores and documents of lists

same-test : (a b : ℕ) → (a == b) ≡ (b == a)
same-test a b = grind (arith, nat_tests)

scores-defined : (d : ℕ) (es : List Entry) → lists.scores_in d (pairs_of es) ≡ scores_in (entries_of d es)
scores-defined d [] = refl
scores-defined d (e ∷ es) =
    let ih = scores-defined d es in
    ap (λ b. map (λ p. p.1) (if b then (e.doc, e.score) ∷ filter (λ p. p.0 == d) (pairs_of es) else filter (λ p. p.0 == d) (pairs_of es))) (same-test e.doc d)
    ∙ (elim (d == e.doc) as (λ b. map (λ p. p.1) (if b then (e.doc, e.score) ∷ filter (λ p. p.0 == d) (pairs_of es) else filter (λ p. p.0 == d) (pairs_of es)) ≡ scores_in (if b then e ∷ entries_of d es else entries_of d es)) [
      | true ↦ ap (λ xs. e.score ∷ xs) ih
      | false ↦ ih
    ])

all-scores-defined : (d : ℕ) (ess : List (List Entry)) → lists.scores_at d (map pairs_of ess) ≡ scores_in (entries_at d ess)
all-scores-defined d [] = refl
all-scores-defined d (es ∷ ess) = ap (λ xs. xs ++ lists.scores_at d (map pairs_of ess)) (scores-defined d es) ∙ (ap (λ xs. scores_in (entries_of d es) ++ xs) (all-scores-defined d ess) ∙ sym (scores-append (entries_of d es) (entries_at d ess)))

some-of-two : (m n : ℕ) → (nat_le 1 m || nat_le 1 n) ≡ nat_le 1 (m + n)
some-of-two m n = grind (arith, nat_tests)

has-document : (d : ℕ) (es : List Entry) → holds (documents_of (pairs_of es)) d ≡ nat_le 1 (length (entries_of d es))
has-document d [] = refl
has-document d (e ∷ es) =
    let ih = has-document d es in
    elim (d == e.doc) as (λ b. (b || holds (documents_of (pairs_of es)) d) ≡ nat_le 1 (length (if b then e ∷ entries_of d es else entries_of d es))) [
      | true ↦ sym (le-leb 1 (suc (length (entries_of d es))) (omega arith))
      | false ↦ ih
    ]

have-document : (d : ℕ) (ess : List (List Entry)) → holds (flat_map documents_of (map pairs_of ess)) d ≡ nat_le 1 (length (entries_at d ess))
have-document d [] = refl
have-document d (es ∷ ess) =
    holds-append (documents_of (pairs_of es)) (flat_map documents_of (map pairs_of ess)) d
    ∙ (ap (λ b. b || holds (flat_map documents_of (map pairs_of ess)) d) (has-document d es)
    ∙ (ap (λ b. nat_le 1 (length (entries_of d es)) || b) (have-document d ess)
    ∙ (some-of-two (length (entries_of d es)) (length (entries_at d ess)) ∙ ap (nat_le 1) (sym (length-append (entries_of d es) (entries_at d ess))))))

-- no list has a document behind the end
entries-ended : (d low : ℕ) (es : List Entry) → Rising low es → terminated ≤ d → entries_of d es ≡ []
entries-ended d low [] r l = refl
entries-ended d low (e ∷ es) r l =
    let apart : (d == e.doc) ≡ false = grind (arith, nat_tests, r.1, l) in
    ap (λ b. if b then e ∷ entries_of d es else entries_of d es) apart ∙ entries-ended d (e.doc + 1) es r.3 l

entries_at-ended : (d : ℕ) (ess : List (List Entry)) → AllByRecursion (Rising 0) ess → terminated ≤ d → entries_at d ess ≡ []
entries_at-ended d [] all l = refl
entries_at-ended d (es ∷ ess) all l = ap (λ xs. xs ++ entries_at d ess) (entries-ended d 0 es all.0 l) ∙ entries_at-ended d ess all.1 l

-- ---- the documents that enough lists have

enough-some : (minimum n : ℕ) → 1 ≤ minimum → nat_le minimum n ≡ (nat_le minimum n && nat_le 1 n)
enough-some minimum n some = grind (arith, nat_tests, some)

chosen-documents : (minimum : ℕ) (make : ℕ → List Entry → Entry) (ess : List (List Entry)) → 1 ≤ minimum → AllByRecursion (Rising 0) ess → map (λ e. e.doc) (at_least minimum make ess) ≡ filter (enough minimum ess) (lists.all_documents (map pairs_of ess))
chosen-documents minimum make ess some all =
    let docs : List ℕ = flat_map documents_of (map pairs_of ess) in
    let entry : ℕ → Entry = λ d. make d (entries_at d ess) in
    let both = (λ (d : ℕ). holds-filter (enough minimum ess) (distinct docs) d ∙ (ap (λ b. enough minimum ess d && b) (holds-distinct docs d ∙ have-document d ess) ∙ sym (enough-some minimum (length (entries_at d ess)) some))) in
    ascending-same 0 (map (λ e. e.doc) (at_least minimum make ess)) (filter (enough minimum ess) (distinct docs)) (listed-ascends (enough minimum ess) entry) (Ascends-filter (enough minimum ess) 0 (distinct docs) (Ascends-distinct docs))
    (λ d. by_order terminated d (holds (map (λ e. e.doc) (at_least minimum make ess)) d ≡ holds (filter (enough minimum ess) (distinct docs)) d)
    (λ u. listed-ends (enough minimum ess) entry d u ∙ (sym (ap (λ xs. nat_le minimum (length xs)) (entries_at-ended d ess all u) ∙ lt-leb minimum 0 (omega (arith, some))) ∙ sym (both d)))
    (λ o. listed-holds (enough minimum ess) entry d o ∙ sym (both d)))

map-agrees : {X : Type 0} (f g : ℕ → X) (ns : List ℕ) → ((n : ℕ) → f n ≡ g n) → map f ns ≡ map g ns
map-agrees f g [] same = refl
map-agrees f g (n ∷ ns) same = ap (λ x. x ∷ map f ns) (same n) ∙ ap (λ xs. g n ∷ xs) (map-agrees f g ns same)

-- where a score is what a combiner makes of the scores, they are those of the definitions
pub at_least-defined : (minimum : ℕ) (make : ℕ → List Entry → Entry) (f : List ℕ → ℕ) (ess : List (List Entry)) → 1 ≤ minimum → AllByRecursion (Rising 0) ess → ((d : ℕ) (es : List Entry) → (make d es).score ≡ f (scores_in es)) → pairs_of (at_least minimum make ess) ≡ lists.at_least minimum f (map pairs_of ess)
at_least-defined minimum make f ess some all scored =
    let all_scores = (λ (d : ℕ). all-scores-defined d ess) in
    let docs : List ℕ = lists.all_documents (map pairs_of ess) in
    listed-pairs (enough minimum ess) (λ d. make d (entries_at d ess)) (λ d. f (scores_in (entries_at d ess))) (λ d. scored d (entries_at d ess))
    ∙ (ap (map (λ d. (d, f (scores_in (entries_at d ess))))) (chosen-documents minimum make ess some all
    ∙ filter-agrees (enough minimum ess) (λ d. nat_le minimum (length (lists.scores_at d (map pairs_of ess)))) docs (λ d. sym (ap (λ xs. nat_le minimum (length xs)) (all_scores d) ∙ ap (nat_le minimum) (length-map (entries_at d ess) (λ e. e.score)))))
    ∙ map-agrees (λ d. (d, f (scores_in (entries_at d ess)))) (λ d. (d, f (lists.scores_at d (map pairs_of ess)))) (filter (λ d. nat_le minimum (length (lists.scores_at d (map pairs_of ess)))) docs) (λ d. ap (λ xs. (d, f xs)) (sym (all_scores d))))
