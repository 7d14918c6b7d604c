-- What lists have of one document.
use Rattle.std.proofs.Common.{[], Bool, List, ap, arith, false, if◌then◌else◌, map, refl, subst, suc, sym, true, zero, ◌+◌, ◌-◌, ◌<◌, ◌==◌, ◌∙◌, ◌∷◌, ◌≡◌, ◌≤◌, ℕ}
use Rattle.std.proofs.lemmas.Bool.Decides.{nat_tests}
use Rattle.any_scorer.specs.Clauses.{scores_of}
use Rattle.docsets.specs.Entries.{Entry}
use Rattle.definitions.specs.Postings.{terminated}
use Rattle.intersections.proofs.DifferenceLaws.{without-in, without-out}
use Rattle.intersections.specs.Differences.{without}
use Rattle.intersections.specs.Optionals.{score_with, with_optional}
use Rattle.definitions.proofs.Lists.{by_order as by_place, equal_self}
use Rattle.docsets.specs.Members.{at_document, at_least, enough, entries_at, entries_of, listed, scores_in, walk}
use Rattle.docsets.proofs.DistinctLaws.{by_equal}

-- ---- one entry and the others

here : (d : ℕ) (e : Entry) (es : List Entry) → (d == e.doc) ≡ true → entries_of d (e ∷ es) ≡ e ∷ entries_of d es
here d e es same = ap (λ b. if b then e ∷ entries_of d es else entries_of d es) same

elsewhere : (d : ℕ) (e : Entry) (es : List Entry) → (d == e.doc) ≡ false → entries_of d (e ∷ es) ≡ entries_of d es
elsewhere d e es other = ap (λ b. if b then e ∷ entries_of d es else entries_of d es) other

before : (d n : ℕ) → d < n → (d == n) ≡ false
before d n l = grind (arith, nat_tests, l)

behind : (d n : ℕ) → n < d → (d == n) ≡ false
behind d n l = grind (arith, nat_tests, l)

-- ---- walks

walk_low : (f : ℕ → Bool) (s : ℕ → Entry) (low n d : ℕ) → d < low → entries_of d (walk f s low n) ≡ []
unfolding walk
walk_low f s low zero d l = refl
walk_low f s low (suc n) d l =
    let ih = walk_low f s (low + 1) n d (omega (arith, l)) in
    elim (f low) as (λ b. entries_of d (if b then at_document low (s low) ∷ walk f s (low + 1) n else walk f s (low + 1) n) ≡ []) [
      | true ↦ elsewhere d (at_document low (s low)) (walk f s (low + 1) n) (before d low l) ∙ ih
      | false ↦ ih
    ]

walk_at : (f : ℕ → Bool) (s : ℕ → Entry) (low n d : ℕ) → low ≤ d → d < low + n → entries_of d (walk f s low n) ≡ (if f d then at_document d (s d) ∷ [] else [])
unfolding walk
walk_at f s low zero d b l = absurd (omega (arith, b, l))
walk_at f s low (suc n) d b l =
    let rest : List Entry = walk f s (low + 1) n in
    let none : entries_of low rest ≡ [] = walk_low f s (low + 1) n low (omega arith) in
    by_place d low (entries_of d (if f low then at_document low (s low) ∷ rest else rest) ≡ (if f d then at_document d (s d) ∷ [] else []))
    (λ u. (let at : d ≡ low = omega (arith, u, b) in
    subst (λ x. entries_of x (if f low then at_document low (s low) ∷ rest else rest) ≡ (if f x then at_document x (s x) ∷ [] else [])) (sym at)
    (elim (f low) as (λ b. entries_of low (if b then at_document low (s low) ∷ rest else rest) ≡ (if b then at_document low (s low) ∷ [] else [])) [
      | true ↦ here low (at_document low (s low)) rest (equal_self low) ∙ ap (λ es. at_document low (s low) ∷ es) none
      | false ↦ none
    ])))
    (λ o. (let ih = walk_at f s (low + 1) n d (omega (arith, o)) (omega (arith, l)) in
    elim (f low) as (λ b. entries_of d (if b then at_document low (s low) ∷ rest else rest) ≡ (if f d then at_document d (s d) ∷ [] else [])) [
      | true ↦ elsewhere d (at_document low (s low)) rest (behind d low o) ∙ ih
      | false ↦ ih
    ]))

listed_at : (f : ℕ → Bool) (s : ℕ → Entry) (d : ℕ) → d < terminated → entries_of d (listed f s 0) ≡ (if f d then at_document d (s d) ∷ [] else [])
unfolding listed
listed_at f s d l = walk_at f s 0 (terminated - 0) d (omega arith) (omega (arith, l))

-- ---- the documents that enough lists have

pub scores_chosen : (minimum : ℕ) (make : ℕ → List Entry → Entry) (ess : List (List Entry)) (d : ℕ) → d < terminated → scores_of d (at_least minimum make ess) ≡ (if enough minimum ess d then (make d (entries_at d ess)).score ∷ [] else [])
scores_chosen minimum make ess d l =
    ap scores_in (listed_at (enough minimum ess) (λ n. make n (entries_at n ess)) d l)
    ∙ elim (enough minimum ess d) as (λ b. scores_in (if b then at_document d (make d (entries_at d ess)) ∷ [] else []) ≡ (if b then (make d (entries_at d ess)).score ∷ [] else [])) [
      | true ↦ refl
      | false ↦ refl
    ]

-- ---- differences

entries_without : (set : ℕ → Bool) (d : ℕ) (es : List Entry) → entries_of d (without set es) ≡ (if set d then [] else entries_of d es)
entries_without set d [] = elim (set d) as (λ b. entries_of d [] ≡ (if b then [] else entries_of d [])) [
  | true ↦ refl
  | false ↦ refl
]
entries_without set d (e ∷ es) =
    let ih = entries_without set d es in
    (elim (set e.doc) as (λ b. set e.doc ≡ b → entries_of d (without set (e ∷ es)) ≡ (if set d then [] else entries_of d (e ∷ es))) [
      | true ↦ (λ out. ap (entries_of d) (without-out set e es out) ∙ (ih ∙ by_equal d e.doc ((if set d then [] else entries_of d es) ≡ (if set d then [] else entries_of d (e ∷ es)))
          (λ t at. (let gone : set d ≡ true = ap set at ∙ out in ap (λ b. if b then [] else entries_of d es) gone ∙ sym (ap (λ b. if b then [] else entries_of d (e ∷ es)) gone)))
          (λ f. ap (λ xs. if set d then [] else xs) (sym (elsewhere d e es f)))))
      | false ↦ (λ stays. ap (entries_of d) (without-in set e es stays) ∙ by_equal d e.doc (entries_of d (e ∷ without set es) ≡ (if set d then [] else entries_of d (e ∷ es)))
          (λ t at. (let kept : set d ≡ false = ap set at ∙ stays in
          here d e (without set es) t ∙ (ap (λ xs. e ∷ xs) (ih ∙ ap (λ b. if b then [] else entries_of d es) kept) ∙ (sym (here d e es t) ∙ sym (ap (λ b. if b then [] else entries_of d (e ∷ es)) kept)))))
          (λ f. elsewhere d e (without set es) f ∙ (ih ∙ ap (λ xs. if set d then [] else xs) (sym (elsewhere d e es f)))))
    ]) refl

pub scores_without : (set : ℕ → Bool) (d : ℕ) (es : List Entry) → scores_of d (without set es) ≡ (if set d then [] else scores_of d es)
scores_without set d es =
    ap scores_in (entries_without set d es)
    ∙ elim (set d) as (λ b. scores_in (if b then [] else entries_of d es) ≡ (if b then [] else scores_of d es)) [
      | true ↦ refl
      | false ↦ refl
    ]

-- ---- an optional list

pub scores_optional : (f : List ℕ → ℕ) (d : ℕ) (es os : List Entry) → scores_of d (with_optional f es os) ≡ map (λ s. f (s ∷ scores_of d os)) (scores_of d es)
scores_optional f d [] os = refl
scores_optional f d (e ∷ es) os =
    let ih = scores_optional f d es os in
    let entry : Entry = record e { score = score_with f os e } in
    by_equal d e.doc (scores_of d (with_optional f (e ∷ es) os) ≡ map (λ s. f (s ∷ scores_of d os)) (scores_of d (e ∷ es)))
    (λ t at. ap scores_in (here d entry (with_optional f es os) t)
    ∙ (ap (λ n. f (e.score ∷ scores_of n os) ∷ scores_of d (with_optional f es os)) (sym at)
    ∙ (ap (λ xs. f (e.score ∷ scores_of d os) ∷ xs) ih
    ∙ sym (ap (λ xs. map (λ s. f (s ∷ scores_of d os)) (scores_in xs)) (here d e es t)))))
    (λ o. ap scores_in (elsewhere d entry (with_optional f es os) o) ∙ (ih ∙ sym (ap (λ xs. map (λ s. f (s ∷ scores_of d os)) (scores_in xs)) (elsewhere d e es o))))
