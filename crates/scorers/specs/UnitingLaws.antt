-- Laws of unions of postings.
use Rattle.std.proofs.Common.{[], ◌++◌, ◌+◌, ◌-◌, ◌<◌, ◌==◌, ◌^◌, ◌||◌, ◌∙◌, ◌∷◌, ◌≡◌, ◌≤◌, Bool, List, ap, arith, false, if◌then◌else◌, map, max, refl, suc, sym, true, zero, ℕ}
use Rattle.std.proofs.lemmas.Bool.Decides.{nat_tests}
use Rattle.std.proofs.lemmas.List.{append_assoc}
use Rattle.definitions.specs.Postings.{terminated}
use Rattle.definitions.specs.Scoring.{DontFall}
use Rattle.docsets.specs.Entries.{AreSingle, Entry, first_positions, highest, single}
use Rattle.docsets.specs.Distinct.{Ascends, distinct, holds}
use Rattle.docsets.proofs.DistinctLaws.{Ascends-distinct, Ascends-lower, Ascends-moved, distinct-alone, holds-distinct, holds-first}
use Rattle.docsets.specs.Members.{at_document, at_least, enough, entries_at, entries_of, listed, walk}
use Rattle.scorers.specs.Uniting.{positions_in, uniting}

-- ---- parts of several entries
pub positions-append : (xs ys : List Entry) → positions_in (xs ++ ys) ≡ positions_in xs ++ positions_in ys
positions-append [] ys = refl
positions-append (x ∷ xs) ys = ap (λ ps. single x.positions ++ ps) (positions-append xs ys) ∙ sym (append_assoc (single x.positions) (positions_in xs) (positions_in ys))

-- ---- the greatest position
pub highest-append : (xs ys : List ℕ) → highest (xs ++ ys) ≡ max (highest xs) (highest ys)
highest-append [] ys = omega arith
highest-append (x ∷ xs) ys = (let ih = highest-append xs ys in omega (arith, ih))

highest-holds : (ns : List ℕ) (n : ℕ) → holds ns n ≡ true → n ≤ highest ns
highest-holds [] n h = absurd (cc)
highest-holds (m ∷ ms) n h = (elim (n == m) as (λ b. (n == m) ≡ b → (b || holds ms n) ≡ true → n ≤ max m (highest ms)) [
  | true ↦ (λ e k. let same : n ≡ m = grind (arith, nat_tests, e) in omega (arith, same))
  | false ↦ (λ e k. let ih = highest-holds ms n k in omega (arith, ih))
]) refl h

highest-bound : (b : ℕ) (ns : List ℕ) → ((n : ℕ) → holds ns n ≡ true → n ≤ b) → highest ns ≤ b
highest-bound b [] all = omega arith
highest-bound b (m ∷ ms) all =
    let here : m ≤ b = all m (holds-first m ms) in
    let rest = highest-bound b ms (λ n h. all n (ap (λ t. (n == m) || t) h ∙ or-true (n == m))) in
    omega (arith, here, rest)
  where
    or-true : (a : Bool) → (a || true) ≡ true
    or-true true = refl
    or-true false = refl

-- that of distinct numbers is that of those given
pub highest-distinct : (ns : List ℕ) → highest (distinct ns) ≡ highest ns
highest-distinct ns =
    let up = highest-bound (highest ns) (distinct ns) (λ n h. highest-holds ns n (sym (holds-distinct ns n) ∙ h)) in
    let down = highest-bound (highest (distinct ns)) ns (λ n h. highest-holds (distinct ns) n (holds-distinct ns n ∙ h)) in
    omega (arith, up, down)

small-positions : (d : ℕ) (es : List Entry) → AreSingle es → highest (positions_in (entries_of d es)) < 2 ^ 31
small-positions d [] s = omega arith
small-positions d (e ∷ es) s =
    let ih = small-positions d es s.3 in
    let here = s.2 in
    elim (d == e.doc) as (λ b. highest (positions_in (if b then e ∷ entries_of d es else entries_of d es)) < 2 ^ 31) [
      | true ↦ (let both = highest-append (single e.positions) (positions_in (entries_of d es)) in omega (arith, both, here, ih))
      | false ↦ ih
    ]

small-united : {X : Type 0} (entries : X → List Entry) → ((x : X) → AreSingle (entries x)) → (d : ℕ) (xs : List X) → highest (positions_in (entries_at d (map entries xs))) < 2 ^ 31
small-united entries single_terms d [] = omega arith
small-united entries single_terms d (x ∷ xs) =
    let here = small-positions d (entries x) (single_terms x) in
    let ih = small-united entries single_terms d xs in
    let parts = ap highest (positions-append (entries_of d (entries x)) (entries_at d (map entries xs))) in
    let both = highest-append (positions_in (entries_of d (entries x))) (positions_in (entries_at d (map entries xs))) in
    omega (arith, here, ih, parts, both)

-- ---- a union is of one term
DontFall-ascending : (low : ℕ) (ns : List ℕ) → Ascends low ns → DontFall ns
DontFall-ascending low [] a = tt
DontFall-ascending low (n ∷ []) a = tt
DontFall-ascending low (n ∷ m ∷ ns) a = (let le = a.1.0 in omega (arith, le), DontFall-ascending (n + 1) (m ∷ ns) a.1)

-- an entry of one term that ascends
abbrev IsTold : Entry → Type 0
IsTold e = (e.positions ≡ single e.positions ∷ []) × DontFall (single e.positions) × (highest (single e.positions) < 2 ^ 31)

walk-single : (f : ℕ → Bool) (s : ℕ → Entry) (low n : ℕ) → ((d : ℕ) → IsTold (s d)) → AreSingle (walk f s low n)
unfolding walk
walk-single f s low zero told = tt
walk-single f s low (suc n) told =
    let ih = walk-single f s (low + 1) n told in
    let here = told low in
    elim (f low) as (λ b. AreSingle (if b then at_document low (s low) ∷ walk f s (low + 1) n else walk f s (low + 1) n)) [
      | true ↦ (here.0, here.1, here.2, ih)
      | false ↦ ih
    ]

listed-single : (f : ℕ → Bool) (s : ℕ → Entry) (low : ℕ) → ((d : ℕ) → IsTold (s d)) → AreSingle (listed f s low)
unfolding listed
listed-single f s low told = walk-single f s low (terminated - low) told

pub AreSingle-united : {X : Type 0} (entries : X → List Entry) → ((x : X) → AreSingle (entries x)) → (told : Bool) (xs : List X) → AreSingle (at_least 1 (uniting told) (map entries xs))
AreSingle-united entries single_terms told xs = listed-single (enough 1 (map entries xs)) (λ d. uniting told d (entries_at d (map entries xs))) 0 (λ d. is_told told (positions_in (entries_at d (map entries xs))) (small-united entries single_terms d xs) d (entries_at d (map entries xs)) refl)
  where
    is_told : (told : Bool) (ns : List ℕ) → highest ns < 2 ^ 31 → (d : ℕ) (es : List Entry) → positions_in es ≡ ns → IsTold (uniting told d es)
    is_told true ns small d es is = (refl, DontFall-ascending 0 (distinct (positions_in es)) (Ascends-distinct (positions_in es)), (let same = highest-distinct (positions_in es) in let given = ap highest is in omega (arith, same, given, small)))
    is_told false ns small d es is = (refl, tt, omega arith)

-- its positions ascend
walk-told : (f : ℕ → Bool) (s : ℕ → Entry) (low n : ℕ) → ((d : ℕ) → Ascends 0 (single (s d).positions)) → Ascends 0 (single (first_positions (walk f s low n)))
unfolding walk
walk-told f s low zero told = tt
walk-told f s low (suc n) told =
    let ih = walk-told f s (low + 1) n told in
    let here = told low in
    elim (f low) as (λ b. Ascends 0 (single (first_positions (if b then at_document low (s low) ∷ walk f s (low + 1) n else walk f s (low + 1) n)))) [ true ↦ here | false ↦ ih ]

listed-told : (f : ℕ → Bool) (s : ℕ → Entry) (low : ℕ) → ((d : ℕ) → Ascends 0 (single (s d).positions)) → Ascends 0 (single (first_positions (listed f s low)))
unfolding listed
listed-told f s low told = walk-told f s low (terminated - low) told

ascends_told : (told : Bool) (ns : List ℕ) → Ascends 0 (if told then distinct ns else [])
ascends_told true ns = Ascends-distinct ns
ascends_told false ns = tt

-- so alone they are put as they are
pub united-alone : (told : Bool) (ess : List (List Entry)) (offset : ℕ) → distinct ([] ++ map (λ p. p + offset) (single (first_positions (at_least 1 (uniting told) ess)))) ≡ map (λ p. p + offset) (single (first_positions (at_least 1 (uniting told) ess)))
united-alone told ess offset =
    let ps : List ℕ = single (first_positions (at_least 1 (uniting told) ess)) in
    let rises : Ascends 0 ps = listed-told (enough 1 ess) (λ d. uniting told d (entries_at d ess)) 0 (λ d. ascends_told told (positions_in (entries_at d ess))) in
    distinct-alone (map (λ p. p + offset) ps) (Ascends-lower 0 (0 + offset) (map (λ p. p + offset) ps) (omega arith) (Ascends-moved offset 0 ps rises))
