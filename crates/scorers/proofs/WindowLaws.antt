-- Laws of windows.
use Rattle.std.proofs.Common.{[], Bool, List, ap, arith, drop, false, get_or, if◌then◌else◌, le-leb, length, nat_le, refl, set, slice_index_or, subst, suc, sum, sym, true, ◌++◌, ◌+◌, ◌-◌, ◌<◌, ◌==◌, ◌||◌, ◌∙◌, ◌∷◌, ◌≡◌, ◌≢◌, ◌≤◌, ℕ}
use Rattle.std.proofs.Math.Bool.{or-true}
use Rattle.std.proofs.lemmas.Bool.Decides.{nat_tests}
use Rattle.std.proofs.lemmas.List.{get_or-set_other, get_or-set_same, length-set}
use Rattle.definitions.specs.Postings.{terminated}
use Rattle.docsets.specs.Entries.{Entry, Rising, first, first_score}
use Rattle.docsets.specs.CombiningLaws.{sum-cons}
use Rattle.docsets.proofs.MemberLaws.{scores-then, sum-scores}
use Rattle.docsets.specs.Members.{entries_at, entries_of, scores_in}
use Rattle.scorers.specs.Windows.{Moves, held}

pub Moves-on : {C : Type 0} (answer : C → List ℕ → ℕ) (total : C → ℕ) (fresh : C) (start high : ℕ) (f1 : List Bool) (s1 : List C) (l1 : ℕ → List Entry) (f2 : List Bool) (s2 : List C) (l2 : ℕ → List Entry) (f3 : List Bool) (s3 : List C) (l3 : ℕ → List Entry) → Moves answer total fresh start high f1 s1 l1 f2 s2 l2 → Moves answer total fresh start high f2 s2 l2 f3 s3 l3 → Moves answer total fresh start high f1 s1 l1 f3 s3 l3
Moves-on answer total fresh start high f1 s1 l1 f2 s2 l2 f3 s3 l3 a b = record {
  flags_fit = b.flags_fit ∙ a.flags_fit;
  slots_fit = b.slots_fit ∙ a.slots_fit;
  stand = λ d l h. b.stand d l h ∙ a.stand d l h;
  answers = λ d xs l h. b.answers d xs l h ∙ a.answers d xs l h;
  totals = λ d l h. (let x = a.totals d l h in let y = b.totals d l h in omega (arith, x, y));
}

-- lists that agree on the window's documents
pub Moves-same : {C : Type 0} (answer : C → List ℕ → ℕ) (total : C → ℕ) (fresh : C) (start high : ℕ) (flags : List Bool) (slots : List C) (left other : ℕ → List Entry) → ((d : ℕ) → start ≤ d → d < high → other d ≡ left d) → Moves answer total fresh start high flags slots left flags slots other
Moves-same answer total fresh start high flags slots left other same = record {
  flags_fit = refl;
  slots_fit = refl;
  stand = λ d l h. ap (λ xs. slice_index_or flags (d - start) false || nat_le 1 (length xs)) (same d l h);
  answers = λ d xs l h. ap (λ ys. answer (held flags slots fresh (d - start)) (scores_in ys ++ xs)) (same d l h);
  totals = λ d l h. (let e = ap (λ ys. sum (scores_in ys)) (same d l h) in omega (arith, e));
}

has-append : (b : Bool) (xs ys : List Entry) → (b || nat_le 1 (length (xs ++ ys))) ≡ ((b || nat_le 1 (length xs)) || nat_le 1 (length ys))
has-append true xs ys = refl
has-append false [] ys = refl
has-append false (x ∷ xs) ys = le-leb 1 (suc (length (xs ++ ys))) (omega arith) ∙ sym (ap (λ b. b || nat_le 1 (length ys)) (le-leb 1 (suc (length xs)) (omega arith)))

-- what other lists give comes after
pub Moves-more : {C : Type 0} (answer : C → List ℕ → ℕ) (total : C → ℕ) (fresh : C) (start high : ℕ) (f1 : List Bool) (s1 : List C) (l1 : ℕ → List Entry) (f2 : List Bool) (s2 : List C) (l2 : ℕ → List Entry) (more : ℕ → List Entry) → Moves answer total fresh start high f1 s1 l1 f2 s2 l2 → Moves answer total fresh start high f1 s1 (λ d. l1 d ++ more d) f2 s2 (λ d. l2 d ++ more d)
Moves-more answer total fresh start high f1 s1 l1 f2 s2 l2 more m = record {
  flags_fit = m.flags_fit;
  slots_fit = m.slots_fit;
  stand = λ d l h. has-append (slice_index_or f2 (d - start) false) (l2 d) (more d) ∙ (ap (λ b. b || nat_le 1 (length (more d))) (m.stand d l h) ∙ sym (has-append (slice_index_or f1 (d - start) false) (l1 d) (more d)));
  answers = λ d xs l h. ap (answer (held f2 s2 fresh (d - start))) (scores-then (l2 d) (more d) xs) ∙ (m.answers d (scores_in (more d) ++ xs) l h ∙ sym (ap (answer (held f1 s1 fresh (d - start))) (scores-then (l1 d) (more d) xs)));
  totals = λ d l h. (let t = m.totals d l h in let a = sum-scores (l1 d) (more d) in let b = sum-scores (l2 d) (more d) in omega (arith, t, a, b));
}

-- a slot that was written
held-here : {C : Type 0} (flags : List Bool) (slots : List C) (fresh new : C) (k : ℕ) → k < length flags → k < length slots → held (set flags k true) (set slots k new) fresh k ≡ new
held-here flags slots fresh new k a b =
    ap (λ t. if t then get_or (set slots k new) k fresh else fresh) (get_or-set_same flags k true false a) ∙ get_or-set_same slots k new fresh b

-- and any other
held-other : {C : Type 0} (flags : List Bool) (slots : List C) (fresh new : C) (k j : ℕ) → j ≢ k → held (set flags k true) (set slots k new) fresh j ≡ held flags slots fresh j
held-other flags slots fresh new k j n =
    ap (λ t. if t then get_or (set slots k new) j fresh else fresh) (get_or-set_other flags k j true false n) ∙ ap (λ c. if get_or flags j false then c else fresh) (get_or-set_other slots k j new fresh n)

-- the first document of a list goes into its slot
pub Moves-first : {C : Type 0} (answer : C → List ℕ → ℕ) (total : C → ℕ) (fresh new : C) (start high : ℕ) (flags : List Bool) (slots : List C) (es : List Entry) → Rising 0 es → start ≤ first es → first es < high → high ≤ start + length flags → length slots ≡ length flags → high ≤ terminated → total new ≤ total (held flags slots fresh (first es - start)) + first_score es → ((xs : List ℕ) → answer new xs ≡ answer (held flags slots fresh (first es - start)) (first_score es ∷ xs)) → Moves answer total fresh start high flags slots (λ d. entries_of d es) (set flags (first es - start) true) (set slots (first es - start) new) (λ d. entries_of d (drop 1 es))
Moves-first answer total fresh new start high flags slots [] r s f h len top t a = absurd (omega (arith, f, top))
Moves-first answer total fresh new start high flags slots (e ∷ es) r s f h len top t a =
    let k : ℕ = e.doc - start in
    let in_flags : k < length flags = omega (arith, s, f, h) in
    let in_slots : k < length slots = omega (arith, in_flags, len) in
    record {
      flags_fit = length-set flags (e.doc - start) true;
      slots_fit = length-set slots (e.doc - start) new;
      stand = λ d l u. stands answer total fresh new start high flags slots e es r s d l in_flags;
      answers = λ d xs l u. answered answer total fresh new start high flags slots e es r s d xs l in_flags in_slots a;
      totals = λ d l u. totalled answer total fresh new start high flags slots e es r s d l in_flags in_slots t;
    }
  where
    stands : {C : Type 0} (answer : C → List ℕ → ℕ) (total : C → ℕ) (fresh new : C) (start high : ℕ) (flags : List Bool) (slots : List C) (e : Entry) (es : List Entry) → Rising 0 (e ∷ es) → start ≤ e.doc → (d : ℕ) → start ≤ d → e.doc - start < length flags → (slice_index_or (set flags (e.doc - start) true) (d - start) false || nat_le 1 (length (entries_of d es))) ≡ (slice_index_or flags (d - start) false || nat_le 1 (length (entries_of d (e ∷ es))))
    stands answer total fresh new start high flags slots e es r s d l i =
        (elim (d == e.doc) as (λ b. (d == e.doc) ≡ b → (slice_index_or (set flags (e.doc - start) true) (d - start) false || nat_le 1 (length (entries_of d es))) ≡ (slice_index_or flags (d - start) false || nat_le 1 (length (if b then e ∷ entries_of d es else entries_of d es)))) [
          | true ↦ (λ q. let same : d ≡ e.doc = grind (arith, nat_tests, q) in
              ap (λ x. slice_index_or (set flags (e.doc - start) true) (x - start) false || nat_le 1 (length (entries_of d es))) same
              ∙ (ap (λ b. b || nat_le 1 (length (entries_of d es))) (get_or-set_same flags (e.doc - start) true false i) ∙ sym (ap (λ b. slice_index_or flags (d - start) false || b) (le-leb 1 (suc (length (entries_of d es))) (omega arith)) ∙ or-true (slice_index_or flags (d - start) false))))
          | false ↦ (λ q. let apart : d ≢ e.doc = grind (arith, nat_tests, q) in
              let off : d - start ≢ e.doc - start = λ x. apart (omega (arith, x, l, s)) in
              ap (λ b. b || nat_le 1 (length (entries_of d es))) (get_or-set_other flags (e.doc - start) (d - start) true false off))
        ]) refl

    answered : {C : Type 0} (answer : C → List ℕ → ℕ) (total : C → ℕ) (fresh new : C) (start high : ℕ) (flags : List Bool) (slots : List C) (e : Entry) (es : List Entry) → Rising 0 (e ∷ es) → start ≤ e.doc → (d : ℕ) (xs : List ℕ) → start ≤ d → e.doc - start < length flags → e.doc - start < length slots → ((ys : List ℕ) → answer new ys ≡ answer (held flags slots fresh (e.doc - start)) (e.score ∷ ys)) → answer (held (set flags (e.doc - start) true) (set slots (e.doc - start) new) fresh (d - start)) (scores_in (entries_of d es) ++ xs) ≡ answer (held flags slots fresh (d - start)) (scores_in (entries_of d (e ∷ es)) ++ xs)
    answered answer total fresh new start high flags slots e es r s d xs l i j a =
        (elim (d == e.doc) as (λ b. (d == e.doc) ≡ b → answer (held (set flags (e.doc - start) true) (set slots (e.doc - start) new) fresh (d - start)) (scores_in (entries_of d es) ++ xs) ≡ answer (held flags slots fresh (d - start)) (scores_in (if b then e ∷ entries_of d es else entries_of d es) ++ xs)) [
          | true ↦ (λ q. let same : d ≡ e.doc = grind (arith, nat_tests, q) in
              ap (λ x. answer (held (set flags (e.doc - start) true) (set slots (e.doc - start) new) fresh (x - start)) (scores_in (entries_of d es) ++ xs)) same
              ∙ (ap (λ c. answer c (scores_in (entries_of d es) ++ xs)) (held-here flags slots fresh new (e.doc - start) i j)
              ∙ (a (scores_in (entries_of d es) ++ xs) ∙ ap (λ x. answer (held flags slots fresh (x - start)) (e.score ∷ (scores_in (entries_of d es) ++ xs))) (sym same))))
          | false ↦ (λ q. let apart : d ≢ e.doc = grind (arith, nat_tests, q) in
              let off : d - start ≢ e.doc - start = λ x. apart (omega (arith, x, l, s)) in
              ap (λ c. answer c (scores_in (entries_of d es) ++ xs)) (held-other flags slots fresh new (e.doc - start) (d - start) off))
        ]) refl

    totalled : {C : Type 0} (answer : C → List ℕ → ℕ) (total : C → ℕ) (fresh new : C) (start high : ℕ) (flags : List Bool) (slots : List C) (e : Entry) (es : List Entry) → Rising 0 (e ∷ es) → start ≤ e.doc → (d : ℕ) → start ≤ d → e.doc - start < length flags → e.doc - start < length slots → total new ≤ total (held flags slots fresh (e.doc - start)) + e.score → total (held (set flags (e.doc - start) true) (set slots (e.doc - start) new) fresh (d - start)) + sum (scores_in (entries_of d es)) ≤ total (held flags slots fresh (d - start)) + sum (scores_in (entries_of d (e ∷ es)))
    totalled answer total fresh new start high flags slots e es r s d l i j t =
        (elim (d == e.doc) as (λ b. (d == e.doc) ≡ b → total (held (set flags (e.doc - start) true) (set slots (e.doc - start) new) fresh (d - start)) + sum (scores_in (entries_of d es)) ≤ total (held flags slots fresh (d - start)) + sum (scores_in (if b then e ∷ entries_of d es else entries_of d es))) [
          | true ↦ (λ q. let same : d ≡ e.doc = grind (arith, nat_tests, q) in
              let here = ap (λ x. total (held (set flags (e.doc - start) true) (set slots (e.doc - start) new) fresh (x - start))) same in
              let now = ap total (held-here flags slots fresh new (e.doc - start) i j) in
              let was = ap (λ x. total (held flags slots fresh (x - start))) same in
              let more = sum-cons e.score (scores_in (entries_of d es)) in
              let goal : total (held (set flags (e.doc - start) true) (set slots (e.doc - start) new) fresh (d - start)) + sum (scores_in (entries_of d es)) ≤ total (held flags slots fresh (d - start)) + sum (e.score ∷ scores_in (entries_of d es)) = omega (arith, here, now, was, more, t) in goal)
          | false ↦ (λ q. let apart : d ≢ e.doc = grind (arith, nat_tests, q) in
              let off : d - start ≢ e.doc - start = λ x. apart (omega (arith, x, l, s)) in
              let now = ap total (held-other flags slots fresh new (e.doc - start) (d - start) off) in
              let goal : total (held (set flags (e.doc - start) true) (set slots (e.doc - start) new) fresh (d - start)) + sum (scores_in (entries_of d es)) ≤ total (held flags slots fresh (d - start)) + sum (scores_in (entries_of d es)) = omega (arith, now) in goal)
        ]) refl

-- likewise of numbers and lists that are equal to these
pub Moves-next : {C : Type 0} (answer : C → List ℕ → ℕ) (total : C → ℕ) (fresh new : C) (start high doc : ℕ) (flags flags_then : List Bool) (slots : List C) (es after : List Entry) → doc ≡ first es → after ≡ drop 1 es → flags_then ≡ set flags (doc - start) true → Rising 0 es → start ≤ doc → doc < high → high ≤ start + length flags → length slots ≡ length flags → high ≤ terminated → total new ≤ total (held flags slots fresh (doc - start)) + first_score es → ((xs : List ℕ) → answer new xs ≡ answer (held flags slots fresh (doc - start)) (first_score es ∷ xs)) → Moves answer total fresh start high flags slots (λ d. entries_of d es) flags_then (set slots (doc - start) new) (λ d. entries_of d after)
Moves-next {C} answer total fresh new start high doc flags flags_then slots es after at is f r s h len long top t a =
    let T : ℕ → Type 0 = λ x. total new ≤ total (held flags slots fresh (x - start)) + first_score es in
    let A : ℕ → Type 0 = λ x. (xs : List ℕ) → answer new xs ≡ answer (held flags slots fresh (x - start)) (first_score es ∷ xs) in
    let P : ℕ → Type 0 = λ x. Moves answer total fresh start high flags slots (λ d. entries_of d es) (set flags (x - start) true) (set slots (x - start) new) (λ d. entries_of d (drop 1 es)) in
    let Q : List Entry → Type 0 = λ xs. Moves answer total fresh start high flags slots (λ d. entries_of d es) (set flags (doc - start) true) (set slots (doc - start) new) (λ d. entries_of d xs) in
    let R : List Bool → Type 0 = λ fs. Moves answer total fresh start high flags slots (λ d. entries_of d es) fs (set slots (doc - start) new) (λ d. entries_of d after) in
    subst R (sym f) (subst Q (sym is) (subst P (sym at) (Moves-first answer total fresh new start high flags slots es r (omega (arith, s, at)) (omega (arith, h, at)) len long top (subst T at t) (subst A at a))))

-- one list after another
pub Moves-list : {C : Type 0} (answer : C → List ℕ → ℕ) (total : C → ℕ) (fresh : C) (start high : ℕ) (f1 : List Bool) (s1 : List C) (f2 : List Bool) (s2 : List C) (es : List Entry) (all rest : List (List Entry)) → all ≡ es ∷ rest → Moves answer total fresh start high f1 s1 (λ d. entries_of d es) f2 s2 (λ d. []) → Moves answer total fresh start high f1 s1 (λ d. entries_at d all) f2 s2 (λ d. entries_at d rest)
Moves-list {C} answer total fresh start high f1 s1 f2 s2 es all rest is m =
    let P : List (List Entry) → Type 0 = λ ess. Moves answer total fresh start high f1 s1 (λ d. entries_at d ess) f2 s2 (λ d. entries_at d rest) in
    subst P (sym is) (Moves-more answer total fresh start high f1 s1 (λ d. entries_of d es) f2 s2 (λ d. []) (λ d. entries_at d rest) m)
