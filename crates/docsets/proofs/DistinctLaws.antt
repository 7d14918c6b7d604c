-- Laws of numbers ascending, each once.
use Rattle.std.proofs.Common.{[], Bool, add-one, append-nil, append_assoc, List, ap, arith, false, filter, get_or, if◌then◌else◌, le-leb, leb-false, leb-true, length, map, nat_le, not, refl, subst, sym, take, true, true≢false, ◌&&◌, ◌++◌, ◌+◌, ◌-◌, ◌<◌, ◌==◌, ◌||◌, ◌∙◌, ◌∷◌, ◌≡◌, ◌≤◌, ℕ}
use Rattle.std.proofs.Math.Seq.{take-suc}
use Rattle.std.proofs.lemmas.Bool.{lt-leb}
use Rattle.std.proofs.lemmas.Bool.Decides.{nat_tests}
use Rattle.std.proofs.lemmas.List.Folds.{list_any-append}
use Rattle.std.specs.Bool.{⊤}
use Rattle.std.proofs.lemmas.List.Sorted.{list_any-IsPermutation}
use Rattle.std.proofs.lemmas.Map.Keys.{IsStrictlyIncreasing-dedup, sorted_from_strictly_increasing}
use Rattle.std.specs.List.{AllByRecursion, dedup, dedup_from, list_any}
use Rattle.std.specs.List.Sorted.{IsPermutation, IsSorted, IsStrictlySortedBy}
use Rattle.std.specs.Ordering.{nat_cmp}
use Rattle.std.specs.declared.cmp.Ordering.TheVariants.{Less}
use lib.Dec.{eqb}
use Rattle.definitions.specs.JsonLeaves.{once}
use Rattle.definitions.specs.Recorded.{ascending, insert_ascending}
use Rattle.definitions.proofs.Lists.{by_order, or_false as or-false, and-false, length-inserted as length-insert, length-ascending as length-sorted}
use Rattle.docsets.specs.Distinct.{Ascends, distinct, holds}

or-swap : (a b c : Bool) → (a || (b || c)) ≡ (b || (a || c))
or-swap true true c = refl
or-swap true false c = refl
or-swap false true c = refl
or-swap false false c = refl

or-ends : (a b : Bool) → (a || b) ≡ (b || (a || false))
or-ends true true = refl
or-ends true false = refl
or-ends false true = refl
or-ends false false = refl

and-both : (a b c : Bool) → ((a && b) || (a && c)) ≡ (a && (b || c))
and-both true b c = refl
and-both false b c = refl

or-twice : (a b : Bool) → (a || b) ≡ (a || (a || b))
or-twice true b = refl
or-twice false b = refl

or-not : (a b : Bool) → (a || (not a && b)) ≡ (a || b)
or-not true b = refl
or-not false b = refl

pub by_equal : (a b : ℕ) (P : Type 0) → ((a == b) ≡ true → a ≡ b → P) → ((a == b) ≡ false → P) → P
by_equal a b P same apart = elim (a == b) as (λ t. (a == b) ≡ t → P) [ true ↦ (λ e. same e (grind (arith, nat_tests, e))) | false ↦ (λ e. apart e) ] refl

-- ---- ascending numbers

pub Ascends-lower : (low high : ℕ) (ns : List ℕ) → low ≤ high → Ascends high ns → Ascends low ns
Ascends-lower low high [] l a = tt
Ascends-lower low high (n ∷ ns) l a = (omega (arith, l, a.0), a.1)

-- none is below the first
pub holds-below : (low n : ℕ) (ns : List ℕ) → Ascends low ns → n < low → holds ns n ≡ false
holds-below low n [] a l = refl
holds-below low n (m ∷ ms) a l =
    let apart : (n == m) ≡ false = grind (arith, nat_tests, a.0, l) in
    ap (λ b. b || holds ms n) apart ∙ holds-below (m + 1) n ms a.1 (omega (arith, a.0, l))

pub holds-first : (n : ℕ) (ns : List ℕ) → holds (n ∷ ns) n ≡ true
holds-first n ns = let same : (n == n) ≡ true = grind (arith, nat_tests) in ap (λ b. b || holds ns n) same

pub holds-other : (n m : ℕ) (ms : List ℕ) → m < n → holds (m ∷ ms) n ≡ holds ms n
holds-other n m ms l = let apart : (n == m) ≡ false = grind (arith, nat_tests, l) in ap (λ b. b || holds ms n) apart

rest-same : (n m : ℕ) (ns ms : List ℕ) → n ≡ m → Ascends (n + 1) ns → Ascends (m + 1) ms → ((k : ℕ) → holds (n ∷ ns) k ≡ holds (m ∷ ms) k) → (k : ℕ) → holds ns k ≡ holds ms k
rest-same n m ns ms is a b same k =
    by_order k m (holds ns k ≡ holds ms k)
    (λ l. holds-below (n + 1) k ns a (omega (arith, l, is)) ∙ sym (holds-below (m + 1) k ms b (omega (arith, l))))
    (λ l. sym (holds-other k n ns (omega (arith, l, is))) ∙ (same k ∙ holds-other k m ms l))

-- those that hold the same are the same
pub ascending-same : (low : ℕ) (ns ms : List ℕ) → Ascends low ns → Ascends low ms → ((n : ℕ) → holds ns n ≡ holds ms n) → ns ≡ ms
ascending-same low [] [] a b same = refl
ascending-same low [] (m ∷ ms) a b same = absurd (true≢false (sym (holds-first m ms) ∙ sym (same m)))
ascending-same low (n ∷ ns) [] a b same = absurd (true≢false (sym (holds-first n ns) ∙ same n))
ascending-same low (n ∷ ns) (m ∷ ms) a b same =
    by_order n m (n ∷ ns ≡ m ∷ ms)
    (λ l. by_order m n (n ∷ ns ≡ m ∷ ms)
    (λ g. (let is : n ≡ m = omega (arith, l, g) in
    ap (λ k. k ∷ ns) is ∙ ap (λ ks. m ∷ ks) (ascending-same (m + 1) ns ms (Ascends-lower (m + 1) (n + 1) ns (omega (arith, is)) a.1) b.1 (rest-same n m ns ms is a.1 b.1 same))))
    (λ g. absurd (true≢false (sym (holds-first n ns) ∙ (same n ∙ holds-below m n (m ∷ ms) (omega arith, b.1) g)))))
    (λ g. absurd (true≢false (sym (holds-first m ms) ∙ (sym (same m) ∙ holds-below n m (n ∷ ns) (omega arith, a.1) g))))

-- ---- distinct

holds-insert : (n m : ℕ) (ms : List ℕ) → holds (insert_ascending n ms) m ≡ ((m == n) || holds ms m)
holds-insert n m [] = refl
holds-insert n m (k ∷ ks) =
    let ih = holds-insert n m ks in
    elim (nat_le n k) as (λ b. holds (if b then n ∷ k ∷ ks else k ∷ insert_ascending n ks) m ≡ ((m == n) || ((m == k) || holds ks m))) [
      | true ↦ refl
      | false ↦ ap (λ b. (m == k) || b) ih ∙ or-swap (m == k) (m == n) (holds ks m)
    ]

holds-sorted : (ns : List ℕ) (m : ℕ) → holds (ascending ns) m ≡ holds ns m
holds-sorted [] m = refl
holds-sorted (n ∷ ns) m = holds-insert n m (ascending ns) ∙ ap (λ b. (m == n) || b) (holds-sorted ns m)

-- a number is kept but where it is left out
holds-left : (n m : ℕ) (ms : List ℕ) → holds (filter (λ k. not (n == k)) ms) m ≡ (not (n == m) && holds ms m)
holds-left n m [] = sym (and-false (not (n == m)))
holds-left n m (k ∷ ks) =
    let ih = holds-left n m ks in
    by_equal n k (holds (filter (λ k. not (n == k)) (k ∷ ks)) m ≡ (not (n == m) && ((m == k) || holds ks m)))
    (λ e is. ap (λ b. holds (if not b then k ∷ filter (λ k. not (n == k)) ks else filter (λ k. not (n == k)) ks) m) e
    ∙ (ih ∙ by_equal n m ((not (n == m) && holds ks m) ≡ (not (n == m) && ((m == k) || holds ks m)))
    (λ f at. ap (λ b. not b && holds ks m) f ∙ sym (ap (λ b. not b && ((m == k) || holds ks m)) f))
    (λ f. (let apart : (m == k) ≡ false = grind (arith, nat_tests, f, is) in ap (λ b. not (n == m) && (b || holds ks m)) (sym apart)))))
    (λ e. ap (λ b. holds (if not b then k ∷ filter (λ k. not (n == k)) ks else filter (λ k. not (n == k)) ks) m) e
    ∙ (ap (λ b. (m == k) || b) ih ∙ by_equal n m (((m == k) || (not (n == m) && holds ks m)) ≡ (not (n == m) && ((m == k) || holds ks m)))
    (λ f at. (let apart : (m == k) ≡ false = grind (arith, nat_tests, e, at) in ap (λ b. (m == k) || (not b && holds ks m)) f ∙ (ap (λ b. b || false) apart ∙ sym (ap (λ b. not b && ((m == k) || holds ks m)) f))))
    (λ f. ap (λ b. (m == k) || (not b && holds ks m)) f ∙ sym (ap (λ b. not b && ((m == k) || holds ks m)) f))))

holds-once : (ns : List ℕ) (m : ℕ) → holds (once ◌==◌ ns) m ≡ holds ns m
holds-once [] m = refl
holds-once (n ∷ ns) m =
    ap (λ b. (m == n) || b) (holds-left n m (once ◌==◌ ns) ∙ ap (λ b. not (n == m) && b) (holds-once ns m))
    ∙ by_equal n m (((m == n) || (not (n == m) && holds ns m)) ≡ ((m == n) || holds ns m))
    (λ f at. (let same : (m == n) ≡ true = grind (arith, nat_tests, at) in ap (λ b. b || (not (n == m) && holds ns m)) same ∙ sym (ap (λ b. b || holds ns m) same)))
    (λ f. ap (λ b. (m == n) || (not b && holds ns m)) f)

-- distinct numbers are those that were given
pub holds-distinct : (ns : List ℕ) (m : ℕ) → holds (distinct ns) m ≡ holds ns m
holds-distinct ns m = holds-once (ascending ns) m ∙ holds-sorted ns m

-- ---- distinct numbers ascend

abbrev Rises : ℕ → List ℕ → Type 0
Rises low [] = ⊤
Rises low (n ∷ ns) = (low ≤ n) × Rises n ns

rises-insert : (low n : ℕ) (ms : List ℕ) → low ≤ n → Rises low ms → Rises low (insert_ascending n ms)
rises-insert low n [] l r = (l, tt)
rises-insert low n (m ∷ ms) l r = (elim (nat_le n m) as (λ b. nat_le n m ≡ b → Rises low (if b then n ∷ m ∷ ms else m ∷ insert_ascending n ms)) [
  | true ↦ (λ e. (l, (leb-true n m e, r.1)))
  | false ↦ (λ e. (r.0, rises-insert m n ms (let less = leb-false n m e in omega (arith, less)) r.1))
]) refl

rises-sorted : (ns : List ℕ) → Rises 0 (ascending ns)
rises-sorted [] = tt
rises-sorted (n ∷ ns) = rises-insert 0 n (ascending ns) (omega arith) (rises-sorted ns)

pub Ascends-filter : (p : ℕ → Bool) (low : ℕ) (ns : List ℕ) → Ascends low ns → Ascends low (filter p ns)
Ascends-filter p low [] a = tt
Ascends-filter p low (n ∷ ns) a = (let rest = Ascends-filter p (n + 1) ns a.1 in elim (p n) as (λ b. Ascends low (if b then n ∷ filter p ns else filter p ns)) [
  | true ↦ (a.0, rest)
  | false ↦ Ascends-lower low (n + 1) (filter p ns) (omega (arith, a.0)) rest
])

-- what agrees from the first on keeps the same
pub kept-same : (low : ℕ) (p q : ℕ → Bool) (ns : List ℕ) → Ascends low ns → ((n : ℕ) → low ≤ n → p n ≡ q n) → filter p ns ≡ filter q ns
kept-same low p q [] a same = refl
kept-same low p q (n ∷ ns) a same = ap (λ b. if b then n ∷ filter p ns else filter p ns) (same n a.0) ∙ ap (λ xs. if q n then n ∷ xs else xs) (kept-same (n + 1) p q ns a.1 (λ m l. same m (let le = a.0 in omega (arith, le, l))))

Ascends-left : (n : ℕ) (ms : List ℕ) → Ascends n ms → Ascends (n + 1) (filter (λ k. not (n == k)) ms)
Ascends-left n [] a = tt
Ascends-left n (m ∷ ms) a =
    let rest = Ascends-filter (λ k. not (n == k)) (m + 1) ms a.1 in
    by_equal n m (Ascends (n + 1) (filter (λ k. not (n == k)) (m ∷ ms)))
    (λ e is. subst (λ b. Ascends (n + 1) (if not b then m ∷ filter (λ k. not (n == k)) ms else filter (λ k. not (n == k)) ms)) (sym e) (Ascends-lower (n + 1) (m + 1) (filter (λ k. not (n == k)) ms) (omega (arith, is)) rest))
    (λ e. subst (λ b. Ascends (n + 1) (if not b then m ∷ filter (λ k. not (n == k)) ms else filter (λ k. not (n == k)) ms)) (sym e) (grind (arith, nat_tests, e, a.0), rest))

Ascends-once : (low : ℕ) (ns : List ℕ) → Rises low ns → Ascends low (once ◌==◌ ns)
Ascends-once low [] r = tt
Ascends-once low (n ∷ ns) r = (r.0, Ascends-left n (once ◌==◌ ns) (Ascends-once n ns r.1))

pub Ascends-distinct : (ns : List ℕ) → Ascends 0 (distinct ns)
Ascends-distinct ns = Ascends-once 0 (ascending ns) (rises-sorted ns)

-- ---- what distinct numbers are

-- ascending numbers that hold what others hold are these, made distinct
pub distinct-is : (ns ms : List ℕ) → Ascends 0 ns → ((n : ℕ) → holds ns n ≡ holds ms n) → ns ≡ distinct ms
distinct-is ns ms a same = ascending-same 0 ns (distinct ms) a (Ascends-distinct ms) (λ n. same n ∙ sym (holds-distinct ms n))

pub distinct-same : (ns ms : List ℕ) → ((n : ℕ) → holds ns n ≡ holds ms n) → distinct ns ≡ distinct ms
distinct-same ns ms same = distinct-is (distinct ns) ms (Ascends-distinct ns) (λ n. holds-distinct ns n ∙ same n)

pub distinct-alone : (ns : List ℕ) → Ascends 0 ns → distinct ns ≡ ns
distinct-alone ns a = sym (distinct-is ns ns a (λ n. refl))

pub holds-append : (ns ms : List ℕ) (n : ℕ) → holds (ns ++ ms) n ≡ (holds ns n || holds ms n)
holds-append ns ms n = list_any-append (λ m. n == m) ns ms

-- ---- how many they are

Ascends-insert : (low n : ℕ) (ms : List ℕ) → low ≤ n → holds ms n ≡ false → Ascends low ms → Ascends low (insert_ascending n ms)
Ascends-insert low n [] l none a = (l, tt)
Ascends-insert low n (m ∷ ms) l none a =
    by_equal n m (Ascends low (insert_ascending n (m ∷ ms)))
    (λ e is. absurd (true≢false (sym (ap (λ b. b || holds ms n) e) ∙ none)))
    (λ e. (let none_left : holds ms n ≡ false = sym (ap (λ b. b || holds ms n) e) ∙ none in
    by_order n m (Ascends low (insert_ascending n (m ∷ ms)))
    (λ u. subst (λ b. Ascends low (if b then n ∷ m ∷ ms else m ∷ insert_ascending n ms)) (sym (le-leb n m u)) (l, (grind (arith, nat_tests, e, u), a.1)))
    (λ d. subst (λ b. Ascends low (if b then n ∷ m ∷ ms else m ∷ insert_ascending n ms)) (sym (lt-leb n m d)) (a.0, Ascends-insert (m + 1) n ms (omega (arith, d)) none_left a.1))))

-- one that is held already changes nothing
pub distinct-held : (ns : List ℕ) (n : ℕ) → holds ns n ≡ true → distinct (ns ++ n ∷ []) ≡ distinct ns
distinct-held ns n h = distinct-same (ns ++ n ∷ []) ns (λ m. holds-append ns (n ∷ []) m ∙ by_equal m n ((holds ns m || ((m == n) || false)) ≡ holds ns m)
    (λ e is. (let here : holds ns m ≡ true = ap (holds ns) is ∙ h in ap (λ b. b || ((m == n) || false)) here ∙ sym here))
    (λ e. ap (λ b. holds ns m || (b || false)) e ∙ or-false (holds ns m)))

-- one that isn't comes in
pub distinct-more : (ns : List ℕ) (n : ℕ) → holds ns n ≡ false → distinct (ns ++ n ∷ []) ≡ insert_ascending n (distinct ns)
distinct-more ns n none = sym (distinct-is (insert_ascending n (distinct ns)) (ns ++ n ∷ []) (Ascends-insert 0 n (distinct ns) (omega arith) (holds-distinct ns n ∙ none) (Ascends-distinct ns))
    (λ m. holds-insert n m (distinct ns) ∙ (ap (λ b. (m == n) || b) (holds-distinct ns m) ∙ (or-ends (m == n) (holds ns m) ∙ sym (holds-append ns (n ∷ []) m)))))

-- so there is one more, or as many
pub distinct-count : (ns : List ℕ) (n : ℕ) → length (distinct (ns ++ n ∷ [])) ≡ (if holds ns n then length (distinct ns) else length (distinct ns) + 1)
distinct-count ns n = (elim (holds ns n) as (λ b. holds ns n ≡ b → length (distinct (ns ++ n ∷ [])) ≡ (if b then length (distinct ns) else length (distinct ns) + 1)) [
  | true ↦ (λ e. ap length (distinct-held ns n e))
  | false ↦ (λ e. ap length (distinct-more ns n e) ∙ length-insert n (distinct ns))
]) refl

left-same : (m : ℕ) (ns ms : List ℕ) → Ascends (m + 1) ms → filter (λ k. not (holds (ns ++ m ∷ []) k)) ms ≡ filter (λ k. not (holds ns k)) ms
left-same m ns ms a = kept-same (m + 1) (λ k. not (holds (ns ++ m ∷ []) k)) (λ k. not (holds ns k)) ms a (λ k l. ap not (holds-append ns (m ∷ []) k ∙ (let apart : (k == m) ≡ false = grind (arith, nat_tests, l) in ap (λ b. holds ns k || (b || false)) apart ∙ or-false (holds ns k))))

pub length-kept : (p : ℕ → Bool) (ns : List ℕ) → length (filter p ns) ≤ length ns
length-kept p [] = omega arith
length-kept p (n ∷ ns) = (let ih = length-kept p ns in elim (p n) as (λ b. length (if b then n ∷ filter p ns else filter p ns) ≤ length (n ∷ ns)) [ true ↦ omega (arith, ih) | false ↦ omega (arith, ih) ])

pub length-once : (ns : List ℕ) → length (once ◌==◌ ns) ≤ length ns
length-once [] = omega arith
length-once (n ∷ ns) = (let ih = length-once ns in let kept = length-kept (λ m. not (n == m)) (once ◌==◌ ns) in omega (arith, ih, kept))

-- those of more numbers, by which of these are new
pub distinct-split : (low : ℕ) (ns ms : List ℕ) → Ascends low ms → length (distinct (ns ++ ms)) ≡ length (distinct ns) + length (filter (λ m. not (holds ns m)) ms)
distinct-split low ns [] a = ap (λ xs. length (distinct xs)) (append-nil ns) ∙ (let goal : length (distinct ns) ≡ length (distinct ns) + 0 = omega arith in goal)
distinct-split low ns (m ∷ ms) a =
    let ih = distinct-split (m + 1) (ns ++ m ∷ []) ms a.1 in
    let others = left-same m ns ms a.1 in
    let long = distinct-count ns m in
    ap (λ xs. length (distinct xs)) (sym (append_assoc ns (m ∷ []) ms)) ∙ (ih ∙ (ap (λ xs. length (distinct (ns ++ m ∷ [])) + length xs) others
    ∙ (ap (λ k. k + length (filter (λ m. not (holds ns m)) ms)) long
    ∙ (elim (holds ns m) as (λ b. (if b then length (distinct ns) else length (distinct ns) + 1) + length (filter (λ m. not (holds ns m)) ms) ≡ length (distinct ns) + length (if not b then m ∷ filter (λ m. not (holds ns m)) ms else filter (λ m. not (holds ns m)) ms)) [
      | true ↦ refl
      | false ↦ (let goal : length (distinct ns) + 1 + length (filter (λ m. not (holds ns m)) ms) ≡ length (distinct ns) + (length (filter (λ m. not (holds ns m)) ms) + 1) = omega arith in goal ∙ ap (λ k. length (distinct ns) + k) (add-one (length (filter (λ m. not (holds ns m)) ms))))
    ]))))

-- ---- moved numbers

-- a moved number, by the one that it was
moved-eq : (n m o : ℕ) → (m == n + o) ≡ (nat_le o m && (m - o == n))
moved-eq n m o = grind (arith, nat_tests)

pub holds-moved : (o : ℕ) (ns : List ℕ) (m : ℕ) → holds (map (λ n. n + o) ns) m ≡ (nat_le o m && holds ns (m - o))
holds-moved o [] m = sym (and-false (nat_le o m))
holds-moved o (n ∷ ns) m =
    ap (λ b. b || holds (map (λ n. n + o) ns) m) (moved-eq n m o) ∙ (ap (λ b. (nat_le o m && (m - o == n)) || b) (holds-moved o ns m) ∙ and-both (nat_le o m) (m - o == n) (holds ns (m - o)))

pub Ascends-moved : (o low : ℕ) (ns : List ℕ) → Ascends low ns → Ascends (low + o) (map (λ n. n + o) ns)
Ascends-moved o low [] a = tt
Ascends-moved o low (n ∷ ns) a = (let le = a.0 in omega (arith, le), Ascends-lower (n + o + 1) (n + 1 + o) (map (λ n. n + o) ns) (omega arith) (Ascends-moved o (n + 1) ns a.1))

-- what holds the same holds the same when it is moved
pub moved-same : (o : ℕ) (ns ms : List ℕ) → ((n : ℕ) → holds ns n ≡ holds ms n) → (m : ℕ) → holds (map (λ n. n + o) ns) m ≡ holds (map (λ n. n + o) ms) m
moved-same o ns ms same m = holds-moved o ns m ∙ (ap (λ b. nat_le o m && b) (same (m - o)) ∙ sym (holds-moved o ms m))

-- ---- a sort, and a pass that drops repeats

holds-dedup_from : (n : ℕ) (ns : List ℕ) (m : ℕ) → holds (dedup_from eqb n ns) m ≡ ((m == n) || holds ns m)
holds-dedup_from n [] m = refl
holds-dedup_from n (k ∷ ks) m =
    by_equal k n (holds (dedup_from eqb n (k ∷ ks)) m ≡ ((m == n) || ((m == k) || holds ks m)))
    (λ e is. ap (λ b. holds (if b then dedup_from eqb n ks else n ∷ dedup_from eqb k ks) m) e ∙ (holds-dedup_from n ks m ∙ (or-twice (m == n) (holds ks m) ∙ ap (λ x. (m == n) || ((m == x) || holds ks m)) (sym is))))
    (λ e. ap (λ b. holds (if b then dedup_from eqb n ks else n ∷ dedup_from eqb k ks) m) e ∙ ap (λ b. (m == n) || b) (holds-dedup_from k ks m))

holds-dedup : (ns : List ℕ) (m : ℕ) → holds (dedup eqb ns) m ≡ holds ns m
holds-dedup [] m = refl
holds-dedup (n ∷ ns) m = holds-dedup_from n ns m

Ascends-strict : (low : ℕ) (ns : List ℕ) → AllByRecursion (λ n. low ≤ n) ns → IsStrictlySortedBy nat_cmp ns → Ascends low ns
unfolding IsStrictlySortedBy
Ascends-strict low [] above s = tt
Ascends-strict low (n ∷ ns) above s = (above.0, Ascends-strict (n + 1) ns (all-above n ns s.0) s.1)
  where
    all-above : (n : ℕ) (ns : List ℕ) → AllByRecursion (λ m. nat_cmp n m ≡ Less) ns → AllByRecursion (λ m. n + 1 ≤ m) ns
    all-above n [] a = tt
    all-above n (m ∷ ms) a = (grind (arith, nat_tests, a.0), all-above n ms a.1)

all-from-zero : (ns : List ℕ) → AllByRecursion (λ n. 0 ≤ n) ns
all-from-zero [] = tt
all-from-zero (n ∷ ns) = (omega arith, all-from-zero ns)

-- what is left is distinct
pub sorted-distinct : (ns sorted left : List ℕ) → IsPermutation ns sorted → IsSorted nat_cmp sorted → left ≡ dedup eqb sorted → left ≡ distinct ns
sorted-distinct ns sorted left is rises dropped = dropped ∙ distinct-is (dedup eqb sorted) ns
    (Ascends-strict 0 (dedup eqb sorted) (all-from-zero (dedup eqb sorted)) (sorted_from_strictly_increasing (dedup eqb sorted) (IsStrictlyIncreasing-dedup sorted rises)))
    (λ m. holds-dedup sorted m ∙ sym (list_any-IsPermutation (λ k. m == k) ns sorted is))

-- a number is kept where the test holds of it
pub holds-filter : (p : ℕ → Bool) (ns : List ℕ) (m : ℕ) → holds (filter p ns) m ≡ (p m && holds ns m)
holds-filter p [] m = sym (and-false (p m))
holds-filter p (n ∷ ns) m =
    let ih = holds-filter p ns m in
    by_equal m n (holds (filter p (n ∷ ns)) m ≡ (p m && ((m == n) || holds ns m)))
    (λ e is. (elim (p n) as (λ b. p n ≡ b → holds (if b then n ∷ filter p ns else filter p ns) m ≡ (p m && ((m == n) || holds ns m))) [
      | true ↦ (λ t. ap (λ b. b || holds (filter p ns) m) e ∙ (sym (ap (λ b. true && (b || holds ns m)) e) ∙ ap (λ b. b && ((m == n) || holds ns m)) (sym (ap p is ∙ t))))
      | false ↦ (λ t. ih ∙ (ap (λ b. b && holds ns m) (ap p is ∙ t) ∙ ap (λ b. b && ((m == n) || holds ns m)) (sym (ap p is ∙ t))))
    ]) refl)
    (λ e. elim (p n) as (λ b. holds (if b then n ∷ filter p ns else filter p ns) m ≡ (p m && ((m == n) || holds ns m))) [
      | true ↦ ap (λ b. b || holds (filter p ns) m) e ∙ (ih ∙ ap (λ b. p m && (b || holds ns m)) (sym e))
      | false ↦ ih ∙ ap (λ b. p m && (b || holds ns m)) (sym e)
    ])

-- the words of a slice's `contains`
pub holds-contains : (ns : List ℕ) (n : ℕ) → list_any (λ m. m == n) ns ≡ holds ns n
holds-contains [] n = refl
holds-contains (m ∷ ms) n = (let turned : (m == n) ≡ (n == m) = grind (arith, nat_tests) in ap (λ b. b || list_any (λ k. k == n) ms) turned ∙ ap (λ b. (n == m) || b) (holds-contains ms n))

-- one number more of a list
count-more : (ns : List ℕ) (i d count : ℕ) → i < length ns → count ≡ length (distinct (take i ns)) → (if list_any (λ m. m == get_or ns i d) (take i ns) then count else count + 1) ≡ length (distinct (take (i + 1) ns))
count-more ns i d count l so =
    let n : ℕ = get_or ns i d in
    ap (λ b. if b then count else count + 1) (holds-contains (take i ns) n)
    ∙ (ap (λ k. if holds (take i ns) n then k else k + 1) so
    ∙ (sym (distinct-count (take i ns) n) ∙ ap (λ xs. length (distinct xs)) (sym (take-suc ns i d l) ∙ ap (λ k. take k ns) (sym (add-one i)))))

-- those that a list hasn't, beside it
pub left-same_distinct : (ns ms : List ℕ) (m : ℕ) → (holds ns m || holds (filter (λ k. not (holds ns k)) ms) m) ≡ (holds ns m || holds ms m)
left-same_distinct ns ms m = ap (λ b. holds ns m || b) (holds-filter (λ k. not (holds ns k)) ms m) ∙ or-not (holds ns m) (holds ms m)

pub distinct-beside : (ns ms : List ℕ) → distinct (ns ++ filter (λ k. not (holds ns k)) ms) ≡ distinct (ns ++ ms)
distinct-beside ns ms = distinct-same (ns ++ filter (λ k. not (holds ns k)) ms) (ns ++ ms) (λ m. holds-append ns (filter (λ k. not (holds ns k)) ms) m ∙ (left-same_distinct ns ms m ∙ sym (holds-append ns ms m)))

-- numbers made distinct beside others are these others
pub distinct-left : (ns ms : List ℕ) → distinct (distinct ns ++ ms) ≡ distinct (ns ++ ms)
distinct-left ns ms = distinct-same (distinct ns ++ ms) (ns ++ ms) (λ m. holds-append (distinct ns) ms m ∙ (ap (λ b. b || holds ms m) (holds-distinct ns m) ∙ sym (holds-append ns ms m)))

pub distinct-right : (ns ms : List ℕ) → distinct (ns ++ distinct ms) ≡ distinct (ns ++ ms)
distinct-right ns ms = distinct-same (ns ++ distinct ms) (ns ++ ms) (λ m. holds-append ns (distinct ms) m ∙ (ap (λ b. holds ns m || b) (holds-distinct ms m) ∙ sym (holds-append ns ms m)))

-- one number more of a list, where none before is the same
pub count-new : (ns : List ℕ) (i d count : ℕ) → i < length ns → list_any (λ m. m == get_or ns i d) (take i ns) ≡ false → count ≡ length (distinct (take i ns)) → count + 1 ≡ length (distinct (take (i + 1) ns))
count-new ns i d count l none so = sym (ap (λ b. if b then count else count + 1) none) ∙ count-more ns i d count l so

-- and where one is
pub count-old : (ns : List ℕ) (i d count : ℕ) → i < length ns → list_any (λ m. m == get_or ns i d) (take i ns) ≡ true → count ≡ length (distinct (take i ns)) → count ≡ length (distinct (take (i + 1) ns))
count-old ns i d count l some so = sym (ap (λ b. if b then count else count + 1) some) ∙ count-more ns i d count l so

pub filter-agrees : (p q : ℕ → Bool) (ns : List ℕ) → ((n : ℕ) → p n ≡ q n) → filter p ns ≡ filter q ns
filter-agrees p q [] same = refl
filter-agrees p q (n ∷ ns) same = ap (λ b. if b then n ∷ filter p ns else filter p ns) (same n) ∙ ap (λ xs. if q n then n ∷ xs else xs) (filter-agrees p q ns same)

-- there are no more than were given
pub length-distinct : (ns : List ℕ) → length (distinct ns) ≤ length ns
length-distinct ns = (let all = length-once (ascending ns) in let sorted = length-sorted ns in omega (arith, all, sorted))
