-- Numbers of documents, counted off one document after another.
use Rattle.std.proofs.Common.{[], List, ap, arith, drop, get_or, length, subst, suc, sum, sym, take, zero, ◌+◌, ◌-◌, ◌<◌, ◌≡◌, ◌≤◌, ◌∙◌, ◌∷◌, ◌^◌, ℕ}
use Rattle.std.proofs.Math.Seq.{take-add}
use Rattle.std.proofs.lemmas.List.{drop_more}
use Rattle.std.proofs.lemmas.List.Sums.{sum_by-append, sum_by-cons, sum_by-take-drop}
use Rattle.segment_postings.specs.Placed.{LastPositionsFit}
use Rattle.codes.proofs.UnpackedBlocks.{drop_drop}

-- the documents up to one are bounded, and what is left decides
pub record Bounds (counts whole numbers : List ℕ) (i index : ℕ) : Type 0 where
  pub sound : LastPositionsFit (drop i counts) (drop index numbers) → LastPositionsFit counts whole
  pub complete : LastPositionsFit counts whole → LastPositionsFit (drop i counts) (drop index numbers)

-- ---- several documents at once

bounded_join : (n : ℕ) (counts numbers : List ℕ) → LastPositionsFit (take n counts) numbers → LastPositionsFit (drop n counts) (drop (sum (take n counts)) numbers) → LastPositionsFit counts numbers
bounded_join zero counts numbers first rest = rest
bounded_join (suc n) [] numbers first rest = tt
bounded_join (suc n) (c ∷ cs) numbers first rest =
    let total : sum (c ∷ take n cs) ≡ c + sum (take n cs) = sum_by-cons (λ x. x) c (take n cs) in
    let same : drop (sum (c ∷ take n cs)) numbers ≡ drop (sum (take n cs)) (drop c numbers) = ap (λ k. drop k numbers) total ∙ sym (drop_drop c (sum (take n cs)) numbers) in
    (first.0, bounded_join n cs (drop c numbers) first.1 (subst (λ xs. LastPositionsFit (drop n cs) xs) same rest))

bounded_split : (n : ℕ) (counts numbers : List ℕ) → LastPositionsFit counts numbers → LastPositionsFit (take n counts) numbers × LastPositionsFit (drop n counts) (drop (sum (take n counts)) numbers)
bounded_split zero counts numbers b = (tt, b)
bounded_split (suc n) [] numbers b = (tt, tt)
bounded_split (suc n) (c ∷ cs) numbers b =
    let total : sum (c ∷ take n cs) ≡ c + sum (take n cs) = sum_by-cons (λ x. x) c (take n cs) in
    let same : drop (sum (c ∷ take n cs)) numbers ≡ drop (sum (take n cs)) (drop c numbers) = ap (λ k. drop k numbers) total ∙ sym (drop_drop c (sum (take n cs)) numbers) in
    let later = bounded_split n cs (drop c numbers) b.1 in
    ((b.0, later.0), subst (λ xs. LastPositionsFit (drop n cs) xs) (sym same) later.1)

-- the blocks up to one are bounded, and what is left decides
pub record Leaves (counts numbers left : List ℕ) (index : ℕ) : Type 0 where
  pub sound : LastPositionsFit left (drop index numbers) → LastPositionsFit counts numbers
  pub complete : LastPositionsFit counts numbers → LastPositionsFit left (drop index numbers)
  pub many : index + sum left ≡ length numbers

pub block_sum : (left : List ℕ) → sum (take 128 left) + sum (drop 128 left) ≡ sum left
block_sum left = sum_by-take-drop (λ x. x) left 128

pub leaves_more : (counts numbers left : List ℕ) (index end : ℕ) → Leaves counts numbers left index → LastPositionsFit (take 128 left) (drop index numbers) → end ≡ index + sum (take 128 left) → Leaves counts numbers (drop 128 left) end
leaves_more counts numbers left index end so_far b is =
    let same : drop (sum (take 128 left)) (drop index numbers) ≡ drop end numbers = drop_drop index (sum (take 128 left)) numbers ∙ ap (λ k. drop k numbers) (sym is) in
    let many = so_far.many in
    let both = block_sum left in
    record {
      sound = λ r. so_far.sound (bounded_join 128 left (drop index numbers) b (subst (λ xs. LastPositionsFit (drop 128 left) xs) (sym same) r));
      complete = λ all. subst (λ xs. LastPositionsFit (drop 128 left) xs) same (bounded_split 128 left (drop index numbers) (so_far.complete all)).1;
      many = omega (arith, many, both, is);
    }

pub leaves_not : (counts numbers left : List ℕ) (index : ℕ) → Leaves counts numbers left index → (LastPositionsFit (take 128 left) (drop index numbers) → ⊥) → LastPositionsFit counts numbers → ⊥
leaves_not counts numbers left index so_far none all = none (bounded_split 128 left (drop index numbers) (so_far.complete all)).0

-- ---- pieces of one document

pub piece_more : (numbers : List ℕ) (index done len : ℕ) → sum (take done (drop index numbers)) + sum (take len (drop (index + done) numbers)) ≡ sum (take (done + len) (drop index numbers))
piece_more numbers index done len =
    let xs = drop index numbers in
    ap (λ ys. sum (take done xs) + sum (take len ys)) (sym (drop_drop index done numbers))
    ∙ (sym (sum_by-append (λ x. x) (take done xs) (take len (drop done xs)))
    ∙ ap sum (sym (take-add done len xs)))

-- a part has no greater sum
pub piece_least : (xs : List ℕ) (m n : ℕ) → m ≤ n → sum (take m xs) ≤ sum (take n xs)
piece_least xs m n few =
    let split : m + (n - m) ≡ n = omega (arith, few) in
    let same : sum (take n xs) ≡ sum (take m xs) + sum (take (n - m) (drop m xs)) = ap (λ k. sum (take k xs)) (sym split) ∙ (ap sum (take-add m (n - m) xs) ∙ sum_by-append (λ x. x) (take m xs) (take (n - m) (drop m xs))) in
    omega (arith, same)

-- no more than all of it
pub prefix_next : (counts : List ℕ) (i : ℕ) → i < length counts → sum (take i counts) + get_or counts i 0 ≤ sum counts
prefix_next counts i within =
    let both = sum_by-take-drop (λ x. x) counts i in
    let next : sum (drop i counts) ≡ sum (get_or counts i 0 ∷ drop (i + 1) counts) = ap sum (drop_more counts i 0 within) in
    let first = sum_by-cons (λ x. x) (get_or counts i 0) (drop (i + 1) counts) in
    omega (arith, both, next, first)

-- documents are bounded whose numbers have such a sum all together
pub bounded_together : (counts numbers : List ℕ) → sum (take (sum counts) numbers) < 2 ^ 31 → LastPositionsFit counts numbers
bounded_together [] numbers few = tt
bounded_together (n ∷ ns) numbers few =
    let total : sum (n ∷ ns) ≡ n + sum ns = sum_by-cons (λ x. x) n ns in
    let split : sum (take (sum (n ∷ ns)) numbers) ≡ sum (take n numbers) + sum (take (sum ns) (drop n numbers)) = ap (λ k. sum (take k numbers)) total ∙ (ap sum (take-add n (sum ns) numbers) ∙ sum_by-append (λ x. x) (take n numbers) (take (sum ns) (drop n numbers))) in
    (omega (arith, split, few), bounded_together ns (drop n numbers) (omega (arith, split, few)))
