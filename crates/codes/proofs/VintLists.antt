-- Lists of numbers in bytes of seven bits, number by number.
use Rattle.std.proofs.Common.{[], Bool, IsSome, List, None, Option, Some, add-one, ap, append-nil, ap₂, append_assoc, arith, drop, false, length, length-append, option_map, refl, set, subst, suc, sym, take, true, zero, ◌+◌, ◌++◌, ◌-◌, ◌<◌, ◌≡◌, ◌≢◌, ◌≤◌, ◌∙◌, ◌∷◌, ◌^◌, ℕ, nat_eq}
use Rattle.std.proofs.lemmas.Bool.Decides.{nat_tests}
use Rattle.std.proofs.Math.Seq.{drop-append_seam, take-suc-set}
use Rattle.std.specs.List.{AllByRecursion}
use Rattle.common.proofs.TakenBack.{vint_put}
use Rattle.common.proofs.WordBytes.{back_bytes as last_bytes}
use Rattle.definitions.proofs.Lists.{all_behind}
use Rattle.definitions.specs.Json.{only_if, ◌>>=◌}
use Rattle.definitions.specs.NumberCodes.{AreBytes, take_vint, vint_bytes}
use Rattle.layouts.specs.VintBlocks.{is_u32, numbers_bytes, take_all_numbers, take_number, take_numbers}

-- ---- putting

-- ---- taking numbers

-- numbers behind those that were taken
abbrev pub prefixed : List ℕ → Option (List ℕ × List ℕ) → Option (List ℕ × List ℕ)
prefixed xs o = option_map (λ p. (xs ++ p.0, p.1)) o

number_more : (xs rest after : List ℕ) (j n : ℕ) → take_number rest ≡ Some (n, after) → prefixed xs (take_numbers (suc j) rest) ≡ prefixed (xs ++ n ∷ []) (take_numbers j after)
number_more xs rest after j n taken = ap (λ o. prefixed xs (o >>= (λ p. take_numbers j p.1 >>= (λ q. Some (p.0 ∷ q.0, q.1))))) taken ∙ go (take_numbers j after)
  where
    go : (o : Option (List ℕ × List ℕ)) → prefixed xs (o >>= (λ q. Some (n ∷ q.0, q.1))) ≡ prefixed (xs ++ n ∷ []) o
    go None = refl
    go (Some q) = ap (λ ys. Some (ys, q.1)) (sym (append_assoc xs (n ∷ []) q.0))

pub number_read : (bytes rest after out : List ℕ) (count i n : ℕ) → take_numbers count bytes ≡ prefixed (take i out) (take_numbers (count - i) rest) → i < count → i < length out → take_number rest ≡ Some (n, after) → take_numbers count bytes ≡ prefixed (take (i + 1) (set out i n)) (take_numbers (count - (i + 1)) after)
number_read bytes rest after out count i n so_far more inside taken =
    let left : count - i ≡ suc (count - (i + 1)) = omega arith in
    so_far
    ∙ ap (λ k. prefixed (take i out) (take_numbers k rest)) left
    ∙ number_more (take i out) rest after (count - (i + 1)) n taken
    ∙ ap (λ xs. prefixed xs (take_numbers (count - (i + 1)) after)) (sym (take-suc-set out i n inside) ∙ ap (λ k. take k (set out i n)) (sym (add-one i)))

pub number_unread : (bytes rest out : List ℕ) (count i : ℕ) → take_numbers count bytes ≡ prefixed (take i out) (take_numbers (count - i) rest) → i < count → take_number rest ≡ None → take_numbers count bytes ≡ None
number_unread bytes rest out count i so_far more none =
    let left : count - i ≡ suc (count - (i + 1)) = omega arith in
    so_far
    ∙ ap (λ k. prefixed (take i out) (take_numbers k rest)) left
    ∙ ap (λ o. prefixed (take i out) (o >>= (λ p. take_numbers (count - (i + 1)) p.1 >>= (λ q. Some (p.0 ∷ q.0, q.1))))) none

pub all_read : (bytes rest out : List ℕ) (count i : ℕ) → take_numbers count bytes ≡ prefixed (take i out) (take_numbers (count - i) rest) → i ≡ count → take_numbers count bytes ≡ Some (take count out, rest)
all_read bytes rest out count i so_far all =
    let none : count - i ≡ 0 = omega arith in
    so_far
    ∙ ap (λ k. prefixed (take i out) (take_numbers k rest)) none
    ∙ ap (λ xs. Some (xs, rest)) (append-nil (take i out) ∙ ap (λ k. take k out) all)

-- ---- what is taken was put

pub number_put : (bs : List ℕ) (n : ℕ) (rest : List ℕ) → AreBytes bs → take_number bs ≡ Some (n, rest) → (n < 2 ^ 32) × (bs ≡ vint_bytes n ++ rest)
number_put bs n rest bytes taken = go (take_vint bs) refl taken
  where
    of_some : (p : ℕ × List ℕ) (t : Bool) → is_u32 p.0 ≡ t → take_vint bs ≡ Some p → only_if t (Some p) ≡ Some (n, rest) → (n < 2 ^ 32) × (bs ≡ vint_bytes n ++ rest)
    of_some p false e first is = cc
    of_some p true e first is =
        let small : p.0 < 2 ^ 32 = grind (arith, nat_tests) in
        let same : p.0 ≡ n = cc in
        let whole : Some p ≡ Some (n, rest) = is in
        (subst (λ m. m < 2 ^ 32) same small, (vint_put bs n rest bytes (first ∙ whole)).1)

    go : (o : Option (ℕ × List ℕ)) → take_vint bs ≡ o → (o >>= (λ p. only_if (is_u32 p.0) (Some p))) ≡ Some (n, rest) → (n < 2 ^ 32) × (bs ≡ vint_bytes n ++ rest)
    go None e is = cc
    go (Some p) e is = of_some p (is_u32 p.0) refl e is

-- numbers that stand first
pub record Stand (n : ℕ) (bs ns rest : List ℕ) : Type 0 where
  pub many : length ns ≡ n
  pub small : AllByRecursion (λ m. m < 2 ^ 32) ns
  pub put : bs ≡ numbers_bytes ns ++ rest

-- a number before those that were taken
abbrev pub before : ℕ → Option (List ℕ × List ℕ) → Option (List ℕ × List ℕ)
before m o = o >>= (λ q. Some (m ∷ q.0, q.1))

-- the parts of what is taken
abbrev numbers_in : List ℕ → Option (List ℕ × List ℕ) → List ℕ
numbers_in bs None = bs
numbers_in bs (Some q) = q.0

abbrev rest_in : List ℕ → Option (List ℕ × List ℕ) → List ℕ
rest_in bs None = bs
rest_in bs (Some q) = q.1

pub numbers_put : (n : ℕ) (bs ns rest : List ℕ) → AreBytes bs → take_numbers n bs ≡ Some (ns, rest) → Stand n bs ns rest
numbers_put zero bs ns rest bytes taken =
    let first : [] ≡ ns = ap (numbers_in bs) taken in
    let after : bs ≡ rest = ap (rest_in bs) taken in
    subst (λ xs. Stand 0 bs xs rest) first (record { many = refl; small = tt; put = after })
numbers_put (suc n) bs ns rest bytes taken = go (λ more left few e. numbers_put n more left rest few e) (take_number bs) refl taken
  where
    later : ((more left : List ℕ) → AreBytes more → take_numbers n more ≡ Some (left, rest) → Stand n more left rest) → (m : ℕ) (more left : List ℕ) → take_number bs ≡ Some (m, more) → take_numbers n more ≡ Some (left, rest) → m ∷ left ≡ ns → Stand (suc n) bs ns rest
    later all m more left first e is =
        let put = number_put bs m more bytes first in
        let stand = all more left (last_bytes (vint_bytes m) more (subst AreBytes put.1 bytes)) e in
        subst (λ xs. Stand (suc n) bs xs rest) is (record {
          many = ap suc stand.many;
          small = (put.0, stand.small);
          put = put.1 ∙ ap (λ xs. vint_bytes m ++ xs) stand.put ∙ sym (append_assoc (vint_bytes m) (numbers_bytes left) rest);
        })

    of_some : ((more left : List ℕ) → AreBytes more → take_numbers n more ≡ Some (left, rest) → Stand n more left rest) → (m : ℕ) (more : List ℕ) (o : Option (List ℕ × List ℕ)) → take_numbers n more ≡ o → take_number bs ≡ Some (m, more) → before m o ≡ Some (ns, rest) → Stand (suc n) bs ns rest
    of_some all m more None e first is = cc
    of_some all m more (Some (left, end)) e first is =
        let same : m ∷ left ≡ ns = ap (numbers_in bs) is in
        let after : end ≡ rest = ap (rest_in bs) is in
        later all m more left first (e ∙ ap (λ r. Some (left, r)) after) same

    go : ((more left : List ℕ) → AreBytes more → take_numbers n more ≡ Some (left, rest) → Stand n more left rest) → (o : Option (ℕ × List ℕ)) → take_number bs ≡ o → (o >>= (λ p. before p.0 (take_numbers n p.1))) ≡ Some (ns, rest) → Stand (suc n) bs ns rest
    go all None e is = cc
    go all (Some (m, more)) e is = of_some all m more (take_numbers n more) refl e is

-- what follows is what is left of the bytes
pub rest_follows : (bs xs rest : List ℕ) → bs ≡ xs ++ rest → (length rest ≤ length bs) × (drop (length bs - length rest) bs ≡ rest)
rest_follows bs xs rest is =
    let long : length bs ≡ length xs + length rest = ap length is ∙ length-append xs rest in
    let taken : length bs - length rest ≡ length xs = omega (arith, long) in
    (omega (arith, long), ap₂ drop taken is ∙ drop-append_seam xs rest)

pub numbers_follow : (n : ℕ) (bs ns rest : List ℕ) → AreBytes bs → take_numbers n bs ≡ Some (ns, rest) → (length rest ≤ length bs) × (take_numbers n bs ≡ Some (ns, drop (length bs - length rest) bs))
numbers_follow n bs ns rest bytes taken =
    let stand = numbers_put n bs ns rest bytes taken in
    let follow = rest_follows bs (numbers_bytes ns) rest stand.put in
    (follow.0, taken ∙ ap (λ r. Some (ns, r)) (sym follow.1))

-- ---- numbers up to the end

take_all_some : (j : ℕ) (rest : List ℕ) → length rest ≢ 0 → take_all_numbers (suc j) rest ≡ (take_number rest >>= (λ p. take_all_numbers j p.1 >>= (λ ns. Some (p.0 ∷ ns))))
take_all_some j [] more = absurd (more refl)
take_all_some j (b ∷ bs) more = refl

take_all_full : (rest : List ℕ) → length rest ≢ 0 → take_all_numbers 0 rest ≡ None
take_all_full [] more = absurd (more refl)
take_all_full (b ∷ bs) more = refl

pub one_read : (bytes rest after out : List ℕ) (room i n : ℕ) → take_all_numbers room bytes ≡ all_behind (take i out) (take_all_numbers (room - i) rest) → i < room → i < length out → length rest ≢ 0 → take_number rest ≡ Some (n, after) → take_all_numbers room bytes ≡ all_behind (take (i + 1) (set out i n)) (take_all_numbers (room - (i + 1)) after)
one_read bytes rest after out room i n so_far fewer inside more taken =
    let left : room - i ≡ suc (room - (i + 1)) = omega arith in
    so_far
    ∙ ap (λ k. all_behind (take i out) (take_all_numbers k rest)) left
    ∙ ap (all_behind (take i out)) (take_all_some (room - (i + 1)) rest more ∙ ap (λ o. o >>= (λ p. take_all_numbers (room - (i + 1)) p.1 >>= (λ ns. Some (p.0 ∷ ns)))) taken)
    ∙ go (take_all_numbers (room - (i + 1)) after)
    ∙ ap (λ xs. all_behind xs (take_all_numbers (room - (i + 1)) after)) (sym (take-suc-set out i n inside) ∙ ap (λ k. take k (set out i n)) (sym (add-one i)))
  where
    go : (o : Option (List ℕ)) → all_behind (take i out) (o >>= (λ ns. Some (n ∷ ns))) ≡ all_behind (take i out ++ n ∷ []) o
    go None = refl
    go (Some ns) = ap Some (sym (append_assoc (take i out) (n ∷ []) ns))

pub one_unread : (bytes rest out : List ℕ) (room i : ℕ) → take_all_numbers room bytes ≡ all_behind (take i out) (take_all_numbers (room - i) rest) → i < room → length rest ≢ 0 → take_number rest ≡ None → take_all_numbers room bytes ≡ None
one_unread bytes rest out room i so_far fewer more none =
    let left : room - i ≡ suc (room - (i + 1)) = omega arith in
    so_far
    ∙ ap (λ k. all_behind (take i out) (take_all_numbers k rest)) left
    ∙ ap (all_behind (take i out)) (take_all_some (room - (i + 1)) rest more ∙ ap (λ o. o >>= (λ p. take_all_numbers (room - (i + 1)) p.1 >>= (λ ns. Some (p.0 ∷ ns)))) none)

pub no_room : (bytes rest out : List ℕ) (room i : ℕ) → take_all_numbers room bytes ≡ all_behind (take i out) (take_all_numbers (room - i) rest) → i ≡ room → length rest ≢ 0 → take_all_numbers room bytes ≡ None
no_room bytes rest out room i so_far full more =
    let none : room - i ≡ 0 = omega arith in
    so_far ∙ ap (λ k. all_behind (take i out) (take_all_numbers k rest)) none ∙ ap (all_behind (take i out)) (take_all_full rest more)

-- where all numbers can be taken, so can the next
pub next_number : (rest out : List ℕ) (room i : ℕ) → IsSome (all_behind (take i out) (take_all_numbers (room - i) rest)) → length rest ≢ 0 → (i < room) × IsSome (take_number rest)
next_number rest out room i some more = go (room - i) refl some
  where
    of_number : (j : ℕ) (o : Option (ℕ × List ℕ)) → IsSome (all_behind (take i out) (o >>= (λ p. take_all_numbers j p.1 >>= (λ ns. Some (p.0 ∷ ns))))) → IsSome o
    of_number j None is = is
    of_number j (Some p) is = refl

    go : (k : ℕ) → room - i ≡ k → IsSome (all_behind (take i out) (take_all_numbers k rest)) → (i < room) × IsSome (take_number rest)
    go zero e is = absurd (nothing (subst (λ o. IsSome (all_behind (take i out) o)) (take_all_full rest more) is))
      where
        nothing : IsSome {T = List ℕ} None → ⊥
        nothing is = cc
    go (suc k) e is = (omega arith, of_number k (take_number rest) (subst (λ o. IsSome (all_behind (take i out) o)) (take_all_some k rest more) is))

pub first_of_numbers : (rest out : List ℕ) (count i : ℕ) → IsSome (prefixed (take i out) (take_numbers (count - i) rest)) → i < count → IsSome (take_number rest)
first_of_numbers rest out count i some more =
    let left : count - i ≡ suc (count - (i + 1)) = omega arith in
    of_number (take_number rest) (subst (λ k. IsSome (prefixed (take i out) (take_numbers k rest))) left some)
  where
    of_number : (o : Option (ℕ × List ℕ)) → IsSome (prefixed (take i out) (o >>= (λ p. take_numbers (count - (i + 1)) p.1 >>= (λ q. Some (p.0 ∷ q.0, q.1))))) → IsSome o
    of_number None is = is
    of_number (Some p) is = refl

pub all_behind_nothing : (o : Option (List ℕ)) → o ≡ all_behind [] o
all_behind_nothing None = refl
all_behind_nothing (Some ns) = refl

pub is_not_empty : (n : ℕ) → false ≡ nat_eq n 0 → n ≢ 0
is_not_empty n e = (let e' : nat_eq n 0 ≡ false = sym e in grind (arith, nat_tests))
