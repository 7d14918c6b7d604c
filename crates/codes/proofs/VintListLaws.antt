-- Lists that were put are taken back, and lists that are taken were put.
use Rattle.std.proofs.Common.{[], Bool, List, None, Option, Some, ap, ap₂, append_assoc, arith, false, length, option_map, refl, subst, suc, sym, true, zero, ◌&&◌, ◌+◌, ◌++◌, ◌<◌, ◌≡◌, ◌≤◌, ◌∙◌, ◌∷◌, ◌^◌, ℕ}
use Rattle.std.proofs.lemmas.Bool.Decides.{nat_tests}
use Rattle.std.specs.List.{AllByRecursion, list_all}
use Rattle.codes.proofs.StrictDeltaSums.{length-deltas, ascending-documents as documents_ascend, documents-deltas as documents_of_deltas, deltas-documents as deltas_of_documents}
use Rattle.common.proofs.TakenBack.{vint_back, string_of as documents_in}
use Rattle.definitions.specs.Json.{only_if, ◌>>=◌}
use Rattle.definitions.specs.NumberCodes.{AreBytes, vint_bytes}
use Rattle.layouts.specs.Deltas.{IsAscendingFrom, deltas, documents, next_of}
use Rattle.layouts.specs.VintBlocks.{documents_bytes, is_u32, numbers_bytes, take_all_numbers, take_documents, take_number, take_numbers}
use Rattle.codes.proofs.VintLists.{before, number_put, numbers_put}
use Rattle.common.proofs.WordBytes.{back_bytes as last_bytes}

-- every number is below 2^32
abbrev pub Small : List ℕ → Type 0
Small xs = AllByRecursion (λ n. n < 2 ^ 32) xs

-- ---- what was put

number_back : (n : ℕ) (rest : List ℕ) → n < 2 ^ 32 → take_number (vint_bytes n ++ rest) ≡ Some (n, rest)
number_back n rest small =
    let e : is_u32 n ≡ true = grind (arith, nat_tests) in
    ap (λ o. o >>= (λ p. only_if (is_u32 p.0) (Some p))) (vint_back n rest (omega arith)) ∙ ap (λ t. only_if t (Some (n, rest))) e

pub numbers_back : (ns rest : List ℕ) → Small ns → take_numbers (length ns) (numbers_bytes ns ++ rest) ≡ Some (ns, rest)
numbers_back [] rest small = refl
numbers_back (n ∷ ns) rest small =
    ap (take_numbers (suc (length ns))) (append_assoc (vint_bytes n) (numbers_bytes ns) rest)
    ∙ ap (λ o. o >>= (λ p. before p.0 (take_numbers (length ns) p.1))) (number_back n (numbers_bytes ns ++ rest) small.0)
    ∙ ap (before n) (numbers_back ns rest small.1)

-- the next of all numbers, where bytes are left
one_of_all : (room n : ℕ) (bs rest : List ℕ) → take_number bs ≡ Some (n, rest) → take_all_numbers (suc room) bs ≡ option_map (λ ns. n ∷ ns) (take_all_numbers room rest)
one_of_all room n [] rest taken = cc
one_of_all room n (b ∷ bs) rest taken = ap (λ o. o >>= (λ p. take_all_numbers room p.1 >>= (λ ns. Some (p.0 ∷ ns)))) taken ∙ go (take_all_numbers room rest)
  where
    go : (o : Option (List ℕ)) → (o >>= (λ ns. Some (n ∷ ns))) ≡ option_map (λ ns. n ∷ ns) o
    go None = refl
    go (Some ns) = refl

pub all_back : (room : ℕ) (ns : List ℕ) → length ns ≤ room → Small ns → take_all_numbers room (numbers_bytes ns) ≡ Some ns
all_back zero [] fits small = refl
all_back (suc room) [] fits small = refl
all_back zero (n ∷ ns) fits small = absurd (omega arith)
all_back (suc room) (n ∷ ns) fits small =
    one_of_all room n (vint_bytes n ++ numbers_bytes ns) (numbers_bytes ns) (number_back n (numbers_bytes ns) small.0)
    ∙ ap (option_map (λ ms. n ∷ ms)) (all_back room ns (omega arith) small.1)

small_deltas : (next : ℕ) (ds : List ℕ) → Small ds → Small (deltas next ds)
small_deltas next [] small = tt
small_deltas next (d ∷ ds) small = (let below : d < 2 ^ 32 = small.0 in omega arith, small_deltas (d + 1) ds small.1)

all_small : (ds : List ℕ) → Small ds → list_all is_u32 ds ≡ true
all_small [] small = refl
all_small (d ∷ ds) small = (let below : d < 2 ^ 32 = small.0 in let e : is_u32 d ≡ true = grind (arith, nat_tests) in ap₂ (λ a b. a && b) e (all_small ds small.1))

-- the documents of numbers, where they are small
abbrev pub kept : ℕ → List ℕ × List ℕ → Option (List ℕ × List ℕ)
kept next p = only_if (list_all is_u32 (documents next p.0)) (Some (documents next p.0, p.1))

pub documents_back : (offset : ℕ) (ds rest : List ℕ) → IsAscendingFrom (next_of offset) ds → Small ds → take_documents offset (length ds) (documents_bytes offset ds ++ rest) ≡ Some (ds, rest)
documents_back offset ds rest ascends small =
    let next = next_of offset in
    ap (λ n. take_documents offset n (documents_bytes offset ds ++ rest)) (sym (length-deltas next ds))
    ∙ ap (λ o. o >>= kept next) (numbers_back (deltas next ds) rest (small_deltas next ds small))
    ∙ ap (λ es. only_if (list_all is_u32 es) (Some (es, rest))) (documents_of_deltas next ds ascends)
    ∙ ap (λ t. only_if t (Some (ds, rest))) (all_small ds small)

-- ---- what is taken

pub numbers_stood : (n : ℕ) (bs ns rest : List ℕ) → AreBytes bs → take_numbers n bs ≡ Some (ns, rest) → (length ns ≡ n) × Small ns × (bs ≡ numbers_bytes ns ++ rest)
numbers_stood n bs ns rest bytes taken = (let stand = numbers_put n bs ns rest bytes taken in (stand.many, stand.small, stand.put))

pub length-documents : (next : ℕ) (xs : List ℕ) → length (documents next xs) ≡ length xs
length-documents next [] = refl
length-documents next (x ∷ xs) = ap suc (length-documents (next + x + 1) xs)

small_all : (ds : List ℕ) → list_all is_u32 ds ≡ true → Small ds
small_all [] e = tt
small_all (d ∷ ds) e = go (λ all. small_all ds all) (is_u32 d) refl e
  where
    go : (list_all is_u32 ds ≡ true → Small ds) → (t : Bool) → is_u32 d ≡ t → (t && list_all is_u32 ds) ≡ true → Small (d ∷ ds)
    go later true is all = (grind (arith, nat_tests), later all)
    go later false is all = cc

abbrev rest_in : Option (List ℕ × List ℕ) → List ℕ
rest_in None = []
rest_in (Some q) = q.1

abbrev pub some_if : Bool → List ℕ × List ℕ → Option (List ℕ × List ℕ)
some_if t q = only_if t (Some q)

pub documents_stood : (offset n : ℕ) (bs ds rest : List ℕ) → AreBytes bs → take_documents offset n bs ≡ Some (ds, rest) → (length ds ≡ n) × IsAscendingFrom (next_of offset) ds × Small ds × (bs ≡ documents_bytes offset ds ++ rest)
documents_stood offset n bs ds rest bytes taken = go (take_numbers n bs) refl taken
  where
    of_some : (xs more : List ℕ) (t : Bool) → list_all is_u32 (documents (next_of offset) xs) ≡ t → take_numbers n bs ≡ Some (xs, more) → some_if t (documents (next_of offset) xs, more) ≡ Some (ds, rest) → (length ds ≡ n) × IsAscendingFrom (next_of offset) ds × Small ds × (bs ≡ documents_bytes offset ds ++ rest)
    of_some xs more false all first is = cc
    of_some xs more true all first is =
        let next = next_of offset in
        let same : documents next xs ≡ ds = ap documents_in is in
        let after : more ≡ rest = ap rest_in is in
        let stand = numbers_put n bs xs more bytes first in
        subst (λ es. (length es ≡ n) × IsAscendingFrom next es × Small es × (bs ≡ documents_bytes offset es ++ rest)) same (
          length-documents next xs ∙ stand.many,
          documents_ascend next xs,
          small_all (documents next xs) all,
          stand.put ∙ ap₂ (λ es r. numbers_bytes es ++ r) (sym (deltas_of_documents next xs)) after,
        )

    go : (o : Option (List ℕ × List ℕ)) → take_numbers n bs ≡ o → (o >>= kept (next_of offset)) ≡ Some (ds, rest) → (length ds ≡ n) × IsAscendingFrom (next_of offset) ds × Small ds × (bs ≡ documents_bytes offset ds ++ rest)
    go None e is = cc
    go (Some (xs, more)) e is = of_some xs more (list_all is_u32 (documents (next_of offset) xs)) refl e is

pub all_stood : (room : ℕ) (bs ns : List ℕ) → AreBytes bs → take_all_numbers room bs ≡ Some ns → (length ns ≤ room) × Small ns × (bs ≡ numbers_bytes ns)
all_stood zero [] ns bytes taken = (let same : [] ≡ ns = cc in subst (λ xs. (length xs ≤ 0) × Small xs × ([] ≡ numbers_bytes xs)) same (omega arith, tt, refl))
all_stood (suc room) [] ns bytes taken = (let same : [] ≡ ns = cc in subst (λ xs. (length xs ≤ suc room) × Small xs × ([] ≡ numbers_bytes xs)) same (omega arith, tt, refl))
all_stood zero (b ∷ bs) ns bytes taken = cc
all_stood (suc room) (b ∷ bs) ns bytes taken = go (λ more few ms e. all_stood room more ms few e) (take_number (b ∷ bs)) refl taken
  where
    joined : (n : ℕ) (more ms : List ℕ) → n < 2 ^ 32 → b ∷ bs ≡ vint_bytes n ++ more → (length ms ≤ room) × Small ms × (more ≡ numbers_bytes ms) → n ∷ ms ≡ ns → (length ns ≤ suc room) × Small ns × (b ∷ bs ≡ numbers_bytes ns)
    joined n more ms small put later is = subst (λ xs. (length xs ≤ suc room) × Small xs × (b ∷ bs ≡ numbers_bytes xs)) is (let few : length ms ≤ room = later.0 in omega arith, (small, later.1), put ∙ ap (λ xs. vint_bytes n ++ xs) later.2)

    of_some : ((more : List ℕ) → AreBytes more → (ms : List ℕ) → take_all_numbers room more ≡ Some ms → (length ms ≤ room) × Small ms × (more ≡ numbers_bytes ms)) → (n : ℕ) (more : List ℕ) (o : Option (List ℕ)) → take_all_numbers room more ≡ o → take_number (b ∷ bs) ≡ Some (n, more) → (o >>= (λ ms. Some (n ∷ ms))) ≡ Some ns → (length ns ≤ suc room) × Small ns × (b ∷ bs ≡ numbers_bytes ns)
    of_some all n more None e first is = cc
    of_some all n more (Some ms) e first is =
        let put = number_put (b ∷ bs) n more bytes first in
        let same : n ∷ ms ≡ ns = cc in
        joined n more ms put.0 put.1 (all more (last_bytes (vint_bytes n) more (subst AreBytes put.1 bytes)) ms e) same

    go : ((more : List ℕ) → AreBytes more → (ms : List ℕ) → take_all_numbers room more ≡ Some ms → (length ms ≤ room) × Small ms × (more ≡ numbers_bytes ms)) → (o : Option (ℕ × List ℕ)) → take_number (b ∷ bs) ≡ o → (o >>= (λ p. take_all_numbers room p.1 >>= (λ ms. Some (p.0 ∷ ms)))) ≡ Some ns → (length ns ≤ suc room) × Small ns × (b ∷ bs ≡ numbers_bytes ns)
    go all None e is = cc
    go all (Some (n, more)) e is = of_some all n more (take_all_numbers room more) refl e is
