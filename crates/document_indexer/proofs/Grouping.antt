-- Positions in documents in order, grouped by document.
use Rattle.std.proofs.Common.{[], ◌++◌, ◌+◌, ◌<◌, ◌≡◌, ◌∙◌, ◌∷◌, Bool, List, ap, append-nil, append_assoc, arith, cond, false, filter, flat_map, length, map, nat_eq, refl, subst, sym, true, ℕ}
use Rattle.std.specs.List.{enumerate_from}
use Rattle.std.proofs.lemmas.Bool.Decides.{nat_tests}
use Rattle.postings_writer.proofs.Groups.{docs}
use Rattle.postings_writer.specs.Occurrences.{by_document, docs_of, ends_in, grouped, last_count}

-- a document's positions, each with its number
abbrev pub paired : ℕ × List ℕ → List (ℕ × ℕ)
paired g = map (λ x. (g.0, x)) g.1

-- the positions in documents, numbered from k on
abbrev pub positions_from : ℕ → List (List ℕ) → List (ℕ × ℕ)
positions_from k xss = flat_map paired (enumerate_from k xss)

abbrev pub has_some : ℕ × List ℕ → Bool
has_some (n, []) = false
has_some (n, x ∷ xs) = true

-- the documents that have positions
abbrev pub groups_from : ℕ → List (List ℕ) → List (ℕ × List ℕ)
groups_from k xss = filter has_some (enumerate_from k xss)

-- a position in a document before these
grouped_new : (k x j : ℕ) (xss : List (List ℕ)) → k < j → grouped (k, x) (groups_from j xss) ≡ (k, x ∷ []) ∷ groups_from j xss
grouped_new k x j [] below = refl
grouped_new k x j ([] ∷ xss) below = grouped_new k x (j + 1) xss (omega arith)
grouped_new k x j ((y ∷ ys) ∷ xss) below =
    let apart : nat_eq k j ≡ false = grind (arith, nat_tests) in
    ap (λ b. cond b ((j, x ∷ y ∷ ys) ∷ groups_from (j + 1) xss) ((k, x ∷ []) ∷ (j, y ∷ ys) ∷ groups_from (j + 1) xss)) apart

grouped_same : (k x : ℕ) (xs : List ℕ) (gs : List (ℕ × List ℕ)) → grouped (k, x) ((k, xs) ∷ gs) ≡ (k, x ∷ xs) ∷ gs
grouped_same k x xs gs = (let same : nat_eq k k ≡ true = grind (arith, nat_tests) in ap (λ b. cond b ((k, x ∷ xs) ∷ gs) ((k, x ∷ []) ∷ (k, xs) ∷ gs)) same)

-- the positions in a document before those of others
first_grouped : (k x : ℕ) (xs : List ℕ) (xss : List (List ℕ)) → by_document (positions_from (k + 1) xss) ≡ groups_from (k + 1) xss → by_document (paired (k, x ∷ xs) ++ positions_from (k + 1) xss) ≡ (k, x ∷ xs) ∷ groups_from (k + 1) xss
first_grouped k x [] xss ih = ap (grouped (k, x)) ih ∙ grouped_new k x (k + 1) xss (omega arith)
first_grouped k x (y ∷ ys) xss ih = ap (grouped (k, x)) (first_grouped k y ys xss ih) ∙ grouped_same k x (y ∷ ys) (groups_from (k + 1) xss)

-- all of them
pub all_grouped : (k : ℕ) (xss : List (List ℕ)) → by_document (positions_from k xss) ≡ groups_from k xss
all_grouped k [] = refl
all_grouped k ([] ∷ xss) = all_grouped (k + 1) xss
all_grouped k ((x ∷ xs) ∷ xss) = first_grouped k x xs xss (all_grouped (k + 1) xss)

-- ---- counts

-- the last count is of the last document, where this has positions
last_here : (bound k n : ℕ) (xss : List (List ℕ)) (xs : List ℕ) → n ≡ k + length xss → length xs < bound → ends_in n (docs (groups_from k (xss ++ xs ∷ []))) ≡ true → last_count (groups_from k (xss ++ xs ∷ [])) < bound
last_here bound k n [] [] is below ends = cc
last_here bound k n [] (x ∷ xs) is below ends = below
last_here bound k n ([] ∷ xss) xs is below ends = last_here bound (k + 1) n xss xs (omega arith) below ends
last_here bound k n ((y ∷ ys) ∷ xss) xs is below ends = go (groups_from (k + 1) (xss ++ xs ∷ [])) (λ later. last_here bound (k + 1) n xss xs (omega arith) below later) ends
  where
    go : (gs : List (ℕ × List ℕ)) → (ends_in n (docs gs) ≡ true → last_count gs < bound) → ends_in n (docs ((k, y ∷ ys) ∷ gs)) ≡ true → last_count ((k, y ∷ ys) ∷ gs) < bound
    go [] later same = (let apart : nat_eq k n ≡ false = grind (arith, nat_tests) in cc)
    go (g ∷ gs) later same = later same

pub last_count_below : (bound n : ℕ) (xss : List (List ℕ)) (xs : List ℕ) → n ≡ length xss → length xs < bound → ends_in n (docs_of (positions_from 0 (xss ++ xs ∷ []))) ≡ true → last_count (by_document (positions_from 0 (xss ++ xs ∷ []))) < bound
last_count_below bound n xss xs is below ends =
    let e = all_grouped 0 (xss ++ xs ∷ []) in
    subst (λ gs. last_count gs < bound) (sym e) (last_here bound 0 n xss xs (omega arith) below (subst (λ gs. ends_in n (docs gs) ≡ true) e ends))

-- that of a document with positions is its own
last_own : (k : ℕ) (xss : List (List ℕ)) (x : ℕ) (xs : List ℕ) → last_count (groups_from k (xss ++ (x ∷ xs) ∷ [])) ≡ length (x ∷ xs)
last_own k [] x xs = refl
last_own k ([] ∷ xss) x xs = last_own (k + 1) xss x xs
last_own k ((y ∷ ys) ∷ xss) x xs = go (groups_from (k + 1) (xss ++ (x ∷ xs) ∷ [])) (last_own (k + 1) xss x xs)
  where
    go : (gs : List (ℕ × List ℕ)) → last_count gs ≡ length (x ∷ xs) → last_count ((k, y ∷ ys) ∷ gs) ≡ length (x ∷ xs)
    go [] is = absurd (omega arith)
    go (g ∷ gs) is = is

pub own_count_below : (bound : ℕ) (xss : List (List ℕ)) (xs : List ℕ) → 0 < bound → last_count (by_document (positions_from 0 (xss ++ xs ∷ []))) < bound → length xs < bound
own_count_below bound xss [] some below = some
own_count_below bound xss (x ∷ xs) some below =
    let last = ap last_count (all_grouped 0 (xss ++ (x ∷ xs) ∷ [])) in
    let own = last_own 0 xss x xs in
    omega arith

-- ---- one document more

enumerate_more : {X Y : Type 0} (f : ℕ × X → List Y) (k : ℕ) (xs : List X) (x : X) → flat_map f (enumerate_from k (xs ++ x ∷ [])) ≡ flat_map f (enumerate_from k xs) ++ f (k + length xs, x)
enumerate_more f k [] x = append-nil (f (k, x)) ∙ ap (λ n. f (n, x)) (let e : k ≡ k + 0 = omega arith in e)
enumerate_more f k (y ∷ xs) x =
    ap (λ ys. f (k, y) ++ ys) (enumerate_more f (k + 1) xs x ∙ ap (λ n. flat_map f (enumerate_from (k + 1) xs) ++ f (n, x)) (let e : k + 1 + length xs ≡ k + length (y ∷ xs) = omega arith in e))
    ∙ sym (append_assoc (f (k, y)) (flat_map f (enumerate_from (k + 1) xs)) (f (k + length (y ∷ xs), x)))

pub one_more : {X Y : Type 0} (f : ℕ × X → List Y) (xs : List X) (x : X) → flat_map f (enumerate_from 0 (xs ++ x ∷ [])) ≡ flat_map f (enumerate_from 0 xs) ++ f (length xs, x)
one_more f xs x = enumerate_more f 0 xs x ∙ ap (λ n. flat_map f (enumerate_from 0 xs) ++ f (n, x)) (let e : 0 + length xs ≡ length xs = omega arith in e)
