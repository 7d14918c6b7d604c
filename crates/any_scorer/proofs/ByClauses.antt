-- What lists of clauses have of one document, by the lists that are made of them.
use Rattle.std.proofs.Common.{[], Bool, List, ap, arith, false, get_or, if◌then◌else◌, length, map, max, nat_le, not, refl, sum, sym, true, ◌&&◌, ◌++◌, ◌+◌, ◌<◌, ◌==◌, ◌∙◌, ◌∷◌, ◌≡◌, ◌≤◌, ℕ}
use Rattle.std.proofs.lemmas.Bool.Decides.{nat_tests}
use Rattle.std.proofs.lemmas.List.{append_assoc, length-append, length-map}
use Rattle.any_scorer.specs.Clauses.{by_clauses, by_number, scores_at, scores_of}
use Rattle.docsets.specs.Entries.{Entry, Rising}
use Rattle.docsets.specs.CombiningLaws.{sum-cons}
use Rattle.docsets.proofs.MemberLaws.{one-entry, scores-append, sum-scores}
use Rattle.docsets.specs.Members.{enough, entries_at, entries_of, scores_in}

-- ---- one list and two

one_of : (xs : List Entry) → length xs ≤ 1 → scores_in xs ≡ (if nat_le 1 (length (xs ++ [])) then sum (scores_in (xs ++ [])) ∷ [] else [])
one_of [] l = refl
one_of (x ∷ []) l = ap (λ s. s ∷ []) (let more = sum-cons x.score [] in let same : x.score ≡ sum (x.score ∷ []) = omega (arith, more) in same)
one_of (x ∷ y ∷ xs) l = absurd (omega (arith, l))

-- a list that has each document once
pub one_list : (d : ℕ) (es : List Entry) → Rising 0 es → scores_of d es ≡ by_number 1 (es ∷ []) d
one_list d es r = one_of (entries_of d es) (one-entry d 0 es r)

-- the number of lists that have it is that of its scores
counted_by : (m d : ℕ) (ess : List (List Entry)) → by_number m ess d ≡ (if nat_le m (length (scores_at d ess)) then sum (scores_at d ess) ∷ [] else [])
counted_by m d ess = ap (λ n. if nat_le m n then sum (scores_at d ess) ∷ [] else []) (sym (length-map (entries_at d ess) (λ e. e.score)))

both_sum : (a b : Bool) (x y : ℕ) → (let ss : List ℕ = (if a then x ∷ [] else []) ++ ((if b then y ∷ [] else []) ++ []) in if nat_le 2 (length ss) then sum ss ∷ [] else []) ≡ (if a && b then (x + y) ∷ [] else [])
both_sum true true x y = ap (λ s. s ∷ []) (let first = sum-cons x (y ∷ []) in let second = sum-cons y [] in let same : sum (x ∷ y ∷ []) ≡ x + y = omega (arith, first, second) in same)
both_sum true false x y = refl
both_sum false true x y = refl
both_sum false false x y = refl

two_lists : (d x y : ℕ) (a b : Bool) (es fs : List Entry) → scores_of d es ≡ (if a then x ∷ [] else []) → scores_of d fs ≡ (if b then y ∷ [] else []) → by_number 2 (es ∷ fs ∷ []) d ≡ (if a && b then (x + y) ∷ [] else [])
two_lists d x y a b es fs left right =
    let made : List ℕ → List ℕ = λ ss. if nat_le 2 (length ss) then sum ss ∷ [] else [] in
    counted_by 2 d (es ∷ fs ∷ [])
    ∙ (ap made (scores-append (entries_of d es) (entries_of d fs ++ []) ∙ ap (λ ss. scores_of d es ++ ss) (scores-append (entries_of d fs) []))
    ∙ (ap (λ ss. made (ss ++ (scores_of d fs ++ []))) left
    ∙ (ap (λ ss. made ((if a then x ∷ [] else []) ++ (ss ++ []))) right
    ∙ both_sum a b x y)))

-- ---- clauses

pub entries_both : (d : ℕ) (ess fss : List (List Entry)) → entries_at d (ess ++ fss) ≡ entries_at d ess ++ entries_at d fss
entries_both d [] fss = refl
entries_both d (es ∷ ess) fss = ap (λ xs. entries_of d es ++ xs) (entries_both d ess fss) ∙ sym (append_assoc (entries_of d es) (entries_at d ess) (entries_at d fss))

pub sum_both : (d : ℕ) (ess fss : List (List Entry)) → sum (scores_at d (ess ++ fss)) ≡ sum (scores_at d ess) + sum (scores_at d fss)
sum_both d ess fss = ap (λ xs. sum (scores_in xs)) (entries_both d ess fss) ∙ sum-scores (entries_at d ess) (entries_at d fss)

pub length_both : (d : ℕ) (ess fss : List (List Entry)) → length (entries_at d (ess ++ fss)) ≡ length (entries_at d ess) + length (entries_at d fss)
length_both d ess fss = ap length (entries_both d ess fss) ∙ length-append (entries_at d ess) (entries_at d fss)

-- where nothing must be had
pub only_shoulds : (minimum d : ℕ) (shoulds : List (List Entry)) → by_number (max 1 minimum) shoulds d ≡ by_clauses minimum [] shoulds [] d
only_shoulds minimum d shoulds = ap (λ b. if b then sum (scores_at d shoulds) ∷ [] else []) (tests minimum (length (entries_at d shoulds)))
  where
    tests : (m n : ℕ) → nat_le (max 1 m) n ≡ (nat_le m n && nat_le 1 n && true)
    tests m n = grind (arith, nat_tests)

-- ---- clauses of which some must be had

has_one : (d : ℕ) (musts shoulds : List (List Entry)) → 1 ≤ length musts → enough (length musts) musts d ≡ true → enough 1 (musts ++ shoulds) d ≡ true
has_one d musts shoulds some all =
    let both = length_both d musts shoulds in
    let have : length musts ≤ length (entries_at d musts) = grind (arith, nat_tests, all) in
    let one : 1 ≤ length (entries_at d (musts ++ shoulds)) = omega (arith, both, have, some) in
    grind (arith, nat_tests, one)

optional_test : (a b c : Bool) (x y t : ℕ) → t ≡ x + y → b ≡ true → (a ≡ true → c ≡ true) → map (λ s. s + y) (if a then x ∷ [] else []) ≡ (if a && b && c && true then t ∷ [] else [])
optional_test true b c x y t total is one = sym (ap (λ p. if p && c && true then t ∷ [] else []) is ∙ (ap (λ p. if p && true then t ∷ [] else []) (one refl) ∙ ap (λ n. n ∷ []) total))
optional_test false b c x y t total is one = refl

-- where none of the others has to be had
pub with_shoulds : (d : ℕ) (musts shoulds : List (List Entry)) → 1 ≤ length musts → map (λ s. s + sum (scores_at d shoulds)) (by_number (length musts) musts d) ≡ by_clauses 0 musts shoulds [] d
with_shoulds d musts shoulds some =
    optional_test (enough (length musts) musts d) (enough 0 shoulds d) (enough 1 (musts ++ shoulds) d) (sum (scores_at d musts)) (sum (scores_at d shoulds)) (sum (scores_at d (musts ++ shoulds))) (sum_both d musts shoulds) (let n : ℕ = length (entries_at d shoulds) in let is : nat_le 0 n ≡ true = grind (arith, nat_tests) in is) (has_one d musts shoulds some)

both_test : (a b c e : Bool) (x y t : ℕ) → t ≡ x + y → e ≡ b → (a ≡ true → c ≡ true) → (if a && e then (x + y) ∷ [] else []) ≡ (if a && b && c && true then t ∷ [] else [])
both_test true true c e x y t total is one = ap (λ p. if p then (x + y) ∷ [] else []) is ∙ sym (ap (λ p. if p && true then t ∷ [] else []) (one refl) ∙ ap (λ n. n ∷ []) total)
both_test true false c e x y t total is one = ap (λ p. if p then (x + y) ∷ [] else []) is
both_test false b c e x y t total is one = refl

-- where some of the others have to be had
pub with_minimum : (minimum d : ℕ) (musts shoulds : List (List Entry)) (es fs : List Entry) → 1 ≤ minimum → 1 ≤ length musts → scores_of d es ≡ by_number (length musts) musts d → scores_of d fs ≡ by_number (max 1 minimum) shoulds d → by_number 2 (es ∷ fs ∷ []) d ≡ by_clauses minimum musts shoulds [] d
with_minimum minimum d musts shoulds es fs least some left right =
    two_lists d (sum (scores_at d musts)) (sum (scores_at d shoulds)) (enough (length musts) musts d) (enough (max 1 minimum) shoulds d) es fs left right
    ∙ both_test (enough (length musts) musts d) (enough minimum shoulds d) (enough 1 (musts ++ shoulds) d) (enough (max 1 minimum) shoulds d) (sum (scores_at d musts)) (sum (scores_at d shoulds)) (sum (scores_at d (musts ++ shoulds))) (sum_both d musts shoulds) (ap (λ m. enough m shoulds d) (let same : max 1 minimum ≡ minimum = omega (arith, least) in same)) (has_one d musts shoulds some)

-- ---- what is left out

out_test : (n p q r : Bool) (x : ℕ) → (if n then [] else (if p && q && r && true then x ∷ [] else [])) ≡ (if p && q && r && not n then x ∷ [] else [])
out_test true true true true x = refl
out_test true true true false x = refl
out_test true true false r x = refl
out_test true false q r x = refl
out_test false p q r x = refl

pub left_out : (minimum d : ℕ) (musts shoulds must_nots : List (List Entry)) → (if enough 1 must_nots d then [] else by_clauses minimum musts shoulds [] d) ≡ by_clauses minimum musts shoulds must_nots d
left_out minimum d musts shoulds must_nots = out_test (enough 1 must_nots d) (enough (length musts) musts d) (enough minimum shoulds d) (enough 1 (musts ++ shoulds) d) (sum (scores_at d (musts ++ shoulds)))

-- ---- an optional list whose scores are added

with_sum : (s : ℕ) (xs : List ℕ) (b : Bool) → (b ≡ false → xs ≡ []) → sum (s ∷ (if b then sum xs ∷ [] else [])) ≡ s + sum xs
with_sum s xs true none = let first = sum-cons s (sum xs ∷ []) in let second = sum-cons (sum xs) [] in omega (arith, first, second)
with_sum s xs false none = let first = sum-cons s [] in let empty : sum xs ≡ 0 = ap sum (none refl) in omega (arith, first, empty)

no_scores : (d : ℕ) (ess : List (List Entry)) → enough 1 ess d ≡ false → scores_at d ess ≡ []
no_scores d ess e = none (entries_at d ess) e
  where
    none : (xs : List Entry) → nat_le 1 (length xs) ≡ false → scores_in xs ≡ []
    none [] e = refl
    none (x ∷ xs) e = absurd (let some : 1 ≤ length (x ∷ xs) = omega arith in let yes : nat_le 1 (length (x ∷ xs)) ≡ true = grind (arith, nat_tests, some) in let clash : true ≡ false = sym yes ∙ e in (let out : ⊥ = cc in out))

each_same : (f g : ℕ → ℕ) (xs : List ℕ) → ((x : ℕ) → f x ≡ g x) → map f xs ≡ map g xs
each_same f g [] same = refl
each_same f g (x ∷ xs) same = ap (λ y. y ∷ map f xs) (same x) ∙ ap (λ ys. g x ∷ ys) (each_same f g xs same)

pub summed_with : (d : ℕ) (os : List Entry) (shoulds : List (List Entry)) (xs : List ℕ) → scores_of d os ≡ by_number (max 1 1) shoulds d → map (λ s. sum (s ∷ scores_of d os)) xs ≡ map (λ s. s + sum (scores_at d shoulds)) xs
summed_with d os shoulds xs is = each_same (λ s. sum (s ∷ scores_of d os)) (λ s. s + sum (scores_at d shoulds)) xs (λ s. ap (λ ys. sum (s ∷ ys)) is ∙ with_sum s (scores_at d shoulds) (enough 1 shoulds d) (no_scores d shoulds))

-- without one nothing is added
pub nothing_added : (xs : List ℕ) → xs ≡ map (λ s. s + 0) xs
nothing_added [] = refl
nothing_added (x ∷ xs) = ap (λ ys. x ∷ ys) (nothing_added xs) ∙ ap (λ y. y ∷ map (λ s. s + 0) xs) (let same : x ≡ x + 0 = omega arith in same)

-- ---- one scorer alone

pub alone : {X : Type 0} (entries : X → List Entry) (xs ys : List X) (x : X) → xs ≡ ys ++ x ∷ [] → length xs < 2 → map entries xs ≡ entries x ∷ []
alone entries xs [] x is few = ap (map entries) is
alone entries xs (y ∷ ys) x is few = absurd (let all = ap length is in let both = length-append ys (x ∷ []) in omega (arith, all, both, few))

pub only_one : {X : Type 0} (entries : X → List Entry) (xs : List X) (x : X) → length xs ≡ 1 → x ≡ get_or xs 0 x → map entries xs ≡ entries x ∷ []
only_one entries [] x one is = absurd (omega (arith, one))
only_one entries (y ∷ []) x one is = ap (λ z. entries z ∷ []) (sym is)
only_one entries (y ∷ z ∷ ys) x one is = absurd (omega (arith, one))

-- ---- whether there are any

pub filled : {X Y : Type 0} (f : X → Y) (xs : List X) (n : ℕ) (b : Bool) → length xs ≡ n → b ≡ (n == 0) → b ≡ false → 1 ≤ length (map f xs)
filled f [] n b len is some = absurd (let test : (n == 0) ≡ true = grind (arith, nat_tests, len) in let clash : true ≡ false = sym test ∙ (sym is ∙ some) in (let out : ⊥ = cc in out))
filled f (x ∷ xs) n b len is some = omega arith
