-- Lemmas on lists, flags and numbers that the proofs of several crates share.
use Rattle.std.proofs.Common.{[], ◌%◌, ◌&&◌, ◌*◌, ◌++◌, ◌+◌, ◌/◌, ◌<◌, ◌==◌, ◌^◌, ◌||◌, ◌∙◌, ◌∷◌, ◌≡◌, ◌≤◌, Bool, Err, IfErr, List, None, Ok, OnOk, Option, Result, Some, ap, arith, bytes_eq, cond, drop, false, leb-false, leb-true, length, lit<, nat_eq, nat_le, nat_lt, option_map, refl, subst, suc, sym, take, true, true≢false, zero, ℕ, IfSome, replicate, map, IfOk, OnErr, if◌then◌else◌, max}
use Rattle.std.proofs.Math.Nat.{pow-succ'}
use Rattle.std.proofs.lemmas.Bool.{le-ltb, false_from_ne_true}
use Rattle.std.proofs.lemmas.Bool.Decides.{nat_tests}
use Rattle.std.proofs.lemmas.Slice.Eq.{bytes_eq-Decides}
use Rattle.std.specs.Int.{byte_at}
use Rattle.std.specs.List.{AllByRecursion, list_any, AllZip}
use Rattle.std.specs.Ordering.{nat_cmp}
use Rattle.std.specs.declared.cmp.Ordering.TheVariants.{Equal, Greater, Less}
use Rattle.definitions.specs.Json.{◌>>=◌}
use Rattle.definitions.specs.Postings.{Posting}
use Rattle.definitions.specs.Recorded.{insert_ascending, ascending}
use Rattle.definitions.specs.Scoring.{DontFall, greatest_of}
use Rattle.definitions.specs.Values.{Document}
use Rattle.std.proofs.lemmas.List.{drop_all}

pub all_after : {A : Type 0} (P : A → Type 0) (xs ys : List A) → AllByRecursion P (xs ++ ys) → AllByRecursion P ys
all_after P [] ys all = all
all_after P (x ∷ xs) ys all = all_after P xs ys all.1

pub all_append : {X : Type 0} (P : X → Type 0) (xs ys : List X) → AllByRecursion P xs → AllByRecursion P ys → AllByRecursion P (xs ++ ys)
all_append P [] ys h k = k
all_append P (x ∷ xs) ys h k = (h.0, all_append P xs ys h.1 k)

pub all_drop : {X : Type 0} (P : X → Type 0) (n : ℕ) (xs : List X) → AllByRecursion P xs → AllByRecursion P (drop n xs)
all_drop P zero xs h = h
all_drop P (suc n) [] h = tt
all_drop P (suc n) (x ∷ xs) h = all_drop P n xs h.1

pub all_first : {X : Type 0} (P : X → Type 0) (xs : List X) (x : X) (rest : List X) → xs ≡ x ∷ rest → AllByRecursion P xs → P x × AllByRecursion P rest
all_first P xs x rest e h = subst (AllByRecursion P) e h

pub all_push : {X : Type 0} (P : X → Type 0) (xs : List X) (x : X) → AllByRecursion P xs → P x → AllByRecursion P (xs ++ x ∷ [])
all_push P [] x h p = (p, tt)
all_push P (y ∷ xs) x h p = (h.0, all_push P xs x h.1 p)

pub all_take : {X : Type 0} (P : X → Type 0) (n : ℕ) (xs : List X) → AllByRecursion P xs → AllByRecursion P (take n xs)
all_take P zero xs h = tt
all_take P (suc n) [] h = tt
all_take P (suc n) (x ∷ xs) h = (h.0, all_take P n xs h.1)

pub and_first : (a b : Bool) → (a && b) ≡ true → a ≡ true
and_first true b h = refl
and_first false b h = h

pub and_second : (a b : Bool) → (a && b) ≡ true → b ≡ true
and_second true b h = h
and_second false b h = absurd cc

pub any_never : {X : Type 0} (xs : List X) → list_any (λ x. false) xs ≡ false
any_never [] = refl
any_never (x ∷ xs) = any_never xs

pub any_same : {X : Type 0} (f g : X → Bool) → ((x : X) → f x ≡ g x) → (xs : List X) → list_any f xs ≡ list_any g xs
any_same f g h xs = λ i. list_any (λ x. h x i) xs

pub base_pos : (k : ℕ) → 0 < 256 ^ k
base_pos zero = lit< tt
base_pos (suc k) = rw (pow-succ' 256 k) (let rest = base_pos k in omega (arith, rest))

pub both_true : (a b : Bool) → (a && b) ≡ true → (a ≡ true) × (b ≡ true)
both_true true b e = (refl, e)
both_true false b e = cc

pub by_order : (t d : ℕ) (P : Type 0) → (t ≤ d → P) → (d < t → P) → P
by_order t d P inside outside = elim (nat_le t d) as (λ b. nat_le t d ≡ b → P) [ true ↦ (λ e. inside (leb-true t d e)) | false ↦ (λ e. outside (leb-false t d e)) ] refl

pub byte_is : (k n : ℕ) → byte_at k n ≡ n / 256 ^ k % 256
byte_is zero n = omega arith
byte_is (suc k) n = refl

pub bytes_swap : (s t : List ℕ) → bytes_eq s t ≡ bytes_eq t s
bytes_swap s t = go (bytes_eq s t) (bytes_eq t s) refl refl
  where
    go : (a b : Bool) → bytes_eq s t ≡ a → bytes_eq t s ≡ b → a ≡ b
    go true true p q = refl
    go false false p q = refl
    go true false p q = absurd (true≢false (sym ((bytes_eq-Decides t s).1 (sym ((bytes_eq-Decides s t).0 p))) ∙ q))
    go false true p q = absurd (true≢false (sym ((bytes_eq-Decides s t).1 (sym ((bytes_eq-Decides t s).0 q))) ∙ p))

pub cmp_self : (b : ℕ) → nat_cmp b b ≡ Equal
cmp_self b =
    let below : nat_lt b b ≡ false = le-ltb b b (omega arith) in
    let same : (b == b) ≡ true = grind (arith, nat_tests) in
    ap (λ t. cond t Less (cond (b == b) Equal Greater)) below ∙ ap (λ u. cond u Equal Greater) same

pub equal_self : (n : ℕ) → (n == n) ≡ true
equal_self n = grind (arith, nat_tests)

pub err_map : {T E : Type 0} (r : Result T E) (P Q : E → Type 0) → ((e : E) → P e → Q e) → IfErr r P → IfErr r Q
err_map (Ok x) P Q f p = tt
err_map (Err e) P Q f p = f e p

pub head_of : (a b : ℕ) (xs ys : List ℕ) → a ∷ xs ≡ b ∷ ys → a ≡ b
head_of a b xs ys e = cc

pub high_octet : (a b : ℕ) → b < 256 → (a * 256 + b) / 256 ≡ a
high_octet a b h = omega arith

pub le_of : (a b : ℕ) → nat_le a b ≡ true → a ≤ b
le_of a b e = grind (arith, nat_tests)

pub low_octet : (a b : ℕ) → b < 256 → (a * 256 + b) % 256 ≡ b
low_octet a b h = omega arith

pub map_some : {A B : Type 0} (f : A → B) (o : Option A) (y : B) → option_map f o ≡ Some y → (x : A) × (o ≡ Some x) × (f x ≡ y)
map_some f None y e = cc
map_some f (Some x) y e = (x, refl, (let h : f x ≡ y = cc in h))

pub nat_same : (a b : ℕ) → nat_eq a b ≡ true → a ≡ b
nat_same a b e = grind (arith, nat_tests)

pub neither : (a b : Bool) → a ≡ false → b ≡ false → (a || b) ≡ false
neither true b ha hb = ha
neither false b ha hb = hb

pub no_numbers : (xs : List ℕ) → length xs ≡ 0 → xs ≡ []
no_numbers [] none = refl
no_numbers (x ∷ xs) none = absurd (omega (arith, none))

pub on_ok : {A E : Type 0} (r : Result A E) {P Q : Type 0} → (P → Q) → OnOk r P → OnOk r Q
on_ok (Ok x) f p = f p
on_ok (Err e) f p = tt

pub or_false : (b : Bool) → (b || false) ≡ b
or_false true = refl
or_false false = refl

pub or_first : (a b : Bool) → (a || b) ≡ false → a ≡ false
or_first true b h = h
or_first false b h = refl

pub or_second : (a b : Bool) → (a || b) ≡ false → b ≡ false
or_second false b h = h
or_second true b h = cc

pub or_swap : (a b c d : Bool) → ((a || b) || (c || d)) ≡ ((a || c) || (b || d))
or_swap true b c d = refl
or_swap false true true d = refl
or_swap false true false d = refl
or_swap false false c d = refl

pub or_true : (b : Bool) → (b || true) ≡ true
or_true true = refl
or_true false = refl

pub tail_of : (a b : ℕ) (xs ys : List ℕ) → a ∷ xs ≡ b ∷ ys → xs ≡ ys
tail_of a b xs ys e = cc

pub take_whole : {X : Type 0} (k : ℕ) (xs : List X) → length xs ≤ k → take k xs ≡ xs
take_whole zero [] long = refl
take_whole zero (x ∷ xs) long = absurd (omega (arith, long))
take_whole (suc k) [] long = refl
take_whole (suc k) (x ∷ xs) long = ap (λ ys. x ∷ ys) (take_whole k xs (omega (arith, long)))

-- what is not so is not so with anything
pub and-false : (a : Bool) → (a && false) ≡ false
and-false true = refl
and-false false = refl

-- a list whose length is tested for 0
pub emptied : {X : Type 0} (xs : List X) (n : ℕ) (b : Bool) → length xs ≡ n → b ≡ (n == 0) → b ≡ true → xs ≡ []
emptied [] n b len is empty = refl
emptied (x ∷ xs) n b len is empty = absurd (let test : (n == 0) ≡ true = sym is ∙ empty in let zero_left : n ≡ 0 = grind (arith, nat_tests, test) in omega (arith, len, zero_left))

-- where the ids are the same, a document within them
pub within_same : (norms given : Option (List ℕ)) (n doc : ℕ) → norms ≡ given → IfSome given (λ ids. length ids ≡ n) → doc < n → IfSome norms (λ ids. doc < length ids)
within_same norms None n doc same all within = subst (λ o. IfSome o (λ ids. doc < length ids)) (sym same) tt
within_same norms (Some ids) n doc same all within = subst (λ o. IfSome o (λ xs. doc < length xs)) (sym same) (let fits : doc < length ids = omega (arith, all, within) in fits)

-- what a step needs to answer
pub bind_some : {A B : Type 0} (o : Option A) (f : A → Option B) (r : B) → (o >>= f) ≡ Some r → (a : A) × (o ≡ Some a) × (f a ≡ Some r)
bind_some None f r h = absurd cc
bind_some (Some a) f r h = (a, refl, h)

-- a list before the others, if any
abbrev pub all_behind : List ℕ → Option (List ℕ) → Option (List ℕ)
all_behind xs o = option_map (λ ns. xs ++ ns) o

-- lists of one length have at least as many
pub all_at_least : (n m : ℕ) (norms : List (ℕ × List ℕ)) → n ≤ m → AllByRecursion (λ (p : ℕ × List ℕ). length p.1 ≡ m) norms → AllByRecursion (λ (p : ℕ × List ℕ). n ≤ length p.1) norms
all_at_least n m [] few all = tt
all_at_least n m (p ∷ norms) few all = ((let one = all.0 in omega arith), all_at_least n m norms few all.1)

-- no documents
pub no_documents : (docs : List Document) → length docs ≡ 0 → docs ≡ []
no_documents [] none = refl
no_documents (doc ∷ docs) none = absurd (omega (arith, none))

-- equal numbers do not fall
pub replicate-dont_fall : (n x : ℕ) → DontFall (replicate n x)
replicate-dont_fall zero x = tt
replicate-dont_fall (suc zero) x = tt
replicate-dont_fall (suc (suc n)) x = (omega arith, replicate-dont_fall (suc n) x)

-- bytes that differ, the other way round
pub unequal : (a b : List ℕ) → bytes_eq a b ≡ false → bytes_eq b a ≡ false
unequal a b other = false_from_ne_true (bytes_eq b a) (λ same. true≢false (sym ((bytes_eq-Decides a b).1 (sym ((bytes_eq-Decides b a).0 same))) ∙ other))

-- the documents of postings
abbrev pub docs_in : List Posting → List ℕ
docs_in ps = map (λ (p : Posting). p.doc) ps

-- the first, or what stands for none
abbrev pub first_or : {X : Type 0} → X → List X → X
first_or x [] = x
first_or x (y ∷ ys) = y

-- nothing stands behind the end
pub nothing_left : {X : Type 0} (xs : List X) (i : ℕ) → length xs ≤ i → drop i xs ≡ []
nothing_left xs i l = drop_all i xs l

-- pairs are as many as the shorter
pub zip_length : {X Y : Type 0} (R : X → Y → Type 0) (xs : List X) (ys : List Y) → AllZip R xs ys → length xs ≡ length ys
zip_length R [] [] h = refl
zip_length R [] (y ∷ ys) h = absurd h
zip_length R (x ∷ xs) [] h = absurd h
zip_length R (x ∷ xs) (y ∷ ys) h = ap suc (zip_length R xs ys h.1)

-- what holds of a success, of what is made of it
pub IfOk-map : {T E : Type 0} (result : Result T E) (P Q : T → Type 0) → ((x : T) → P x → Q x) → IfOk result P → IfOk result Q
IfOk-map (Ok x) P Q f h = f x h
IfOk-map (Err e) P Q f h = tt

-- what holds of an error
pub on_err : {T E P : Type 0} (r : Result T E) → P → OnErr r P
on_err (Ok x) p = tt
on_err (Err e) p = p

pub length-inserted : (n : ℕ) (ms : List ℕ) → length (insert_ascending n ms) ≡ length ms + 1
length-inserted n [] = refl
length-inserted n (m ∷ ms) = (let ih = length-inserted n ms in elim (nat_le n m) as (λ b. length (if b then n ∷ m ∷ ms else m ∷ insert_ascending n ms) ≡ length (m ∷ ms) + 1) [
  | true ↦ omega arith
  | false ↦ omega (arith, ih)
])

pub length-ascending : (ns : List ℕ) → length (ascending ns) ≡ length ns
length-ascending [] = refl
length-ascending (n ∷ ns) = length-inserted n (ascending ns) ∙ (let ih = length-ascending ns in omega (arith, ih))

pub some_same : {X : Type 0} (x y : X) → Some x ≡ Some y → x ≡ y
some_same x y e = cc

pub greatest-last : (xs : List ℕ) (x : ℕ) → greatest_of (xs ++ x ∷ []) ≡ max (greatest_of xs) x
greatest-last [] x = omega arith
greatest-last (y ∷ ys) x = (let ih = greatest-last ys x in omega (arith, ih))
