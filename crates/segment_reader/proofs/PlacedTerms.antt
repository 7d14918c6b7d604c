-- Terms with where their postings stand.
use Rattle.std.proofs.Common.{[], Bool, List, None, Option, Some, ap, arith, cond, drop, false, find, length, map, option_map, refl, subst, suc, sym, take, true, zero, ◌&&◌, ◌+◌, ◌++◌, ◌<◌, ◌≡◌, ◌∙◌, ◌∷◌, ℕ}
use Rattle.std.proofs.lemmas.Bool.{and_parts}
use Rattle.std.proofs.lemmas.Bool.Decides.{nat_tests}
use Rattle.std.specs.List.{prefix_len}
use Rattle.std.specs.Prelude.{bytes_eq, min, nat_le}
use Rattle.front_coding.proofs.TermsTaken.{less_of}
use Rattle.front_coding.specs.BlockPlaces.{positions_end, postings_end}
use Rattle.front_coding.specs.LookUps.{Parts, located, stands_below, take_parts}
use Rattle.front_coding.specs.TakenKeys.{Follow}
use Rattle.front_coding.specs.Walks.{keys_fit, terms_taken}
use Rattle.layouts.specs.TermSections.{TermLengths, TermsAscend, Told}
use Rattle.segment_reader.specs.Dictionaries.{AllFit, InfoFits, Placed, info_from, info_of_located, placed_by}
use Rattle.segment_reader.specs.Searching.{is_below}
use Rattle.segment_reader.specs.declared.term_info.TermInfo.{TermInfo}

-- the term info of a key, if it is there
abbrev pub info_in : List ℕ → List Placed → Option TermInfo
info_in key terms = option_map (λ (t : Placed). t.1) (find (λ (t : Placed). bytes_eq t.0 key) terms)

-- ---- as the terms themselves

pub keys_by : (p q : ℕ) (ts : List Told) → map (λ (t : Placed). t.0) (placed_by p q ts) ≡ map (λ (t : Told). t.0) ts
keys_by p q [] = refl
keys_by p q (t ∷ ts) = ap (λ keys. t.0 ∷ keys) (keys_by (p + t.1.postings_len) (q + t.1.positions_len) ts)

pub length_by : (p q : ℕ) (ts : List Told) → length (placed_by p q ts) ≡ length ts
length_by p q [] = refl
length_by p q (t ∷ ts) = ap suc (length_by (p + t.1.postings_len) (q + t.1.positions_len) ts)

pub counted_by : (key : List ℕ) (p q : ℕ) (ts : List Told) → prefix_len (stands_below key) ts ≡ prefix_len (λ (t : Placed). is_below key t.0) (placed_by p q ts)
counted_by key p q [] = refl
counted_by key p q (t ∷ ts) = ap (λ n. cond (is_below key t.0) (1 + n) 0) (counted_by key (p + t.1.postings_len) (q + t.1.positions_len) ts)

pub located_by : (key : List ℕ) (p q : ℕ) (ts : List Told) → option_map info_of_located (located key p q ts) ≡ info_in key (placed_by p q ts)
located_by key p q [] = refl
located_by key p q (t ∷ ts) = go (bytes_eq t.0 key) (located_by key (p + t.1.postings_len) (q + t.1.positions_len) ts)
  where
    go : (b : Bool) → option_map info_of_located (located key (p + t.1.postings_len) (q + t.1.positions_len) ts) ≡ info_in key (placed_by (p + t.1.postings_len) (q + t.1.positions_len) ts) → option_map info_of_located (cond b (Some (t.1, p, q)) (located key (p + t.1.postings_len) (q + t.1.positions_len) ts)) ≡ option_map (λ (u : Placed). u.1) (cond b (Some (t.0, info_from p q t.1)) (find (λ (u : Placed). bytes_eq u.0 key) (placed_by (p + t.1.postings_len) (q + t.1.positions_len) ts)))
    go true later = refl
    go false later = later

-- what is found fits
pub located_fits : (key : List ℕ) (p q : ℕ) (ts : List Told) (l : TermLengths × ℕ × ℕ) → AllFit (placed_by p q ts) → Some l ≡ located key p q ts → InfoFits (info_of_located l)
located_fits key p q [] l fit is = absurd cc
located_fits key p q (t ∷ ts) l fit is = go (bytes_eq t.0 key) is (located_fits key (p + t.1.postings_len) (q + t.1.positions_len) ts l fit.1)
  where
    or_first : TermLengths × ℕ × ℕ → Option (TermLengths × ℕ × ℕ) → TermLengths × ℕ × ℕ
    or_first d None = d
    or_first d (Some x) = x

    go : (b : Bool) → Some l ≡ cond b (Some (t.1, p, q)) (located key (p + t.1.postings_len) (q + t.1.positions_len) ts) → (Some l ≡ located key (p + t.1.postings_len) (q + t.1.positions_len) ts → InfoFits (info_of_located l)) → InfoFits (info_of_located l)
    go true same later = subst (λ (x : TermLengths × ℕ × ℕ). InfoFits (info_of_located x)) (sym (ap (or_first l) same)) fit.0
    go false same later = later same

-- ---- order

ascend_behind : (number : ℕ) (before : List ℕ) (ts : List Told) → 0 < number → Follow number before ts → TermsAscend (before ∷ map (λ (t : Told). t.0) ts)
ascend_behind number before [] some follow = tt
ascend_behind number before (t ∷ ts) some follow = (less_of number before t.0 (grind (arith, nat_tests, some)) follow.0, ascend_behind (number + 1) t.0 ts (omega arith) follow.1)

pub ascend_all : (ts : List Told) → Follow 0 [] ts → TermsAscend (map (λ (t : Told). t.0) ts)
ascend_all [] follow = tt
ascend_all (t ∷ ts) follow = ascend_behind (0 + 1) t.0 ts (omega arith) follow.1

-- ---- parts of them

pub drop_by : (n p q : ℕ) (ts : List Told) → placed_by (postings_end p (take n ts)) (positions_end q (take n ts)) (drop n ts) ≡ drop n (placed_by p q ts)
drop_by zero p q ts = refl
drop_by (suc n) p q [] = refl
drop_by (suc n) p q (t ∷ ts) = drop_by n (p + t.1.postings_len) (q + t.1.positions_len) ts

pub take_by : (n p q : ℕ) (ts : List Told) → placed_by p q (take n ts) ≡ take n (placed_by p q ts)
take_by zero p q ts = refl
take_by (suc n) p q [] = refl
take_by (suc n) p q (t ∷ ts) = ap (λ us. (t.0, info_from p q t.1) ∷ us) (take_by n (p + t.1.postings_len) (q + t.1.positions_len) ts)

pub keys_drop : (longest n : ℕ) (ts : List Told) → keys_fit longest ts ≡ true → keys_fit longest (drop n ts) ≡ true
keys_drop longest zero ts fit = fit
keys_drop longest (suc n) [] fit = fit
keys_drop longest (suc n) (t ∷ ts) fit = keys_drop longest n ts (and_parts (nat_le (length t.0) longest) (keys_fit longest ts) fit).1

pub keys_take : (longest n : ℕ) (ts : List Told) → keys_fit longest ts ≡ true → keys_fit longest (take n ts) ≡ true
keys_take longest zero ts fit = refl
keys_take longest (suc n) [] fit = refl
keys_take longest (suc n) (t ∷ ts) fit =
    let both = and_parts (nat_le (length t.0) longest) (keys_fit longest ts) fit in
    ap (λ b. b && keys_fit longest (take n ts)) both.0 ∙ keys_take longest n ts both.1

-- fewer are taken, or more
abbrev taken_by : ℕ → ℕ → ℕ → List ℕ → Option (Parts × List ℕ) → List Told
taken_by size left number before o = elim o [ None ↦ [] | Some p ↦ let key = take p.0.shared_len before ++ p.0.left in (key, p.0.lengths) ∷ terms_taken size left (number + 1) key p.1 ]

fewer_by : (size n left number : ℕ) (before : List ℕ) → ((key bs : List ℕ) → terms_taken size (min n left) (number + 1) key bs ≡ take n (terms_taken size left (number + 1) key bs)) → (o : Option (Parts × List ℕ)) → taken_by size (min n left) number before o ≡ take (suc n) (taken_by size left number before o)
fewer_by size n left number before later None = refl
fewer_by size n left number before later (Some p) = ap (λ (us : List Told). (take p.0.shared_len before ++ p.0.left, p.0.lengths) ∷ us) (later (take p.0.shared_len before ++ p.0.left) p.1)

pub taken_fewer : (size n left number : ℕ) (before bs : List ℕ) → terms_taken size (min n left) number before bs ≡ take n (terms_taken size left number before bs)
taken_fewer size zero left number before bs = ap (λ k. terms_taken size k number before bs) (let none : min 0 left ≡ 0 = omega arith in none)
taken_fewer size (suc n) zero number before bs = ap (λ k. terms_taken size k number before bs) (let none : min (suc n) 0 ≡ 0 = omega arith in none)
taken_fewer size (suc n) (suc left) number before bs = ap (λ k. terms_taken size k number before bs) (let less : min (suc n) (suc left) ≡ suc (min n left) = omega arith in less) ∙ fewer_by size n left number before (λ key after. taken_fewer size n left (number + 1) key after) (take_parts size number bs)
