-- Walks over terms, one term at a time.
use Rattle.std.proofs.Common.{[], Bool, List, None, Option, Some, ap, append-nil, append_assoc, arith, cond, drop, false, inl, inr, length, length-append, nat_eq, refl, suc, sym, take, true, zero, ◌%◌, ◌++◌, ◌+◌, ◌-◌, ◌<◌, ◌≡◌, ◌≢◌, ◌≤◌, ◌∙◌, ◌∷◌, ◌^◌, ◌⊎◌, ℕ}
use Rattle.std.proofs.lemmas.Bool.{and_parts, cases_lt}
use Rattle.std.proofs.lemmas.Bool.Decides.{nat_tests}
use Rattle.std.proofs.lemmas.List.{drop_all, length-take-le, take-take, take_all}
use Rattle.std.specs.Prelude.{min, nat_le}
use Rattle.front_coding.proofs.BlockLoop.{parts_back}
use Rattle.front_coding.proofs.SharedKeys.{shared_again}
use Rattle.front_coding.proofs.TermsTaken.{first_short}
use Rattle.layouts.specs.TermSections.{Told, before_in_block, coded_entry, coded_from, shared}
use Rattle.front_coding.specs.LookUps.{Parts, parts_of, shared_in, take_parts}
use Rattle.front_coding.specs.TakenKeys.{AreTerms}
use Rattle.front_coding.specs.Walks.{keys_fit, terms_taken}

module _ (size : ℕ) where
  -- what is taken, where the parts are known
  taken_one : (left number : ℕ) (before bs : List ℕ) (o : Option (Parts × List ℕ)) → take_parts size number bs ≡ o → terms_taken size (suc left) number before bs ≡ elim o [ None ↦ [] | Some p ↦ let key = take p.0.shared_len before ++ p.0.left in (key, p.0.lengths) ∷ terms_taken size left (number + 1) key p.1 ]
  taken_one left number before bs o is = ap (λ (x : Option (Parts × List ℕ)). elim x [ None ↦ [] | Some p ↦ let key = take p.0.shared_len before ++ p.0.left in (key, p.0.lengths) ∷ terms_taken size left (number + 1) key p.1 ]) is

  one_less : (n : ℕ) → n ≢ 0 → n ≡ suc (n - 1)
  one_less n some = omega arith

  -- a term that is left has parts
  pub never_none : (left number : ℕ) (before bs : List ℕ) → left ≢ 0 → length (terms_taken size left number before bs) ≡ left → take_parts size number bs ≡ None → ⊥
  never_none zero number before bs some many none = absurd (some refl)
  never_none (suc left) number before bs some many none = (let long = sym (ap length (taken_one left number before bs None none)) ∙ many in absurd (omega (arith, long)))

  -- the first term that is left, and the others
  pub first_left : (left number : ℕ) (before bs : List ℕ) (parts : Parts) (after : List ℕ) → left ≢ 0 → take_parts size number bs ≡ Some (parts, after) → terms_taken size left number before bs ≡ (take parts.shared_len before ++ parts.left, parts.lengths) ∷ terms_taken size (left - 1) (number + 1) (take parts.shared_len before ++ parts.left) after
  first_left zero number before bs parts after some is = absurd (some refl)
  first_left (suc left) number before bs parts after some is = taken_one left number before bs (Some (parts, after)) is ∙ ap (λ l. (take parts.shared_len before ++ parts.left, parts.lengths) ∷ terms_taken size l (number + 1) (take parts.shared_len before ++ parts.left) after) (let less : left ≡ suc left - 1 = omega arith in less)

-- what a buffer holds that was written whole
pub items_are : (len : ℕ) (new items : List ℕ) → length new ≡ length items → length items ≡ len → take len (new ++ drop (length new) items) ≡ new
items_are len new items same long =
    let none : drop (length new) items ≡ [] = drop_all (length new) items (omega (arith, same)) in
    ap (λ xs. take len (new ++ xs)) none ∙ ap (take len) (append-nil new) ∙ take_all len new (omega (arith, same, long))

-- a key cut where it begins alike, no further than it is long
pub take_within : (alike n : ℕ) (buffer : List ℕ) → n ≤ length buffer → take alike (take n buffer) ≡ take (min alike n) buffer
take_within alike n buffer within = go (cases_lt alike n)
  where
    go : (alike < n) ⊎ (n ≤ alike) → take alike (take n buffer) ≡ take (min alike n) buffer
    go (inl below) = take-take alike n buffer (omega (arith, below)) ∙ ap (λ m. take m buffer) (let same : alike ≡ min alike n = omega (arith, below) in same)
    go (inr above) = take_all alike (take n buffer) (let long = length-take-le n buffer within in omega (arith, long, above)) ∙ ap (λ m. take m buffer) (let same : n ≡ min alike n = omega (arith, above) in same)

-- where the next key stands in the buffer
pub record Moved (size left number key_len : ℕ) (buffer bs : List ℕ) (parts : Parts) (after : List ℕ) (new_len : ℕ) (new : List ℕ) : Type 0 where
  pub within : key_len ≤ length buffer
  pub few : number + left < 2 ^ 64
  pub fit : keys_fit (length buffer) (terms_taken size left number (take key_len buffer) bs) ≡ true
  pub many : length (terms_taken size left number (take key_len buffer) bs) ≡ left
  pub some : left ≢ 0
  pub taken : take_parts size number bs ≡ Some (parts, after)
  pub len_is : new_len ≡ min parts.shared_len key_len + length parts.left
  pub front : take new_len new ≡ take (min parts.shared_len key_len) buffer ++ parts.left
  pub same : length new ≡ length buffer

module _ (size left number key_len : ℕ) (buffer bs : List ℕ) (parts : Parts) (after : List ℕ) where
  old_key : List ℕ
  old_key = take key_len buffer

  -- the next key fits the buffer
  pub fits : key_len ≤ length buffer → keys_fit (length buffer) (terms_taken size left number (take key_len buffer) bs) ≡ true → left ≢ 0 → take_parts size number bs ≡ Some (parts, after) → min parts.shared_len key_len + length parts.left ≤ length buffer
  fits within fit some taken =
      let all = sym (ap (keys_fit (length buffer)) (first_left size left number (take key_len buffer) bs parts after some taken)) ∙ fit in
      let one = (and_parts (nat_le (length (take parts.shared_len (take key_len buffer) ++ parts.left)) (length buffer)) (keys_fit (length buffer) (terms_taken size (left - 1) (number + 1) (take parts.shared_len (take key_len buffer) ++ parts.left) after)) all).0 in
      let below : length (take parts.shared_len (take key_len buffer) ++ parts.left) ≤ length buffer = grind (arith, nat_tests, one) in
      let total = length-append (take parts.shared_len (take key_len buffer)) parts.left in
      let first : length (take parts.shared_len (take key_len buffer)) ≡ min parts.shared_len key_len = ap length (take_within parts.shared_len key_len buffer within) ∙ length-take-le (min parts.shared_len key_len) buffer (omega (arith, within)) in
      omega (arith, below, total, first)

  pub key_moved : (new_len : ℕ) (new : List ℕ) → Moved size left number key_len buffer bs parts after new_len new → take new_len new ≡ take parts.shared_len (take key_len buffer) ++ parts.left
  key_moved new_len new m = m.front ∙ ap (λ xs. xs ++ parts.left) (sym (take_within parts.shared_len key_len buffer m.within))

  pub moved_on : (new_len : ℕ) (new : List ℕ) → Moved size left number key_len buffer bs parts after new_len new → (new_len ≤ length new) × (number + 1 + (left - 1) < 2 ^ 64) × (keys_fit (length new) (terms_taken size (left - 1) (number + 1) (take new_len new) after) ≡ true) × (length (terms_taken size (left - 1) (number + 1) (take new_len new) after) ≡ left - 1)
  moved_on new_len new m =
      let key = take parts.shared_len (take key_len buffer) ++ parts.left in
      let there = first_left size left number (take key_len buffer) bs parts after m.some m.taken in
      let all = sym (ap (keys_fit (length buffer)) there) ∙ m.fit in
      let rest = (and_parts (nat_le (length key) (length buffer)) (keys_fit (length buffer) (terms_taken size (left - 1) (number + 1) key after)) all).1 in
      let long = sym (ap length there) ∙ m.many in
      let below = fits m.within m.fit m.some m.taken in
      let is = m.len_is in
      let same = m.same in
      let few = m.few in
      let some = m.some in
      let moved = key_moved new_len new m in (
        omega (arith, below, is, same),
        omega (arith, few, some),
        ap (λ k. keys_fit (length new) (terms_taken size (left - 1) (number + 1) k after)) moved ∙ ap (λ n. keys_fit n (terms_taken size (left - 1) (number + 1) key after)) same ∙ rest,
        ap (λ k. length (terms_taken size (left - 1) (number + 1) k after)) moved ∙ (let less : length (terms_taken size (left - 1) (number + 1) key after) ≡ left - 1 = omega (arith, long) in less),
      )

-- ---- all terms that stand there

module _ (size : ℕ) where
  shared_of : (number : ℕ) (before key : List ℕ) → take (shared_in size number before key) before ++ drop (shared_in size number before key) key ≡ key
  shared_of number before key = go (nat_eq (number % size) 0)
    where
      go : (t : Bool) → take (cond t 0 (shared before key)) before ++ drop (cond t 0 (shared before key)) key ≡ key
      go true = refl
      go false = shared_again before key

  pub all_taken : (number : ℕ) (before bs : List ℕ) (ts : List Told) (end : List ℕ) → length before + length bs < 2 ^ 64 → AreTerms size number before bs ts end → terms_taken size (length ts) number before bs ≡ ts
  all_taken number before bs [] end short terms = refl
  all_taken number before bs (t ∷ ts) end short terms =
      let entry = coded_entry (before_in_block size number before) t in
      let tail = coded_from size (number + 1) t.0 ts ++ end in
      let one : bs ≡ entry ++ tail = terms.spelled ∙ append_assoc entry (coded_from size (number + 1) t.0 ts) end in
      let total = first_short size number before t tail in
      let e = ap length one in
      let few : length before < 2 ^ 64 = omega (arith, short) in
      let small : length t.0 < 2 ^ 64 = omega (arith, short, total, e) in
      let rest : length t.0 + length tail < 2 ^ 64 = omega (arith, short, total, e) in
      let back : take_parts size number bs ≡ Some (parts_of size number before t, tail) = ap (take_parts size number) one ∙ parts_back size number before t tail terms.fit.0 few small in
      taken_one size (length ts) number before bs (Some (parts_of size number before t, tail)) back
      ∙ ap (λ k. (k, t.1) ∷ terms_taken size (length ts) (number + 1) k tail) (shared_of number before t.0)
      ∙ ap (λ us. t ∷ us) (all_taken (number + 1) t.0 tail ts end rest (record { spelled = refl; follow = terms.follow.1; fit = terms.fit.1 }))

  pub many_taken : (n : ℕ) (bs : List ℕ) (ts : List Told) (end : List ℕ) → length bs < 2 ^ 63 → length ts ≡ n → AreTerms size 0 [] bs ts end → terms_taken size n 0 [] bs ≡ ts
  many_taken n bs ts end short many terms = ap (λ m. terms_taken size m 0 [] bs) (sym many) ∙ all_taken 0 [] bs ts end (omega (arith, short)) terms

-- what a walk begins with
pub record Begins (size longest n : ℕ) (bs : List ℕ) : Type 0 where
  pub fit : keys_fit longest (terms_taken size n 0 [] bs) ≡ true
  pub many : length (terms_taken size n 0 [] bs) ≡ n

pub begins : (size longest n : ℕ) (bs : List ℕ) → length bs < 2 ^ 63 → ((ts : List Told) × (end : List ℕ) × (length ts ≡ n) × AreTerms size 0 [] bs ts end × (keys_fit longest ts ≡ true)) → Begins size longest n bs
begins size longest n bs short (ts, end, many, terms, fit) =
    let is = many_taken size n bs ts end short many terms in
    record { fit = ap (keys_fit longest) is ∙ fit; many = ap length is ∙ many }
