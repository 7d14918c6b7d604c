-- Terms are taken as they are put.
use Rattle.std.proofs.Common.{[], Bool, List, None, Option, Some, ap, ap₂, append_assoc, arith, cond, drop, false, flat_map, length, length-append, length-drop, map, nat_eq, refl, subst, sym, true, ◌%◌, ◌++◌, ◌+◌, ◌<◌, ◌≡◌, ◌≢◌, ◌≤◌, ◌∙◌, ◌∷◌, ◌^◌, ◌||◌, ℕ}
use Rattle.std.proofs.lemmas.Bool.Decides.{nat_tests}
use Rattle.std.proofs.Math.Nat.{mod-le}
use Rattle.std.specs.Cmp.Lexicographic.{slice_cmp}
use Rattle.std.specs.List.{AllByRecursion}
use Rattle.std.specs.Ordering.{is_lt, nat_cmp}
use Rattle.std.specs.declared.cmp.Ordering.{Ordering}
use Rattle.std.specs.declared.cmp.Ordering.TheVariants.{Equal, Greater, Less}
use Rattle.common.proofs.TakenBack.{bytes_back, bytes_put, vint_back, vint_put}
use Rattle.common.proofs.WordBytes.{back_bytes as bytes_behind}
use Rattle.definitions.proofs.Lists.{bind_some}
use Rattle.definitions.specs.Json.{only_if, ◌>>=◌}
use Rattle.definitions.specs.NumberCodes.{AreBytes, sized_bytes, take_bytes, take_vint, vint_bytes}
use Rattle.front_coding.proofs.KeysTaken.{next_back, next_put, test_passed}
use Rattle.front_coding.proofs.SharedKeys.{shared_within}
use Rattle.layouts.specs.TermSections.{TermLengths, TermsAscend, Told, before_in_block, coded_entry, coded_from, coded_terms, key_bytes, lengths_bytes, shared}
use Rattle.front_coding.specs.TakenKeys.{AreTerms, Follow, LengthsFit, may_follow, take_first_key, take_key, take_lengths, take_next_key, take_term}

-- ---- order

pub less_from : (o : Ordering) → is_lt o ≡ true → o ≡ Less
less_from Less h = refl
less_from Equal h = absurd cc
less_from Greater h = absurd cc

pub less_of : (number : ℕ) (before key : List ℕ) → nat_eq number 0 ≡ false → may_follow number before key ≡ true → slice_cmp nat_cmp before key ≡ Less
less_of number before key other follows = less_from (slice_cmp nat_cmp before key) (ap (λ t. t || is_lt (slice_cmp nat_cmp before key)) (sym other) ∙ follows)

pub follows_of : (number : ℕ) (before key : List ℕ) → slice_cmp nat_cmp before key ≡ Less → may_follow number before key ≡ true
follows_of number before key below = go (nat_eq number 0) ∙ refl
  where
    go : (t : Bool) → (t || is_lt (slice_cmp nat_cmp before key)) ≡ true
    go true = refl
    go false = ap is_lt below

module _ (size : ℕ) where
  -- within a block a term isn't the first
  not_first : (number : ℕ) → nat_eq (number % size) 0 ≡ false → nat_eq number 0 ≡ false
  not_first number e = go (nat_eq number 0) refl
    where
      go : (t : Bool) → nat_eq number 0 ≡ t → nat_eq number 0 ≡ false
      go false h = h
      go true h = (let zero_is : number ≡ 0 = grind (arith, nat_tests, h) in let small : 0 % size ≤ 0 = mod-le 0 size in let none : number % size ≡ 0 % size = ap (λ n. n % size) zero_is in let rest : number % size ≢ 0 = grind (arith, nat_tests, e) in absurd (omega (arith, none, small, rest)))

  -- ---- keys

  pub key_back : (number : ℕ) (before key rest : List ℕ) → may_follow number before key ≡ true → length before < 2 ^ 64 → length key < 2 ^ 64 → take_key size number before (key_bytes (before_in_block size number before) key ++ rest) ≡ Some (key, rest)
  key_back number before key rest follows short_before short = go (nat_eq (number % size) 0) refl
    where
      go : (t : Bool) → nat_eq (number % size) 0 ≡ t → (let bs = key_bytes (cond t None (Some before)) key ++ rest in cond t (take_first_key number before bs) (take_next_key before bs)) ≡ Some (key, rest)
      go true e = ap (λ o. o >>= (λ (p : List ℕ × List ℕ). only_if (may_follow number before p.0) (Some p))) (bytes_back key rest short) ∙ ap (λ t. only_if t (Some (key, rest))) follows
      go false e = next_back before key rest (less_of number before key (not_first number e) follows) short_before short

  pub key_put : (number : ℕ) (before bs key rest : List ℕ) → AreBytes bs → take_key size number before bs ≡ Some (key, rest) → (may_follow number before key ≡ true) × (bs ≡ key_bytes (before_in_block size number before) key ++ rest)
  key_put number before bs key rest bytes taken = go (nat_eq (number % size) 0) taken
    where
      go : (t : Bool) → cond t (take_first_key number before bs) (take_next_key before bs) ≡ Some (key, rest) → (may_follow number before key ≡ true) × (bs ≡ key_bytes (cond t None (Some before)) key ++ rest)
      go true is =
          let one = bind_some (take_bytes bs) (λ (p : List ℕ × List ℕ). only_if (may_follow number before p.0) (Some p)) (key, rest) is in
          let passed = test_passed (may_follow number before one.0.0) one.0 (key, rest) one.2 in
          let k : one.0.0 ≡ key = ap (λ (p : List ℕ × List ℕ). p.0) passed.1 in
          let whole : take_bytes bs ≡ Some (key, rest) = one.1 ∙ ap (λ p. Some p) passed.1 in
          (ap (may_follow number before) (sym k) ∙ passed.0, (bytes_put bs key rest bytes whole).1)
      go false is = (let put = next_put before bs key rest bytes is in (follows_of number before key put.0, put.1))

  -- a key is no longer than the one before and its own bytes
  key_short : (number : ℕ) (before key : List ℕ) → length key ≤ length before + length (key_bytes (before_in_block size number before) key)
  key_short number before key = go (nat_eq (number % size) 0)
    where
      go : (t : Bool) → length key ≤ length before + length (key_bytes (cond t None (Some before)) key)
      go true = (let l = length-append (vint_bytes (length key)) key in omega (arith, l))
      go false =
          let alike = shared before key in
          let left = drop alike key in
          let within = shared_within before key in
          let d = length-drop alike key in
          let l = length-append (vint_bytes alike) (sized_bytes left) in
          let m = length-append (vint_bytes (length left)) left in
          omega (arith, within, d, l, m)

  -- ---- terms

  pub entry_parts : (k : List ℕ) (l : TermLengths) (rest : List ℕ) → (k ++ lengths_bytes l) ++ rest ≡ k ++ (vint_bytes l.doc_freq ++ (vint_bytes l.postings_len ++ (vint_bytes l.positions_len ++ rest)))
  entry_parts k l rest =
      let d = vint_bytes l.doc_freq in
      let p = vint_bytes l.postings_len in
      let q = vint_bytes l.positions_len in
      append_assoc k ((d ++ p) ++ q) rest ∙ ap (λ xs. k ++ xs) (append_assoc (d ++ p) q rest ∙ append_assoc d p (q ++ rest))

  abbrev told_from : List ℕ → ℕ → ℕ → ℕ → List ℕ → Option (Told × List ℕ)
  told_from key docs postings positions rest = Some ((key, record { doc_freq = docs; postings_len = postings; positions_len = positions }), rest)

  abbrev lengths_from : ℕ → ℕ → ℕ → List ℕ → Option (TermLengths × List ℕ)
  lengths_from docs postings positions rest = Some (record { doc_freq = docs; postings_len = postings; positions_len = positions }, rest)

  pub lengths_back : (l : TermLengths) (rest : List ℕ) → LengthsFit l → take_lengths (vint_bytes l.doc_freq ++ (vint_bytes l.postings_len ++ (vint_bytes l.positions_len ++ rest))) ≡ Some (l, rest)
  lengths_back l rest fits =
      let p = vint_bytes l.postings_len in
      let q = vint_bytes l.positions_len in
      ap (λ o. o >>= (λ docs. take_vint docs.1 >>= (λ postings. take_vint postings.1 >>= (λ positions. lengths_from docs.0 postings.0 positions.0 positions.1)))) (vint_back l.doc_freq (p ++ (q ++ rest)) fits.docs)
      ∙ ap (λ o. o >>= (λ postings. take_vint postings.1 >>= (λ positions. lengths_from l.doc_freq postings.0 positions.0 positions.1))) (vint_back l.postings_len (q ++ rest) fits.postings)
      ∙ ap (λ o. o >>= (λ positions. lengths_from l.doc_freq l.postings_len positions.0 positions.1)) (vint_back l.positions_len rest fits.positions)

  pub term_back : (number : ℕ) (before : List ℕ) (t : Told) (rest : List ℕ) → may_follow number before t.0 ≡ true → LengthsFit t.1 → length before < 2 ^ 64 → length t.0 < 2 ^ 64 → take_term size number before (coded_entry (before_in_block size number before) t ++ rest) ≡ Some (t, rest)
  term_back number before t rest follows fits short_before short =
      let k = key_bytes (before_in_block size number before) t.0 in
      let after = vint_bytes t.1.doc_freq ++ (vint_bytes t.1.postings_len ++ (vint_bytes t.1.positions_len ++ rest)) in
      ap (take_term size number before) (entry_parts k t.1 rest)
      ∙ ap (λ o. o >>= (λ key. take_lengths key.1 >>= (λ lengths. Some ((key.0, lengths.0), lengths.1)))) (key_back number before t.0 after follows short_before short)
      ∙ ap (λ o. o >>= (λ (lengths : TermLengths × List ℕ). Some ((t.0, lengths.0), lengths.1))) (lengths_back t.1 rest fits)

  pub record IsTaken (number : ℕ) (before bs : List ℕ) (t : Told) (rest : List ℕ) : Type 0 where
    pub follows : may_follow number before t.0 ≡ true
    pub fits : LengthsFit t.1
    pub spelled : bs ≡ coded_entry (before_in_block size number before) t ++ rest
    pub short : length t.0 + length rest ≤ length before + length bs

  lengths_put : (bs : List ℕ) (l : TermLengths) (rest : List ℕ) → AreBytes bs → take_lengths bs ≡ Some (l, rest) → LengthsFit l × (bs ≡ vint_bytes l.doc_freq ++ (vint_bytes l.postings_len ++ (vint_bytes l.positions_len ++ rest)))
  lengths_put bs l rest bytes taken =
      let docs = bind_some (take_vint bs) (λ docs. take_vint docs.1 >>= (λ postings. take_vint postings.1 >>= (λ positions. lengths_from docs.0 postings.0 positions.0 positions.1))) (l, rest) taken in
      let postings = bind_some (take_vint docs.0.1) (λ postings. take_vint postings.1 >>= (λ positions. lengths_from docs.0.0 postings.0 positions.0 positions.1)) (l, rest) docs.2 in
      let positions = bind_some (take_vint postings.0.1) (λ positions. lengths_from docs.0.0 postings.0.0 positions.0 positions.1) (l, rest) postings.2 in
      put docs.0 postings.0 positions.0 docs.1 postings.1 positions.1 positions.2
    where
      lengths_in : TermLengths × List ℕ → Option (TermLengths × List ℕ) → TermLengths × List ℕ
      lengths_in other None = other
      lengths_in other (Some p) = p

      put : (docs postings positions : ℕ × List ℕ) → take_vint bs ≡ Some docs → take_vint docs.1 ≡ Some postings → take_vint postings.1 ≡ Some positions → lengths_from docs.0 postings.0 positions.0 positions.1 ≡ Some (l, rest) → LengthsFit l × (bs ≡ vint_bytes l.doc_freq ++ (vint_bytes l.postings_len ++ (vint_bytes l.positions_len ++ rest)))
      put docs postings positions b c d is =
          let made : TermLengths = record { doc_freq = docs.0; postings_len = postings.0; positions_len = positions.0 } in
          let second = vint_put bs docs.0 docs.1 bytes b in
          let third = vint_put docs.1 postings.0 postings.1 (bytes_behind (vint_bytes docs.0) docs.1 (subst AreBytes second.1 bytes)) c in
          let fourth = vint_put postings.1 positions.0 positions.1 (bytes_behind (vint_bytes postings.0) postings.1 (subst AreBytes third.1 (bytes_behind (vint_bytes docs.0) docs.1 (subst AreBytes second.1 bytes)))) d in
          let same : (made, positions.1) ≡ (l, rest) = ap (lengths_in (made, positions.1)) is in
          let whole : bs ≡ vint_bytes docs.0 ++ (vint_bytes postings.0 ++ (vint_bytes positions.0 ++ positions.1)) = second.1 ∙ ap (λ xs. vint_bytes docs.0 ++ xs) (third.1 ∙ ap (λ xs. vint_bytes postings.0 ++ xs) fourth.1) in
          let fits : LengthsFit made = record { docs = second.0; postings = third.0; positions = fourth.0 } in
          (subst LengthsFit (ap (λ (p : TermLengths × List ℕ). p.0) same) fits, whole ∙ ap (λ (p : TermLengths × List ℕ). vint_bytes p.0.doc_freq ++ (vint_bytes p.0.postings_len ++ (vint_bytes p.0.positions_len ++ p.1))) same)

  pub term_put : (number : ℕ) (before bs : List ℕ) (t : Told) (rest : List ℕ) → AreBytes bs → take_term size number before bs ≡ Some (t, rest) → IsTaken number before bs t rest
  term_put number before bs t rest bytes taken =
      let key = bind_some (take_key size number before bs) (λ key. take_lengths key.1 >>= (λ lengths. Some ((key.0, lengths.0), lengths.1))) (t, rest) taken in
      let lengths = bind_some (take_lengths key.0.1) (λ (lengths : TermLengths × List ℕ). Some ((key.0.0, lengths.0), lengths.1)) (t, rest) key.2 in
      put key.0 lengths.0 key.1 lengths.1 lengths.2
    where
      told_in : Told × List ℕ → Option (Told × List ℕ) → Told × List ℕ
      told_in other None = other
      told_in other (Some p) = p

      put : (key : List ℕ × List ℕ) (lengths : TermLengths × List ℕ) → take_key size number before bs ≡ Some key → take_lengths key.1 ≡ Some lengths → ◌≡◌ {A = Option (Told × List ℕ)} (Some ((key.0, lengths.0), lengths.1)) (Some (t, rest)) → IsTaken number before bs t rest
      put key lengths first second is =
          let same : ((key.0, lengths.0), lengths.1) ≡ (t, rest) = ap (told_in ((key.0, lengths.0), lengths.1)) is in
          let one = key_put number before bs key.0 key.1 bytes first in
          let k = key_bytes (before_in_block size number before) key.0 in
          let two = lengths_put key.1 lengths.0 lengths.1 (bytes_behind k key.1 (subst AreBytes one.1 bytes)) second in
          let whole : bs ≡ coded_entry (before_in_block size number before) (key.0, lengths.0) ++ lengths.1 = one.1 ∙ ap (λ xs. k ++ xs) two.1 ∙ sym (entry_parts k lengths.0 lengths.1) in
          let long = ap length whole in
          let all = length-append (k ++ lengths_bytes lengths.0) lengths.1 in
          let entry = length-append k (lengths_bytes lengths.0) in
          let few = key_short number before key.0 in
          subst (λ (p : Told × List ℕ). IsTaken number before bs p.0 p.1) same (record { follows = one.0; fits = two.0; spelled = whole; short = omega (arith, long, all, entry, few) })

  -- ---- one reading

  abbrev told_in : Told × List ℕ → Option (Told × List ℕ) → Told × List ℕ
  told_in other None = other
  told_in other (Some p) = p

  -- a term that stands first is no longer than what it follows and the bytes
  pub first_short : (number : ℕ) (before : List ℕ) (t : Told) (rest : List ℕ) → length t.0 + length rest ≤ length before + length (coded_entry (before_in_block size number before) t ++ rest)
  first_short number before t rest =
      let k = key_bytes (before_in_block size number before) t.0 in
      let all = length-append (k ++ lengths_bytes t.1) rest in
      let entry = length-append k (lengths_bytes t.1) in
      let few = key_short number before t.0 in
      omega (arith, all, entry, few)

  pub same_first : (number : ℕ) (before bs : List ℕ) (t u : Told) (rest others : List ℕ) → length before + length bs < 2 ^ 64 → may_follow number before t.0 ≡ true → may_follow number before u.0 ≡ true → LengthsFit t.1 → LengthsFit u.1 → bs ≡ coded_entry (before_in_block size number before) t ++ rest → bs ≡ coded_entry (before_in_block size number before) u ++ others → (t ≡ u) × (rest ≡ others)
  same_first number before bs t u rest others short a b fits fits_too one two =
      let back : take_term size number before bs ≡ Some (t, rest) = ap (take_term size number before) one ∙ term_back number before t rest a fits (omega (arith, short)) (let l = first_short number before t rest in let e = ap length one in omega (arith, short, l, e)) in
      let again : take_term size number before bs ≡ Some (u, others) = ap (take_term size number before) two ∙ term_back number before u others b fits_too (omega (arith, short)) (let l = first_short number before u others in let e = ap length two in omega (arith, short, l, e)) in
      let same : (t, rest) ≡ (u, others) = ap (told_in (t, rest)) (sym back ∙ again) in
      (ap (λ (p : Told × List ℕ). p.0) same, ap (λ (p : Told × List ℕ). p.1) same)

  pub terms_once : (number : ℕ) (before bs : List ℕ) (ts us : List Told) (rest others : List ℕ) → length ts ≡ length us → length before + length bs < 2 ^ 64 → AreTerms size number before bs ts rest → AreTerms size number before bs us others → (ts ≡ us) × (rest ≡ others)
  terms_once number before bs [] [] rest others many short a b = (refl, sym a.spelled ∙ b.spelled)
  terms_once number before bs [] (u ∷ us) rest others many short a b = absurd (omega (arith, many))
  terms_once number before bs (t ∷ ts) [] rest others many short a b = absurd (omega (arith, many))
  terms_once number before bs (t ∷ ts) (u ∷ us) rest others many short a b =
      let entry = coded_entry (before_in_block size number before) t in
      let other = coded_entry (before_in_block size number before) u in
      let left = coded_from size (number + 1) t.0 ts ++ rest in
      let one : bs ≡ entry ++ left = a.spelled ∙ append_assoc entry (coded_from size (number + 1) t.0 ts) rest in
      let two : bs ≡ other ++ (coded_from size (number + 1) u.0 us ++ others) = b.spelled ∙ append_assoc other (coded_from size (number + 1) u.0 us) others in
      let first = same_first number before bs t u left (coded_from size (number + 1) u.0 us ++ others) short a.follow.0 b.follow.0 a.fit.0 b.fit.0 one two in
      let key : u.0 ≡ t.0 = ap (λ (x : Told). x.0) (sym first.0) in
      let few : length t.0 + length left < 2 ^ 64 = (let l = first_short number before t left in let e = ap length one in omega (arith, short, l, e)) in
      let later : AreTerms size (number + 1) t.0 left us others = record {
        spelled = first.1 ∙ ap (λ k. coded_from size (number + 1) k us ++ others) key;
        follow = subst (λ k. Follow (number + 1) k us) key b.follow.1;
        fit = b.fit.1;
      } in
      let behind = terms_once (number + 1) t.0 left ts us rest others (omega (arith, many)) few (record { spelled = refl; follow = a.follow.1; fit = a.fit.1 }) later in
      (ap₂ (λ x xs. x ∷ xs) first.0 behind.0, behind.1)

  -- ---- ascending terms follow one another

  follow_behind : (number : ℕ) (before : List ℕ) (ts : List Told) → TermsAscend (before ∷ map (λ (t : Told). t.0) ts) → Follow number before ts
  follow_behind number before [] a = tt
  follow_behind number before (t ∷ ts) a = (follows_of number before t.0 a.0, follow_behind (number + 1) t.0 ts a.1)

  pub follow_all : (ts : List Told) → TermsAscend (map (λ (t : Told). t.0) ts) → Follow 0 [] ts
  follow_all [] a = tt
  follow_all (t ∷ ts) a = (refl, follow_behind 1 t.0 ts a)

  pub one_reading : (ts us : List Told) (rest others : List ℕ) → length ts ≡ length us → length (coded_terms size ts ++ rest) < 2 ^ 63 → TermsAscend (map (λ (t : Told). t.0) ts) → TermsAscend (map (λ (t : Told). t.0) us) → AllByRecursion (λ (t : Told). LengthsFit t.1) ts → AllByRecursion (λ (t : Told). LengthsFit t.1) us → coded_terms size ts ++ rest ≡ coded_terms size us ++ others → (ts ≡ us) × (rest ≡ others)
  one_reading ts us rest others many short a b fit fit_too same = terms_once 0 [] (coded_terms size ts ++ rest) ts us rest others many (omega (arith, short)) (record { spelled = refl; follow = follow_all ts a; fit = fit }) (record { spelled = same; follow = follow_all us b; fit = fit_too })

-- in blocks of one each term stands whole
pub whole_terms : (number : ℕ) (before : List ℕ) (ts : List Told) → coded_from 1 number before ts ≡ flat_map (coded_entry None) ts
whole_terms number before [] = refl
whole_terms number before (t ∷ ts) =
    let none : number % 1 ≡ 0 = omega arith in
    let first : nat_eq (number % 1) 0 ≡ true = grind (arith, nat_tests, none) in
    ap₂ (λ (o : Option (List ℕ)) xs. coded_entry o t ++ xs) (ap (λ b. cond b None (Some before)) first) (whole_terms (number + 1) t.0 ts)
