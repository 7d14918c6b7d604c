-- A block begins as a section does.
use Rattle.std.proofs.Common.{[], Bool, List, None, Option, Some, ap, ap₂, append_assoc, arith, cond, drop, false, get_or, inl, inr, length, nat_eq, refl, subst, suc, sym, take, true, zero, ◌%◌, ◌*◌, ◌++◌, ◌+◌, ◌/◌, ◌<◌, ◌≡◌, ◌≢◌, ◌≤◌, ◌∙◌, ◌∷◌, ◌⊎◌, ℕ}
use Rattle.std.proofs.Math.Nat.{add-mod_left, div-add-mod, le_of_mul-le-mul_left, mod-le, mul-le-mul_left}
use Rattle.std.proofs.Math.Seq.{drop-append_seam}
use Rattle.std.proofs.lemmas.Bool.{cases_lt}
use Rattle.std.proofs.lemmas.Bool.Decides.{nat_tests}
use Rattle.std.proofs.lemmas.List.{drop-drop}
use Rattle.front_coding.proofs.TermsTaken.{follows_of, less_of}
use Rattle.front_coding.specs.BlockPlaces.{BeginsAt, behind, positions_end, postings_end, starts_from}
use Rattle.front_coding.specs.declared.term_starts.TermStart.{TermStart}
use Rattle.layouts.specs.TermSections.{Told, before_in_block, coded_entry, coded_from}
use Rattle.front_coding.specs.TakenKeys.{AreTerms, Follow}

module _ (size : ℕ) where
  -- ---- numbers behind whole blocks

  mul_suc : (q : ℕ) → size * suc q ≡ size + size * q
  mul_suc q = omega arith

  mod_shift : (q j : ℕ) → (size * q + j) % size ≡ j % size
  mod_shift zero j = ap (λ n. n % size) (let same : size * 0 + j ≡ j = omega arith in same)
  mod_shift (suc q) j = ap (λ n. n % size) (let more = mul_suc q in let same : size * suc q + j ≡ size + (size * q + j) = omega (arith, more) in same) ∙ add-mod_left size (size * q + j) ∙ mod_shift q j

  pub coded_shift : (q j : ℕ) (before : List ℕ) (ts : List Told) → coded_from size (size * q + j) before ts ≡ coded_from size j before ts
  coded_shift q j before [] = refl
  coded_shift q j before (t ∷ ts) =
      let next : size * q + j + 1 ≡ size * q + (j + 1) = omega arith in
      ap₂ (λ (o : Option (List ℕ)) xs. coded_entry o t ++ xs) (ap (λ n. cond (nat_eq n 0) None (Some before)) (mod_shift q j)) (ap (λ n. coded_from size n t.0 ts) next ∙ coded_shift q (j + 1) t.0 ts)

  pub begins : nat_eq (0 % size) 0 ≡ true
  begins = (let small = mod-le 0 size in let none : 0 % size ≡ 0 = omega (arith, small) in grind (arith, nat_tests, none))

  pub coded_reset : (before : List ℕ) (ts : List Told) → coded_from size 0 before ts ≡ coded_from size 0 [] ts
  coded_reset before [] = refl
  coded_reset before (t ∷ ts) = ap (λ (o : Option (List ℕ)). coded_entry o t ++ coded_from size (0 + 1) t.0 ts) (ap (λ b. cond b None (Some before)) begins ∙ sym (ap (λ b. cond b None (Some [])) begins))

  follow_shift : (n m : ℕ) (before : List ℕ) (ts : List Told) → 0 < n → 0 < m → Follow n before ts → Follow m before ts
  follow_shift n m before [] one two follow = tt
  follow_shift n m before (t ∷ ts) one two follow = (follows_of m before t.0 (less_of n before t.0 (grind (arith, nat_tests, one)) follow.0), follow_shift (n + 1) (m + 1) t.0 ts (omega arith) (omega arith) follow.1)

  follow_reset : (n : ℕ) (before : List ℕ) (ts : List Told) → Follow n before ts → Follow 0 [] ts
  follow_reset n before [] follow = tt
  follow_reset n before (t ∷ ts) follow = (refl, follow_shift (n + 1) (0 + 1) t.0 ts (omega arith) (omega arith) follow.1)

  -- terms at the beginning of a block stand as the first of a section
  pub reset : (q : ℕ) (before bs : List ℕ) (ts : List Told) (end : List ℕ) → AreTerms size (size * q) before bs ts end → AreTerms size 0 [] bs ts end
  reset q before bs ts end terms = record {
    spelled = terms.spelled ∙ ap (λ xs. xs ++ end) (ap (λ n. coded_from size n before ts) (let same : size * q ≡ size * q + 0 = omega arith in same) ∙ coded_shift q 0 before ts ∙ coded_reset before ts);
    follow = follow_reset (size * q) before ts terms.follow;
    fit = terms.fit;
  }

  -- ---- the number of a block

  -- a number that begins a block, between its neighbours
  whole : (number q : ℕ) → 0 < size → number % size ≡ 0 → number ≤ size * q → size * q < number + size → number ≡ size * q
  whole number q some none low high =
      let parts = div-add-mod number size in
      let k = number / size in
      let is : number ≡ size * k = omega (arith, parts, none) in
      let up : k ≤ q = le_of_mul-le-mul_left (omega (arith, is, low)) some in
      let more = mul_suc k in
      let down : q < suc k = below k q (cases_lt q (suc k)) (omega (arith, is, high, more)) in
      is ∙ ap (λ n. size * n) (let same : k ≡ q = omega (arith, up, down) in same)
    where
      below : (k q : ℕ) → (q < suc k) ⊎ (suc k ≤ q) → size * q < size * suc k → q < suc k
      below k q (inl less) smaller = less
      below k q (inr over) smaller = (let grows = mul-le-mul_left size over in absurd (omega (arith, smaller, grows)))

  not_whole : (number q : ℕ) → nat_eq (number % size) 0 ≡ false → number ≢ size * q
  not_whole number q other is =
      let shift = mod_shift q 0 in
      let small = mod-le 0 size in
      let same : number % size ≡ (size * q + 0) % size = ap (λ n. n % size) (is ∙ (let plus : size * q ≡ size * q + 0 = omega arith in plus)) in
      let none : number % size ≡ 0 = omega (arith, same, shift, small) in
      absurd (grind (arith, nat_tests, other, none))

  -- ---- blocks

  -- the terms behind the first
  behind_first : (number : ℕ) (before : List ℕ) (at : TermStart) (section : List ℕ) (t : Told) (ts : List Told) (end : List ℕ) → AreTerms size number before (drop at.entry section) (t ∷ ts) end → AreTerms size (number + 1) t.0 (drop (behind (before_in_block size number before) at t).entry section) ts end
  behind_first number before at section t ts end terms =
      let entry = coded_entry (before_in_block size number before) t in
      let one : drop at.entry section ≡ entry ++ (coded_from size (number + 1) t.0 ts ++ end) = terms.spelled ∙ append_assoc entry (coded_from size (number + 1) t.0 ts) end in
      record {
        spelled = sym (drop-drop (length entry) at.entry section) ∙ ap (drop (length entry)) one ∙ drop-append_seam entry (coded_from size (number + 1) t.0 ts ++ end);
        follow = terms.follow.1;
        fit = terms.fit.1;
      }

  -- the block of a number, among those from a term on: its first term, from which on terms stand as in a section
  pub record Stands (number q block : ℕ) (start : TermStart) (section : List ℕ) (at : TermStart) (ts : List Told) (end : List ℕ) : Type 0 where
    pub first : ℕ
    pub first_is : number + first ≡ size * (q + block)
    pub within : first < length ts
    pub there : AreTerms size 0 [] (drop start.entry section) (drop first ts) end
    pub postings : start.postings ≡ postings_end at.postings (take first ts)
    pub positions : start.positions ≡ positions_end at.positions (take first ts)

  further : (number q block : ℕ) (before : List ℕ) (start : TermStart) (section : List ℕ) (at : TermStart) (t : Told) (ts : List Told) (end : List ℕ) (r c : ℕ) → r + c ≡ q + block → Stands (number + 1) r c start section (behind (before_in_block size number before) at t) ts end → Stands number q block start section at (t ∷ ts) end
  further number q block before start section at t ts end r c same s = record {
    first = suc s.first;
    first_is = (let is = s.first_is in let moved : number + suc s.first ≡ number + 1 + s.first = omega arith in moved ∙ is ∙ ap (λ n. size * n) same);
    within = (let w = s.within in omega (arith, w));
    there = s.there;
    postings = s.postings;
    positions = s.positions;
  }

  pub blocks_at : (number q : ℕ) (before : List ℕ) (at : TermStart) (section : List ℕ) (ts : List Told) (end : List ℕ) (block : ℕ) (d : TermStart) → 0 < size → number ≤ size * q → size * q < number + size → AreTerms size number before (drop at.entry section) ts end → block < length (starts_from size number before at ts) → Stands number q block (get_or (starts_from size number before at ts) block d) section at ts end
  blocks_at number q before at section [] end block d some low high terms within = absurd (omega (arith, within))
  blocks_at number q before at section (t ∷ ts) end block d some low high terms within =
      let next = behind (before_in_block size number before) at t in
      let more = mul_suc q in
      go (nat_eq (number % size) 0) refl
      (λ w n h. blocks_at (number + 1) (suc q) t.0 next section ts end w d some (omega (arith, more, n)) (omega (arith, more, n, some)) (behind_first number before at section t ts end terms) h)
      (λ n h. blocks_at (number + 1) q t.0 next section ts end block d some (omega (arith, low, n)) (omega (arith, high)) (behind_first number before at section t ts end terms) h)
      within
    where
      later_starts : List TermStart
      later_starts = starts_from size (number + 1) t.0 (behind (before_in_block size number before) at t) ts

      go : (b : Bool) → nat_eq (number % size) 0 ≡ b
          → ((w : ℕ) → number ≡ size * q → w < length later_starts → Stands (number + 1) (suc q) w (get_or later_starts w d) section (behind (before_in_block size number before) at t) ts end)
          → (number ≢ size * q → block < length later_starts → Stands (number + 1) q block (get_or later_starts block d) section (behind (before_in_block size number before) at t) ts end)
          → block < length (cond b (at ∷ []) [] ++ later_starts)
          → Stands number q block (get_or (cond b (at ∷ []) [] ++ later_starts) block d) section at (t ∷ ts) end
      go true e here later w = first_or block refl
        where
          none : number % size ≡ 0
          none = grind (arith, nat_tests, e)

          is : number ≡ size * q
          is = whole number q some none low high

          first_or : (k : ℕ) → block ≡ k → Stands number q block (get_or (at ∷ later_starts) block d) section at (t ∷ ts) end
          first_or zero same = subst (λ k. Stands number q k (get_or (at ∷ later_starts) k d) section at (t ∷ ts) end) (sym same) (record {
            first = 0;
            first_is = (let plus : number + 0 ≡ number = omega arith in plus) ∙ is ∙ ap (λ n. size * n) (let plus : q ≡ q + 0 = omega arith in plus);
            within = omega arith;
            there = reset q before (drop at.entry section) (t ∷ ts) end (subst (λ n. AreTerms size n before (drop at.entry section) (t ∷ ts) end) is terms);
            postings = refl;
            positions = refl;
          })
          first_or (suc k) same = subst (λ k. Stands number q k (get_or (at ∷ later_starts) k d) section at (t ∷ ts) end) (sym same) (further number q (suc k) before (get_or later_starts k d) section at t ts end (suc q) k (omega arith) (here k is (omega (arith, w, same))))
      go false e here later w = further number q block before (get_or later_starts block d) section at t ts end q block refl (later (not_whole number q e) w)

  -- the block of a number begins behind as many whole blocks, and from there on terms stand as in a section
  pub block_begins : (section : List ℕ) (first : TermStart) (ts : List Told) (end : List ℕ) (block : ℕ) (d : TermStart) → 0 < size → AreTerms size 0 [] (drop first.entry section) ts end → block < length (starts_from size 0 [] first ts) → BeginsAt size block (get_or (starts_from size 0 [] first ts) block d) section first ts end
  block_begins section first ts end block d some terms within =
      let zero_is : size * 0 ≡ 0 = omega arith in
      let start = get_or (starts_from size 0 [] first ts) block d in
      let s = blocks_at 0 0 [] first section ts end block d some (omega arith) (omega (arith, zero_is, some)) terms within in
      let is : s.first ≡ size * block = (let plus : s.first ≡ 0 + s.first = omega arith in plus) ∙ s.first_is ∙ ap (λ n. size * n) (let plus : 0 + block ≡ block = omega arith in plus) in
      record {
        within = subst (λ n. n < length ts) is s.within;
        there = subst (λ n. AreTerms size 0 [] (drop start.entry section) (drop n ts) end) is s.there;
        postings = s.postings ∙ ap (λ n. postings_end first.postings (take n ts)) is;
        positions = s.positions ∙ ap (λ n. positions_end first.positions (take n ts)) is;
      }

  -- a block stands for each `size` terms
  pub enough_blocks : (number q : ℕ) (before : List ℕ) (at : TermStart) (ts : List Told) (block : ℕ) → 0 < size → number ≤ size * q → size * q < number + size → size * (q + block) < number + length ts → block < length (starts_from size number before at ts)
  enough_blocks number q before at [] block some low high less = (let grows = mul-le-mul_left size (let more : q ≤ q + block = omega arith in more) in absurd (omega (arith, less, grows, low)))
  enough_blocks number q before at (t ∷ ts) block some low high less =
      let next = behind (before_in_block size number before) at t in
      let more = mul_suc q in
      go (nat_eq (number % size) 0) refl
      (λ w same n. enough_blocks (number + 1) (suc q) t.0 next ts w some (omega (arith, more, n)) (omega (arith, more, n, some)) (let sum : suc q + w ≡ q + block = omega (arith, same) in let whole_is : size * (suc q + w) ≡ size * (q + block) = ap (λ m. size * m) sum in omega (arith, whole_is, less)))
      (λ n. enough_blocks (number + 1) q t.0 next ts block some (omega (arith, low, n)) (omega (arith, high)) (omega (arith, less)))
    where
      later_starts : List TermStart
      later_starts = starts_from size (number + 1) t.0 (behind (before_in_block size number before) at t) ts

      go : (b : Bool) → nat_eq (number % size) 0 ≡ b → ((w : ℕ) → block ≡ suc w → number ≡ size * q → w < length later_starts) → (number ≢ size * q → block < length later_starts) → block < length (cond b (at ∷ []) [] ++ later_starts)
      go true e here later = first_or block refl
        where
          none : number % size ≡ 0
          none = grind (arith, nat_tests, e)

          first_or : (k : ℕ) → block ≡ k → block < length (at ∷ later_starts)
          first_or zero same = omega (arith, same)
          first_or (suc k) same = (let l = here k same (whole number q some none low high) in omega (arith, l, same))
      go false e here later = later (not_whole number q e)
