-- A key, looked up in a block.
use Rattle.std.proofs.Common.{[], Bool, List, None, Option, Some, ap, ap₂, append_assoc, arith, cond, drop, false, length, length-drop, min, nat_eq, nat_lt, refl, subst, suc, sym, true, zero, ◌%◌, ◌++◌, ◌*◌, ◌+◌, ◌<◌, ◌≡◌, ◌≤◌, ◌∙◌, ◌∷◌, ◌^◌, ℕ}
use Rattle.std.proofs.Math.Nat.{mod-le}
use Rattle.std.proofs.lemmas.Bool.Decides.{nat_tests}
use Rattle.std.specs.Cmp.Lexicographic.{slice_cmp}
use Rattle.std.proofs.lemmas.List.{drop_all}
use Rattle.std.proofs.lemmas.Nat.{mod-mul-add}
use Rattle.std.proofs.lemmas.Map.Text.{is_eq-slice_cmp}
use Rattle.std.specs.Cmp.Lexicographic.{nat_list_cmp_total}
use Rattle.std.specs.List.{prefix_len}
use Rattle.std.specs.Ordering.{is_eq, is_lt, nat_cmp, ordering_reverse}
use Rattle.std.specs.Prelude.{bytes_eq}
use Rattle.std.specs.declared.cmp.Ordering.{Ordering}
use Rattle.std.specs.declared.cmp.Ordering.TheVariants.{Equal, Greater, Less}
use Rattle.common.proofs.TakenBack.{bytes_back, vint_back}
use Rattle.definitions.specs.Json.{◌>>=◌}
use Rattle.definitions.specs.NumberCodes.{sized_bytes, take_bytes, take_vint, vint_bytes}
use Rattle.front_coding.proofs.SharedKeys.{shared_within}
use Rattle.front_coding.proofs.SharedOrder.{above_key, behind_shared, below_key, none_located, other_below}
use Rattle.front_coding.proofs.TermsTaken.{entry_parts, first_short, lengths_back, less_of}
use Rattle.layouts.specs.TermSections.{TermLengths, Told, before_in_block, coded_entry, coded_from, key_bytes, shared}
use Rattle.front_coding.specs.BlockPlaces.{EndWithin, IsBlock, positions_end, postings_end}
use Rattle.front_coding.specs.LookUps.{Parts, compared, located, parts_of, shared_in, stands_below, take_parts}
use Rattle.front_coding.specs.declared.term_starts.TermStart.{TermStart}
use Rattle.front_coding.specs.TakenKeys.{AreTerms, Follow, LengthsFit, take_lengths}

-- ends grow
pub postings_grow : (p : ℕ) (ts : List Told) → p ≤ postings_end p ts
postings_grow p [] = omega arith
postings_grow p (t ∷ ts) = (let later = postings_grow (p + t.1.postings_len) ts in omega (arith, later))

pub positions_grow : (q : ℕ) (ts : List Told) → q ≤ positions_end q ts
positions_grow q [] = omega arith
positions_grow q (t ∷ ts) = (let later = positions_grow (q + t.1.positions_len) ts in omega (arith, later))

module _ (size : ℕ) where
  -- ---- parts are taken as they are put

  abbrev after_shared : ℕ × List ℕ → Option (Parts × List ℕ)
  after_shared alike = take_bytes alike.1 >>= (λ left. take_lengths left.1 >>= (λ lengths. Some (record { shared_len = alike.0; left = left.0; lengths = lengths.0 }, lengths.1)))

  tail_back : (alike : ℕ) (left : List ℕ) (l : TermLengths) (rest : List ℕ) → length left < 2 ^ 64 → LengthsFit l → after_shared (alike, sized_bytes left ++ (vint_bytes l.doc_freq ++ (vint_bytes l.postings_len ++ (vint_bytes l.positions_len ++ rest)))) ≡ Some (record { shared_len = alike; left = left; lengths = l }, rest)
  tail_back alike left l rest short fits =
      let after = vint_bytes l.doc_freq ++ (vint_bytes l.postings_len ++ (vint_bytes l.positions_len ++ rest)) in
      ap (λ o. o >>= (λ left. take_lengths left.1 >>= (λ lengths. Some (record { shared_len = alike; left = left.0; lengths = lengths.0 }, lengths.1)))) (bytes_back left after short)
      ∙ ap (λ o. o >>= (λ (lengths : TermLengths × List ℕ). Some (record { shared_len = alike; left = left; lengths = lengths.0 }, lengths.1))) (lengths_back size l rest fits)

  pub parts_back : (number : ℕ) (before : List ℕ) (t : Told) (rest : List ℕ) → LengthsFit t.1 → length before < 2 ^ 64 → length t.0 < 2 ^ 64 → take_parts size number (coded_entry (before_in_block size number before) t ++ rest) ≡ Some (parts_of size number before t, rest)
  parts_back number before t rest fits short_before short = ap (take_parts size number) (entry_parts size (key_bytes (before_in_block size number before) t.0) t.1 rest) ∙ go (nat_eq (number % size) 0)
    where
      go : (b : Bool) → (let bs = key_bytes (cond b None (Some before)) t.0 ++ (vint_bytes t.1.doc_freq ++ (vint_bytes t.1.postings_len ++ (vint_bytes t.1.positions_len ++ rest))) in (cond b (Some (0, bs)) (take_vint bs) >>= after_shared) ≡ Some (record { shared_len = cond b 0 (shared before t.0); left = drop (cond b 0 (shared before t.0)) t.0; lengths = t.1 }, rest))
      go true = tail_back 0 t.0 t.1 rest short fits
      go false =
          let alike = shared before t.0 in
          let left = drop alike t.0 in
          let within = shared_within before t.0 in
          let few : alike < 2 ^ 64 = (let w = within.0 in omega (arith, w, short_before)) in
          let small : length left < 2 ^ 64 = (let d = length-drop alike t.0 in omega (arith, d, short)) in
          let after = vint_bytes t.1.doc_freq ++ (vint_bytes t.1.postings_len ++ (vint_bytes t.1.positions_len ++ rest)) in
          ap (λ bs. take_vint bs >>= after_shared) (append_assoc (vint_bytes alike) (sized_bytes left) after)
          ∙ ap (λ o. o >>= after_shared) (vint_back alike (sized_bytes left ++ after) few)
          ∙ tail_back alike left t.1 rest small fits

  -- ---- a look-up

  -- the terms before one are below the key, and this is the last of them
  pub record Looking (key block : List ℕ) (number alike : ℕ) (rest : List ℕ) (ts : List Told) (end : List ℕ) : Type 0 where
    pub before : List ℕ
    pub left : AreTerms size number before rest (drop number ts) end
    pub counted : prefix_len (stands_below key) ts ≡ number + prefix_len (stands_below key) (drop number ts)
    pub alike_is : alike ≡ shared before key
    pub first : nat_eq number 0 ≡ true → before ≡ []
    pub below : nat_eq number 0 ≡ false → slice_cmp nat_cmp before key ≡ Less
    pub short : length before + length rest ≤ length block

  -- and none of them is the key; the next one's postings and positions begin at these offsets
  pub record Summed (key : List ℕ) (start : TermStart) (number p q : ℕ) (ts : List Told) : Type 0 where
    pub found : located key start.postings start.positions ts ≡ located key p q (drop number ts)
    pub postings : postings_end p (drop number ts) ≡ postings_end start.postings ts
    pub positions : positions_end q (drop number ts) ≡ positions_end start.positions ts

  pub record Looks (key section : List ℕ) (n : ℕ) (start : TermStart) (number alike : ℕ) (rest : List ℕ) (p q : ℕ) : Type 0 where
    pub safe : alike ≤ length key
    pub looking : (ts : List Told) (end : List ℕ) → IsBlock size n section start ts end → Looking key (drop start.entry section) number alike rest ts end
    pub summed : (ts : List Told) (end : List ℕ) → IsBlock size n section start ts end → EndWithin start ts → Summed key start number p q ts

  pub begins : (key section : List ℕ) (n : ℕ) (start : TermStart) (rest : List ℕ) → rest ≡ drop start.entry section → Looks key section n start 0 0 rest start.postings start.positions
  begins key section n start rest is = record {
    safe = omega arith;
    looking = λ ts end block. record { before = []; left = subst (λ bs. AreTerms size 0 [] bs ts end) (sym is) block.terms_are; counted = omega arith; alike_is = refl; first = λ e. refl; below = λ e. absurd cc; short = (let l = ap length is in omega (arith, l)) };
    summed = λ ts end block ends. record { found = refl; postings = refl; positions = refl };
  }

  drop_here : (i : ℕ) (ts : List Told) → i < length ts → (t : Told) × (drop i ts ≡ t ∷ drop (i + 1) ts)
  drop_here i [] within = absurd (omega arith)
  drop_here zero (t ∷ ts) within = (t, refl)
  drop_here (suc i) (t ∷ ts) within =
      let here = drop_here i ts (omega arith) in
      let next : suc (i + 1) ≡ suc i + 1 = omega arith in
      (here.0, here.1 ∙ ap (λ k. here.0 ∷ drop k (t ∷ ts)) next)

  -- the term that stands there, as its parts were taken
  pub record Standing (key : List ℕ) (number alike : ℕ) (ts : List Told) (end : List ℕ) (parts : Parts) (after : List ℕ) : Type 0 where
    pub before : List ℕ
    pub term : Told
    pub more : List Told
    pub more_is : more ≡ drop (number + 1) ts
    pub here : drop number ts ≡ term ∷ more
    pub shared_is : parts.shared_len ≡ shared_in size number before term.0
    pub left_is : parts.left ≡ drop (shared_in size number before term.0) term.0
    pub lengths_are : parts.lengths ≡ term.1
    pub behind : AreTerms size (number + 1) term.0 after more end
    pub follow : Follow number before (term ∷ more)
    pub counted : prefix_len (stands_below key) ts ≡ number + prefix_len (stands_below key) (term ∷ more)
    pub alike_is : alike ≡ shared before key
    pub first : nat_eq number 0 ≡ true → before ≡ []
    pub below : nat_eq number 0 ≡ false → slice_cmp nat_cmp before key ≡ Less

  abbrev parts_in : Parts × List ℕ → Option (Parts × List ℕ) → Parts × List ℕ
  parts_in other None = other
  parts_in other (Some p) = p

  pub record Stood (key block : List ℕ) (number alike : ℕ) (ts : List Told) (end : List ℕ) (parts : Parts) (after : List ℕ) : Type 0 where
    pub standing : Standing key number alike ts end parts after
    pub short : length standing.term.0 + length after ≤ length block

  pub stands : (key section : List ℕ) (n : ℕ) (start : TermStart) (number alike : ℕ) (rest : List ℕ) (p q : ℕ) (parts : Parts) (after : List ℕ) → length section < 2 ^ 63 → number < n → Looks key section n start number alike rest p q → take_parts size number rest ≡ Some (parts, after) → (ts : List Told) (end : List ℕ) → IsBlock size n section start ts end → Stood key (drop start.entry section) number alike ts end parts after
  stands key section n start number alike rest p q parts after small within looks taken ts end block =
      let looking = looks.looking ts end block in
      let before = looking.before in
      let few_bytes = looking.short in
      let long = block.many in
      let little = length-drop start.entry section in
      let here = drop_here number ts (omega (arith, within, long)) in
      let t = here.0 in
      let more = drop (number + 1) ts in
      let left : AreTerms size number before rest (t ∷ more) end = subst (λ us. AreTerms size number before rest us end) here.1 looking.left in
      let entry = coded_entry (before_in_block size number before) t in
      let tail = coded_from size (number + 1) t.0 more ++ end in
      let one : rest ≡ entry ++ tail = left.spelled ∙ append_assoc entry (coded_from size (number + 1) t.0 more) end in
      let total = first_short size number before t tail in
      let e = ap length one in
      let back : take_parts size number rest ≡ Some (parts_of size number before t, tail) = ap (take_parts size number) one ∙ parts_back number before t tail left.fit.0 (omega (arith, few_bytes, small, little)) (omega (arith, few_bytes, small, little, total, e)) in
      let same : (parts, after) ≡ (parts_of size number before t, tail) = ap (parts_in (parts, after)) (sym taken ∙ back) in
      let p : parts ≡ parts_of size number before t = ap (λ (x : Parts × List ℕ). x.0) same in
      let a : after ≡ tail = ap (λ (x : Parts × List ℕ). x.1) same in
      record {
        standing = record {
          before = before;
          term = t;
          more = more;
          more_is = refl;
          here = here.1;
          shared_is = ap (λ (x : Parts). x.shared_len) p;
          left_is = ap (λ (x : Parts). x.left) p;
          lengths_are = ap (λ (x : Parts). x.lengths) p;
          behind = record { spelled = a; follow = left.follow.1; fit = left.fit.1 };
          follow = left.follow;
          counted = looking.counted ∙ ap (λ us. number + prefix_len (stands_below key) us) here.1;
          alike_is = looking.alike_is;
          first = looking.first;
          below = looking.below;
        };
        short = (let l = ap length a in omega (arith, few_bytes, total, e, l));
      }

  -- behind the first term of a block the one before shares what it does
  not_first : (number : ℕ) → number < size → 0 < number → (nat_eq (number % size) 0 ≡ false) × (nat_eq number 0 ≡ false)
  not_first number few some = (let here : number % size ≡ number = ap (λ n. n % size) (let same : number ≡ 0 * size + number = omega arith in same) ∙ mod-mul-add 0 size number few in (grind (arith, nat_tests, here, some), grind (arith, nat_tests, some)))

  shared_other : (number : ℕ) (before key : List ℕ) → nat_eq (number % size) 0 ≡ false → shared_in size number before key ≡ shared before key
  shared_other number before key other = ap (λ t. cond t 0 (shared before key)) other

  shared_bounded : (number : ℕ) (before key : List ℕ) → shared_in size number before key ≤ shared before key
  shared_bounded number before key = go (nat_eq (number % size) 0)
    where
      go : (t : Bool) → cond t 0 (shared before key) ≤ shared before key
      go true = omega arith
      go false = omega arith

  -- ---- what a term is to the key

  -- it shares less: it stands above the key
  pub shares_less : (key : List ℕ) (number alike : ℕ) (ts : List Told) (end : List ℕ) (parts : Parts) (after : List ℕ) → number < size → (s : Standing key number alike ts end parts after) → parts.shared_len < alike → slice_cmp nat_cmp key s.term.0 ≡ Less
  shares_less key number alike ts end parts after few s less = go (nat_eq number 0) refl
    where
      go : (b : Bool) → nat_eq number 0 ≡ b → slice_cmp nat_cmp key s.term.0 ≡ Less
      go true e =
          let none : shared s.before key ≡ 0 = ap (λ k. shared k key) (s.first e) in
          let alike_is = s.alike_is in
          absurd (omega (arith, none, alike_is, less))
      go false e =
          let some : 0 < number = grind (arith, nat_tests, e) in
          let other = (not_first number few some).0 in
          let step = less_of number s.before s.term.0 e s.follow.0 in
          let shares = s.shared_is ∙ shared_other number s.before s.term.0 other in
          let alike_is = s.alike_is in
          above_key s.before s.term.0 key step (s.below e) (omega (arith, less, shares, alike_is))

  -- it shares more: it stands below the key, which shares with it what it does with the one before
  pub shares_more : (key : List ℕ) (number alike : ℕ) (ts : List Told) (end : List ℕ) (parts : Parts) (after : List ℕ) → number < size → (s : Standing key number alike ts end parts after) → alike < parts.shared_len → (slice_cmp nat_cmp s.term.0 key ≡ Less) × (alike ≡ shared s.term.0 key)
  shares_more key number alike ts end parts after few s more = go (nat_eq number 0) refl
    where
      go : (b : Bool) → nat_eq number 0 ≡ b → (slice_cmp nat_cmp s.term.0 key ≡ Less) × (alike ≡ shared s.term.0 key)
      go true e =
          let zero_is : number ≡ 0 = grind (arith, nat_tests, e) in
          let little : number % size ≤ number = mod-le number size in
          let begins : nat_eq (number % size) 0 ≡ true = (let none : number % size ≡ 0 = omega (arith, little, zero_is) in grind (arith, nat_tests, none)) in
          let none : shared_in size number s.before s.term.0 ≡ 0 = ap (λ t. cond t 0 (shared s.before s.term.0)) begins in
          let shares = s.shared_is in
          absurd (omega (arith, none, shares, more))
      go false e =
          let some : 0 < number = grind (arith, nat_tests, e) in
          let other = (not_first number few some).0 in
          let step = less_of number s.before s.term.0 e s.follow.0 in
          let shares = s.shared_is ∙ shared_other number s.before s.term.0 other in
          let alike_is = s.alike_is in
          let both = below_key s.before s.term.0 key step (s.below e) (omega (arith, more, shares, alike_is)) in
          (both.0, alike_is ∙ sym both.1)

  -- it shares as much: what is left decides
  pub shares_alike : (key : List ℕ) (number alike : ℕ) (ts : List Told) (end : List ℕ) (parts : Parts) (after : List ℕ) → (s : Standing key number alike ts end parts after) → parts.shared_len ≡ alike → (shared s.term.0 key ≡ alike + shared parts.left (drop alike key)) × (slice_cmp nat_cmp s.term.0 key ≡ slice_cmp nat_cmp parts.left (drop alike key))
  shares_alike key number alike ts end parts after s same =
      let shares : shared_in size number s.before s.term.0 ≡ alike = sym s.shared_is ∙ same in
      let within = shared_bounded number s.before s.term.0 in
      let alike_is = s.alike_is in
      let left : drop alike s.term.0 ≡ parts.left = ap (λ n. drop n s.term.0) (sym shares) ∙ sym s.left_is in
      let both = behind_shared alike s.before s.term.0 key (omega (arith, within, shares)) (omega (arith, alike_is)) in
      (both.0 ∙ ap (λ xs. alike + shared xs (drop alike key)) left, both.1 ∙ ap (λ xs. slice_cmp nat_cmp xs (drop alike key)) left)

  -- it stands above the key, as far as what is left says
  pub is_past : (key : List ℕ) (number alike : ℕ) (ts : List Told) (end : List ℕ) (parts : Parts) (after : List ℕ) → (s : Standing key number alike ts end parts after) → parts.shared_len ≡ alike → slice_cmp nat_cmp parts.left (drop alike key) ≡ Greater → slice_cmp nat_cmp key s.term.0 ≡ Less
  is_past key number alike ts end parts after s same greater =
      let order : slice_cmp nat_cmp s.term.0 key ≡ Greater = (shares_alike key number alike ts end parts after s same).1 ∙ greater in
      nat_list_cmp_total.antisymm key s.term.0 ∙ ap ordering_reverse order

  -- it is the key
  pub is_equal : (key : List ℕ) (number alike : ℕ) (ts : List Told) (end : List ℕ) (parts : Parts) (after : List ℕ) → (s : Standing key number alike ts end parts after) → parts.shared_len ≡ alike → slice_cmp nat_cmp parts.left (drop alike key) ≡ Equal → slice_cmp nat_cmp s.term.0 key ≡ Equal
  is_equal key number alike ts end parts after s same equal = (shares_alike key number alike ts end parts after s same).1 ∙ equal

  -- ---- where a look-up ends

  -- at a term that isn't below the key
  pub counts : (key : List ℕ) (number alike : ℕ) (ts : List Told) (end : List ℕ) (parts : Parts) (after : List ℕ) → (s : Standing key number alike ts end parts after) → is_lt (slice_cmp nat_cmp s.term.0 key) ≡ false → number ≡ prefix_len (stands_below key) ts
  counts key number alike ts end parts after s other = (let count = s.counted ∙ ap (λ b. number + (cond b (1 + prefix_len (stands_below key) s.more) 0)) other in omega (arith, count))

  pub above_counts : (key : List ℕ) (number alike : ℕ) (ts : List Told) (end : List ℕ) (parts : Parts) (after : List ℕ) → (s : Standing key number alike ts end parts after) → slice_cmp nat_cmp key s.term.0 ≡ Less → number ≡ prefix_len (stands_below key) ts
  above_counts key number alike ts end parts after s above = counts key number alike ts end parts after s (ap is_lt (nat_list_cmp_total.antisymm s.term.0 key ∙ ap ordering_reverse above))

  pub equal_counts : (key : List ℕ) (number alike : ℕ) (ts : List Told) (end : List ℕ) (parts : Parts) (after : List ℕ) → (s : Standing key number alike ts end parts after) → slice_cmp nat_cmp s.term.0 key ≡ Equal → number ≡ prefix_len (stands_below key) ts
  equal_counts key number alike ts end parts after s equal = counts key number alike ts end parts after s (ap is_lt equal)

  -- at one above the key none is found
  pub above_found : (key : List ℕ) (start : TermStart) (number alike p q : ℕ) (ts : List Told) (end : List ℕ) (parts : Parts) (after : List ℕ) → (s : Standing key number alike ts end parts after) → Summed key start number p q ts → slice_cmp nat_cmp key s.term.0 ≡ Less → None ≡ located key start.postings start.positions ts
  above_found key start number alike p q ts end parts after s summed above = sym (summed.found ∙ ap (located key p q) s.here ∙ none_located number key s.before p q s.term s.more above s.follow)

  -- the term that is the key is found
  pub equal_found : (key : List ℕ) (start : TermStart) (number alike p q : ℕ) (ts : List Told) (end : List ℕ) (parts : Parts) (after : List ℕ) → (s : Standing key number alike ts end parts after) → Summed key start number p q ts → slice_cmp nat_cmp s.term.0 key ≡ Equal → Some (parts.lengths, p, q) ≡ located key start.postings start.positions ts
  equal_found key start number alike p q ts end parts after s summed equal =
      let it : bytes_eq s.term.0 key ≡ true = sym (is_eq-slice_cmp s.term.0 key) ∙ ap is_eq equal in
      ap (λ (l : TermLengths). Some (l, p, q)) s.lengths_are ∙ sym (summed.found ∙ ap (located key p q) s.here ∙ ap (λ b. cond b (Some (s.term.1, p, q)) (located key (p + s.term.1.postings_len) (q + s.term.1.positions_len) s.more)) it)

  -- ---- behind a term below the key

  goes_on : (key block : List ℕ) (number alike further : ℕ) (ts : List Told) (end : List ℕ) (parts : Parts) (after : List ℕ) → (s : Stood key block number alike ts end parts after) → slice_cmp nat_cmp s.standing.term.0 key ≡ Less → further ≡ shared s.standing.term.0 key → Looking key block (number + 1) further after ts end
  goes_on key block number alike further ts end parts after s below further_is = record {
    before = s.standing.term.0;
    left = subst (λ us. AreTerms size (number + 1) s.standing.term.0 after us end) s.standing.more_is s.standing.behind;
    counted = s.standing.counted ∙ ap (λ o. number + (cond (is_lt o) (1 + prefix_len (stands_below key) s.standing.more) 0)) below ∙ (let next : number + (1 + prefix_len (stands_below key) s.standing.more) ≡ number + 1 + prefix_len (stands_below key) s.standing.more = omega arith in next) ∙ ap (λ us. number + 1 + prefix_len (stands_below key) us) s.standing.more_is;
    alike_is = further_is;
    first = λ e. absurd (grind (arith, nat_tests, e));
    below = λ e. below;
    short = s.short;
  }

  -- the sums go on as well: they meet no bound
  sums_on : (key : List ℕ) (start : TermStart) (number alike p q p_new q_new : ℕ) (ts : List Told) (end : List ℕ) (parts : Parts) (after : List ℕ) → p_new ≡ min (p + parts.lengths.postings_len) 18446744073709551615 → q_new ≡ min (q + parts.lengths.positions_len) 18446744073709551615 → (s : Standing key number alike ts end parts after) → EndWithin start ts → Summed key start number p q ts → slice_cmp nat_cmp s.term.0 key ≡ Less → Summed key start (number + 1) p_new q_new ts
  sums_on key start number alike p q p_new q_new ts end parts after p_is q_is s ends summed below =
      let first : parts.lengths.postings_len ≡ s.term.1.postings_len = ap (λ (l : TermLengths). l.postings_len) s.lengths_are in
      let second : parts.lengths.positions_len ≡ s.term.1.positions_len = ap (λ (l : TermLengths). l.positions_len) s.lengths_are in
      let p_there : postings_end (p + s.term.1.postings_len) s.more ≡ postings_end start.postings ts = ap (postings_end p) (sym s.here) ∙ summed.postings in
      let q_there : positions_end (q + s.term.1.positions_len) s.more ≡ positions_end start.positions ts = ap (positions_end q) (sym s.here) ∙ summed.positions in
      let p_grows = postings_grow (p + s.term.1.postings_len) s.more in
      let q_grows = positions_grow (q + s.term.1.positions_len) s.more in
      let p_few = ends.postings in
      let q_few = ends.positions in
      let p_sum : p_new ≡ p + s.term.1.postings_len = omega (arith, p_is, first, p_there, p_grows, p_few) in
      let q_sum : q_new ≡ q + s.term.1.positions_len = omega (arith, q_is, second, q_there, q_grows, q_few) in
      let other : bytes_eq s.term.0 key ≡ false = other_below key s.term.0 below in
      record {
        found =
            summed.found
            ∙ ap (located key p q) s.here
            ∙ ap (λ b. cond b (Some (s.term.1, p, q)) (located key (p + s.term.1.postings_len) (q + s.term.1.positions_len) s.more)) other
            ∙ ap₂ (λ x y. located key x y s.more) (sym p_sum) (sym q_sum)
            ∙ ap (located key p_new q_new) s.more_is;
        postings = ap₂ postings_end p_sum (sym s.more_is) ∙ p_there;
        positions = ap₂ positions_end q_sum (sym s.more_is) ∙ q_there;
      }

  -- the parts of a term that stands there are taken
  pub none_stands : (key section : List ℕ) (n : ℕ) (start : TermStart) (number alike : ℕ) (rest : List ℕ) (p q : ℕ) → length section < 2 ^ 63 → number < n → Looks key section n start number alike rest p q → take_parts size number rest ≡ None → (ts : List Told) (end : List ℕ) → IsBlock size n section start ts end → ⊥
  none_stands key section n start number alike rest p q small within looks taken ts end block =
      let looking = looks.looking ts end block in
      let before = looking.before in
      let few_bytes = looking.short in
      let long = block.many in
      let little = length-drop start.entry section in
      let here = drop_here number ts (omega (arith, within, long)) in
      let t = here.0 in
      let left : AreTerms size number before rest (t ∷ drop (number + 1) ts) end = subst (λ us. AreTerms size number before rest us end) here.1 looking.left in
      let entry = coded_entry (before_in_block size number before) t in
      let tail = coded_from size (number + 1) t.0 (drop (number + 1) ts) ++ end in
      let one : rest ≡ entry ++ tail = left.spelled ∙ append_assoc entry (coded_from size (number + 1) t.0 (drop (number + 1) ts)) end in
      let total = first_short size number before t tail in
      let e = ap length one in
      let back : take_parts size number rest ≡ Some (parts_of size number before t, tail) = ap (take_parts size number) one ∙ parts_back number before t tail left.fit.0 (omega (arith, few_bytes, small, little)) (omega (arith, few_bytes, small, little, total, e)) in
      let apart : ◌≡◌ {A = Option (Parts × List ℕ)} None (Some (parts_of size number before t, tail)) = sym taken ∙ back in
      absurd cc

  abbrev by_tests : Bool → Bool → Parts → ℕ → List ℕ → Ordering × ℕ
  by_tests b d parts alike key = cond b (Greater, alike) (cond d (Less, alike) (slice_cmp nat_cmp parts.left (drop alike key), alike + shared parts.left (drop alike key)))

  -- a term that stands above the key
  pub compared_above : (key : List ℕ) (number alike : ℕ) (ts : List Told) (end : List ℕ) (parts : Parts) (after : List ℕ) → number < size → (s : Standing key number alike ts end parts after) → (compared parts alike key).0 ≡ Greater → slice_cmp nat_cmp key s.term.0 ≡ Less
  compared_above key number alike ts end parts after few s is = go (nat_lt parts.shared_len alike) (nat_lt alike parts.shared_len) refl refl is
    where
      go : (b d : Bool) → nat_lt parts.shared_len alike ≡ b → nat_lt alike parts.shared_len ≡ d → (by_tests b d parts alike key).0 ≡ Greater → slice_cmp nat_cmp key s.term.0 ≡ Less
      go true d e f h = shares_less key number alike ts end parts after few s (grind (arith, nat_tests, e))
      go false true e f h = absurd cc
      go false false e f h = is_past key number alike ts end parts after s (grind (arith, nat_tests, e, f)) h

  -- the term that is the key
  pub compared_equal : (key : List ℕ) (number alike : ℕ) (ts : List Told) (end : List ℕ) (parts : Parts) (after : List ℕ) → (s : Standing key number alike ts end parts after) → (compared parts alike key).0 ≡ Equal → slice_cmp nat_cmp s.term.0 key ≡ Equal
  compared_equal key number alike ts end parts after s is = go (nat_lt parts.shared_len alike) (nat_lt alike parts.shared_len) refl refl is
    where
      go : (b d : Bool) → nat_lt parts.shared_len alike ≡ b → nat_lt alike parts.shared_len ≡ d → (by_tests b d parts alike key).0 ≡ Equal → slice_cmp nat_cmp s.term.0 key ≡ Equal
      go true d e f h = absurd cc
      go false true e f h = absurd cc
      go false false e f h = is_equal key number alike ts end parts after s (grind (arith, nat_tests, e, f)) h

  -- one that stands below it
  compared_below : (key : List ℕ) (number alike : ℕ) (ts : List Told) (end : List ℕ) (parts : Parts) (after : List ℕ) → number < size → (s : Standing key number alike ts end parts after) → (compared parts alike key).0 ≡ Less → (slice_cmp nat_cmp s.term.0 key ≡ Less) × ((compared parts alike key).1 ≡ shared s.term.0 key)
  compared_below key number alike ts end parts after few s is = go (nat_lt parts.shared_len alike) (nat_lt alike parts.shared_len) refl refl is
    where
      go : (b d : Bool) → nat_lt parts.shared_len alike ≡ b → nat_lt alike parts.shared_len ≡ d → (by_tests b d parts alike key).0 ≡ Less → (slice_cmp nat_cmp s.term.0 key ≡ Less) × ((by_tests b d parts alike key).1 ≡ shared s.term.0 key)
      go true d e f h = absurd cc
      go false true e f h = shares_more key number alike ts end parts after few s (grind (arith, nat_tests, f))
      go false false e f h = (let both = shares_alike key number alike ts end parts after s (grind (arith, nat_tests, e, f)) in (both.1 ∙ h, sym both.0))

  compared_safe : (key : List ℕ) (alike : ℕ) (parts : Parts) → alike ≤ length key → (compared parts alike key).1 ≤ length key
  compared_safe key alike parts safe = go (nat_lt parts.shared_len alike) (nat_lt alike parts.shared_len)
    where
      go : (b d : Bool) → (by_tests b d parts alike key).1 ≤ length key
      go true d = safe
      go false true = safe
      go false false = (let s = shared_within parts.left (drop alike key) in let l = length-drop alike key in omega (arith, safe, s, l))

  pub looks_on : (key section : List ℕ) (n : ℕ) (start : TermStart) (number alike further : ℕ) (rest : List ℕ) (p q p_new q_new : ℕ) (parts : Parts) (after : List ℕ) → length section < 2 ^ 63 → number < n → Looks key section n start number alike rest p q → take_parts size number rest ≡ Some (parts, after) → p_new ≡ min (p + parts.lengths.postings_len) 18446744073709551615 → q_new ≡ min (q + parts.lengths.positions_len) 18446744073709551615 → (compared parts alike key).0 ≡ Less → further ≡ (compared parts alike key).1 → Looks key section n start (number + 1) further after p_new q_new
  looks_on key section n start number alike further rest p q p_new q_new parts after small within looks taken p_is q_is less further_is = record {
    safe = (let safe = compared_safe key alike parts looks.safe in omega (arith, safe, further_is));
    looking = λ ts end block.
        let s = stands key section n start number alike rest p q parts after small within looks taken ts end block in
        let few = block.num_terms_fit in
        let both = compared_below key number alike ts end parts after (omega (arith, within, few)) s.standing less in
        goes_on key (drop start.entry section) number alike further ts end parts after s both.0 (further_is ∙ both.1);
    summed = λ ts end block ends.
        let s = stands key section n start number alike rest p q parts after small within looks taken ts end block in
        let few = block.num_terms_fit in
        let both = compared_below key number alike ts end parts after (omega (arith, within, few)) s.standing less in
        sums_on key start number alike p q p_new q_new ts end parts after p_is q_is s.standing ends (looks.summed ts end block ends) both.0;
  }

  -- no term is left
  pub all_counted : (key section : List ℕ) (n : ℕ) (start : TermStart) (number alike : ℕ) (rest : List ℕ) (p q : ℕ) → n ≤ number → Looks key section n start number alike rest p q → (ts : List Told) (end : List ℕ) → IsBlock size n section start ts end → number ≡ prefix_len (stands_below key) ts
  all_counted key section n start number alike rest p q past looks ts end block =
      let long = block.many in
      let count = (looks.looking ts end block).counted ∙ ap (λ us. number + prefix_len (stands_below key) us) (drop_all number ts (omega (arith, long, past))) in
      omega (arith, count)

  pub all_looked : (key section : List ℕ) (n : ℕ) (start : TermStart) (number alike : ℕ) (rest : List ℕ) (p q : ℕ) → n ≤ number → Looks key section n start number alike rest p q → (ts : List Told) (end : List ℕ) → IsBlock size n section start ts end → EndWithin start ts → None ≡ located key start.postings start.positions ts
  all_looked key section n start number alike rest p q past looks ts end block ends =
      let long = block.many in
      sym ((looks.summed ts end block ends).found ∙ ap (located key p q) (drop_all number ts (omega (arith, long, past))))
