-- A key is found in the block that may have it.
use Rattle.std.proofs.Common.{[], List, None, Option, Some, ap, ap₂, append_assoc, arith, cond, drop, false, get_or, inl, inr, length, length-drop, min, refl, subst, suc, sym, take, true, zero, ◌*◌, ◌++◌, ◌+◌, ◌-◌, ◌<◌, ◌≡◌, ◌≤◌, ◌∙◌, ◌∷◌, ◌^◌, ◌⊎◌, ℕ}
use Rattle.std.proofs.lemmas.Bool.{cases_lt}
use Rattle.std.proofs.lemmas.Bool.Decides.{nat_tests}
use Rattle.std.proofs.lemmas.List.{drop-drop, drop_all, length-take-le, take-append-drop}
use Rattle.std.proofs.lemmas.Map.Lookups.{exact_bytes}
use Rattle.std.specs.Cmp.Lexicographic.{nat_list_cmp_total, slice_cmp}
use Rattle.std.specs.List.{AllByRecursion, prefix_len}
use Rattle.std.specs.Ordering.{is_lt, nat_cmp, ordering_reverse}
use Rattle.std.specs.Prelude.{bytes_eq}
use Rattle.std.specs.declared.cmp.Ordering.{Ordering}
use Rattle.std.specs.declared.cmp.Ordering.TheVariants.{Equal, Greater, Less}
use Rattle.common.proofs.TakenBack.{bytes_back}
use Rattle.definitions.specs.NumberCodes.{sized_bytes, take_bytes}
use Rattle.front_coding.proofs.BlockLoop.{positions_grow, postings_grow}
use Rattle.front_coding.proofs.BlockPlaces.{begins, block_begins, enough_blocks}
use Rattle.front_coding.proofs.SharedOrder.{none_located, other_below}
use Rattle.front_coding.proofs.TermsTaken.{first_short, less_from, less_of}
use Rattle.front_coding.specs.BlockPlaces.{AreUpTo, BeginsAt, EndWithin, IsBlock, is_before, key_at, positions_end, postings_end, starts_from}
use Rattle.front_coding.specs.LookUps.{located, stands_below}
use Rattle.front_coding.specs.TakenKeys.{AreTerms, Follow}
use Rattle.front_coding.specs.declared.term_starts.TermStart.{TermStart}
use Rattle.layouts.specs.TermSections.{TermLengths, Told, before_in_block, coded_entry, coded_from, key_bytes, lengths_bytes}

-- ---- terms before and behind a key

-- a term below one that isn't above the key is below it
below_too : (key s h : List ℕ) → slice_cmp nat_cmp s h ≡ Less → is_before key h ≡ false → slice_cmp nat_cmp s key ≡ Less
below_too key s h below up = go (slice_cmp nat_cmp h key) refl
  where
    go : (o : Ordering) → slice_cmp nat_cmp h key ≡ o → slice_cmp nat_cmp s key ≡ Less
    go Less e = nat_list_cmp_total.trans s h key below e
    go Equal e = subst (λ k. slice_cmp nat_cmp s k ≡ Less) (exact_bytes h key e) below
    go Greater e =
        let above : slice_cmp nat_cmp key h ≡ Less = nat_list_cmp_total.antisymm key h ∙ ap ordering_reverse e in
        let apart : true ≡ false = sym (ap is_lt above) ∙ up in
        absurd cc

-- terms follow one another, so a first one is below each later one
below_later : (number : ℕ) (s : List ℕ) (ts : List Told) (i : ℕ) (h : Told) (us : List Told) → 0 < number → Follow number s ts → drop i ts ≡ h ∷ us → slice_cmp nat_cmp s h.0 ≡ Less
below_later number s [] zero h us some follow is = (let l = ap length is in absurd (omega (arith, l)))
below_later number s [] (suc i) h us some follow is = (let l = ap length is in absurd (omega (arith, l)))
below_later number s (t ∷ ts) zero h us some follow is =
    let step : slice_cmp nat_cmp s t.0 ≡ Less = less_of number s t.0 (grind (arith, nat_tests, some)) follow.0 in
    subst (λ (x : Told). slice_cmp nat_cmp s x.0 ≡ Less) (ap (first_of t) is) step
  where
    first_of : Told → List Told → Told
    first_of d [] = d
    first_of d (x ∷ xs) = x
below_later number s (t ∷ ts) (suc i) h us some follow is =
    let step : slice_cmp nat_cmp s t.0 ≡ Less = less_of number s t.0 (grind (arith, nat_tests, some)) follow.0 in
    nat_list_cmp_total.trans s t.0 h.0 step (below_later (number + 1) t.0 ts i h us (omega arith) follow.1 is)

-- all of these are below the key
abbrev pub AreBelow : List ℕ → List Told → Type 0
AreBelow key ts = AllByRecursion (λ (t : Told). slice_cmp nat_cmp t.0 key ≡ Less) ts

below_before : (number : ℕ) (key before : List ℕ) (ts : List Told) (i : ℕ) (h : Told) (us : List Told) → Follow number before ts → drop i ts ≡ h ∷ us → is_before key h.0 ≡ false → AreBelow key (take i ts)
below_before number key before ts zero h us follow is up = tt
below_before number key before [] (suc i) h us follow is up = tt
below_before number key before (t ∷ ts) (suc i) h us follow is up =
    let below = below_later (number + 1) t.0 ts i h us (omega arith) follow.1 is in
    (below_too key t.0 h.0 below up, below_before (number + 1) key t.0 ts i h us follow.1 is up)

located_past : (key : List ℕ) (p q : ℕ) (xs ys : List Told) → AreBelow key xs → located key p q (xs ++ ys) ≡ located key (postings_end p xs) (positions_end q xs) ys
located_past key p q [] ys below = refl
located_past key p q (x ∷ xs) ys below = ap (λ b. cond b (Some (x.1, p, q)) (located key (p + x.1.postings_len) (q + x.1.positions_len) (xs ++ ys))) (other_below key x.0 below.0) ∙ located_past key (p + x.1.postings_len) (q + x.1.positions_len) xs ys below.1

counted_past : (key : List ℕ) (xs ys : List Told) → AreBelow key xs → prefix_len (stands_below key) (xs ++ ys) ≡ length xs + prefix_len (stands_below key) ys
counted_past key [] ys below = omega arith
counted_past key (x ∷ xs) ys below = ap (λ o. cond (is_lt o) (1 + prefix_len (stands_below key) (xs ++ ys)) 0) below.0 ∙ (let later = counted_past key xs ys below.1 in omega (arith, later))

-- none of these is below the key or has it
pub record AreBehind (key : List ℕ) (ts : List Told) : Type 0 where
  pub none : prefix_len (stands_below key) ts ≡ 0
  pub other : (p q : ℕ) → located key p q ts ≡ None

none_left : (key : List ℕ) (ts : List Told) → ts ≡ [] → AreBehind key ts
none_left key ts is = record { none = ap (prefix_len (stands_below key)) is; other = λ p q. ap (located key p q) is }

first_above : (number : ℕ) (key before : List ℕ) (t : Told) (ts : List Told) → slice_cmp nat_cmp key t.0 ≡ Less → Follow number before (t ∷ ts) → AreBehind key (t ∷ ts)
first_above number key before t ts above follow = record {
  none = ap (λ o. cond (is_lt o) (1 + prefix_len (stands_below key) ts) 0) (nat_list_cmp_total.antisymm t.0 key ∙ ap ordering_reverse above);
  other = λ p q. none_located number key before p q t ts above follow;
}

located_ahead : (key : List ℕ) (p q : ℕ) (xs ys : List Told) → AreBehind key ys → located key p q (xs ++ ys) ≡ located key p q xs
located_ahead key p q [] ys behind = behind.other p q
located_ahead key p q (x ∷ xs) ys behind = ap (λ o. cond (bytes_eq x.0 key) (Some (x.1, p, q)) o) (located_ahead key (p + x.1.postings_len) (q + x.1.positions_len) xs ys behind)

counted_ahead : (key : List ℕ) (xs ys : List Told) → AreBehind key ys → prefix_len (stands_below key) (xs ++ ys) ≡ prefix_len (stands_below key) xs
counted_ahead key [] ys behind = behind.none
counted_ahead key (x ∷ xs) ys behind = ap (λ n. cond (stands_below key x) (1 + n) 0) (counted_ahead key xs ys behind)

follow_behind : (number : ℕ) (before : List ℕ) (ts : List Told) (i : ℕ) (h : Told) (us : List Told) → Follow number before ts → drop i ts ≡ h ∷ us → (n : ℕ) × (b : List ℕ) × Follow n b (h ∷ us)
follow_behind number before ts zero h us follow is = (number, before, subst (Follow number before) is follow)
follow_behind number before [] (suc i) h us follow is = (let l = ap length is in absurd (omega (arith, l)))
follow_behind number before (t ∷ ts) (suc i) h us follow is = follow_behind (number + 1) t.0 ts i h us follow.1 is

pub postings_parts : (p : ℕ) (xs ys : List Told) → postings_end p (xs ++ ys) ≡ postings_end (postings_end p xs) ys
postings_parts p [] ys = refl
postings_parts p (x ∷ xs) ys = postings_parts (p + x.1.postings_len) xs ys

pub positions_parts : (q : ℕ) (xs ys : List Told) → positions_end q (xs ++ ys) ≡ positions_end (positions_end q xs) ys
positions_parts q [] ys = refl
positions_parts q (x ∷ xs) ys = positions_parts (q + x.1.positions_len) xs ys

-- ---- blocks

module _ (size : ℕ) where
  -- the key that stands where terms begin
  first_key : (bs : List ℕ) (t : Told) (ts : List Told) (end : List ℕ) → length bs < 2 ^ 63 → AreTerms size 0 [] bs (t ∷ ts) end → take_bytes bs ≡ Some (t.0, lengths_bytes t.1 ++ (coded_from size (0 + 1) t.0 ts ++ end))
  first_key bs t ts end short terms =
      let entry = coded_entry (before_in_block size 0 []) t in
      let tail = coded_from size (0 + 1) t.0 ts ++ end in
      let one : bs ≡ entry ++ tail = terms.spelled ∙ append_assoc entry (coded_from size (0 + 1) t.0 ts) end in
      let total = first_short size 0 [] t tail in
      let e = ap length one in
      let whole : entry ≡ sized_bytes t.0 ++ lengths_bytes t.1 = ap (λ b. key_bytes (cond b None (Some [])) t.0 ++ lengths_bytes t.1) (begins size) in
      ap take_bytes (one ∙ ap (λ xs. xs ++ tail) whole ∙ append_assoc (sized_bytes t.0) (lengths_bytes t.1) tail)
      ∙ bytes_back t.0 (lengths_bytes t.1 ++ tail) (omega (arith, short, total, e))

  -- the first terms of several
  pub first_terms : (number : ℕ) (before bs : List ℕ) (ts : List Told) (end : List ℕ) (n : ℕ) → AreTerms size number before bs ts end → (rest : List ℕ) × AreTerms size number before bs (take n ts) rest
  first_terms number before bs ts end zero terms = (bs, record { spelled = refl; follow = tt; fit = tt })
  first_terms number before bs [] end (suc n) terms = (end, terms)
  first_terms number before bs (t ∷ ts) end (suc n) terms =
      let entry = coded_entry (before_in_block size number before) t in
      let tail = coded_from size (number + 1) t.0 ts ++ end in
      let later = first_terms (number + 1) t.0 tail ts end n (record { spelled = refl; follow = terms.follow.1; fit = terms.fit.1 }) in (
        later.0,
        record {
          spelled = terms.spelled ∙ append_assoc entry (coded_from size (number + 1) t.0 ts) end ∙ ap (λ xs. entry ++ xs) later.1.spelled ∙ sym (append_assoc entry (coded_from size (number + 1) t.0 (take n ts)) later.0);
          follow = (terms.follow.0, later.1.follow);
          fit = (terms.fit.0, later.1.fit);
        },
      )

  -- the first term of a block
  pub record Head (section : List ℕ) (ts : List Told) (end : List ℕ) (block offset : ℕ) : Type 0 where
    pub first : Told
    pub others : List Told
    pub are : drop (size * block) ts ≡ first ∷ others
    pub key_is : key_at section offset ≡ first.0
    pub there : AreTerms size 0 [] (drop offset section) (first ∷ others) end

  module _ (section : List ℕ) (first : TermStart) (ts : List Told) (end : List ℕ) (some : 0 < size) (short : length section < 2 ^ 63) (terms : AreTerms size 0 [] (drop first.entry section) ts end) where
    starts_all : List TermStart
    starts_all = starts_from size 0 [] first ts

    pub begins_at : (block : ℕ) (d : TermStart) → block < length (starts_from size 0 [] first ts) → BeginsAt size block (get_or (starts_from size 0 [] first ts) block d) section first ts end
    begins_at block d within = block_begins size section first ts end block d some terms within

    head_of : (block : ℕ) (d : TermStart) → block < length (starts_from size 0 [] first ts) → Head section ts end block (get_or (starts_from size 0 [] first ts) block d).entry
    head_of block d within = go (begins_at block d within) (drop (size * block) ts) refl
      where
        go : BeginsAt size block (get_or (starts_from size 0 [] first ts) block d) section first ts end → (us : List Told) → drop (size * block) ts ≡ us → Head section ts end block (get_or (starts_from size 0 [] first ts) block d).entry
        go b [] is = (let l = ap length is in let r = length-drop (size * block) ts in let w = b.within in absurd (omega (arith, l, r, w)))
        go b (t ∷ us) is =
            let offset = (get_or (starts_from size 0 [] first ts) block d).entry in
            let there : AreTerms size 0 [] (drop offset section) (t ∷ us) end = subst (λ xs. AreTerms size 0 [] (drop offset section) xs end) is b.there in
            record {
              first = t;
              others = us;
              are = is;
              key_is = ap (λ (o : Option (List ℕ × List ℕ)). elim o [ None ↦ [] | Some p ↦ p.0 ]) (first_key (drop offset section) t us end (let l = length-drop offset section in omega (arith, l, short)) there);
              there = there;
            }

    -- there is a block for each `size` terms
    pub has_block : (block : ℕ) → size * block < length ts → block < length (starts_from size 0 [] first ts)
    has_block block within =
        let zero_is : size * 0 ≡ 0 = omega arith in
        let sum : size * (0 + block) ≡ size * block = ap (λ n. size * n) (let same : 0 + block ≡ block = omega arith in same) in
        enough_blocks size 0 0 [] first ts block some (omega arith) (omega (arith, zero_is, some)) (omega (arith, sum, within))

    module _ (starts : List TermStart) (key : List ℕ) (d : TermStart) (are : starts ≡ starts_from size 0 [] first ts) where
      -- before the first block there is none
      pub none_up_to : AreUpTo section starts key 0 → AreBehind key ts
      none_up_to up = go ts refl
        where
          zero_is : size * 0 ≡ 0
          zero_is = omega arith

          go : (us : List Told) → ts ≡ us → AreBehind key ts
          go [] is = none_left key ts is
          go (u ∷ us) is =
              let has = has_block 0 (let l = ap length is in omega (arith, l, zero_is)) in
              let head = head_of 0 d has in
              let it : head.first ∷ head.others ≡ ts = sym head.are ∙ ap (λ n. drop n ts) zero_is in
              let long : 0 < length starts = (let l = ap length are in omega (arith, l, has)) in
              let high : is_before key (key_at section (get_or (starts_from size 0 [] first ts) 0 d).entry) ≡ true = ap (λ bs. is_before key (key_at section (get_or bs 0 d).entry)) (sym are) ∙ up.high long d in
              let above : slice_cmp nat_cmp key head.first.0 ≡ Less = less_from (slice_cmp nat_cmp key head.first.0) (ap (is_before key) (sym head.key_is) ∙ high) in
              subst (AreBehind key) it (first_above 0 key [] head.first head.others above (subst (Follow 0 []) (sym it) terms.follow))

      module _ (block : ℕ) (up : AreUpTo section starts key (suc block)) (left : ℕ) (left_is : left ≡ min (length ts - size * block) size) where
        in_blocks : block < length (starts_from size 0 [] first ts)
        in_blocks = (let w = up.within in let l = ap length are in omega (arith, w, l))

        abbrev start : TermStart
        start = get_or (starts_from size 0 [] first ts) block d

        head : Head section ts end block (get_or (starts_from size 0 [] first ts) block d).entry
        head = head_of block d in_blocks

        abbrev here : List Told
        here = head.first ∷ head.others

        many : length (head.first ∷ head.others) ≡ length ts - size * block
        many = (let l = ap length head.are in let r = length-drop (size * block) ts in omega (arith, l, r))

        not_above : is_before key head.first.0 ≡ false
        not_above =
            let this : suc block - 1 ≡ block = omega arith in
            ap (is_before key) (sym head.key_is)
            ∙ ap (λ bs. is_before key (key_at section (get_or bs block d).entry)) (sym are)
            ∙ sym (ap (λ n. is_before key (key_at section (get_or starts n d).entry)) this)
            ∙ up.low (omega arith) d

        behind_block : AreBehind key (drop left (head.first ∷ head.others))
        behind_block = go (cases_lt size (length (head.first ∷ head.others)))
          where
            go : (size < length (head.first ∷ head.others)) ⊎ (length (head.first ∷ head.others) ≤ size) → AreBehind key (drop left (head.first ∷ head.others))
            go (inr few) = none_left key (drop left (head.first ∷ head.others)) (drop_all left (head.first ∷ head.others) (let m = many in omega (arith, few, m, left_is)))
            go (inl more) =
                let whole : left ≡ size = (let m = many in omega (arith, more, m, left_is)) in
                let grows : size * suc block ≡ size * block + size = omega arith in
                let next : size * suc block < length ts = (let m = many in omega (arith, more, m, grows)) in
                let has = has_block (suc block) next in
                let later = head_of (suc block) d has in
                let high : is_before key (key_at section (get_or (starts_from size 0 [] first ts) (suc block) d).entry) ≡ true = ap (λ bs. is_before key (key_at section (get_or bs (suc block) d).entry)) (sym are) ∙ up.high (let l = ap length are in omega (arith, has, l)) d in
                let above : slice_cmp nat_cmp key later.first.0 ≡ Less = less_from (slice_cmp nat_cmp key later.first.0) (ap (is_before key) (sym later.key_is) ∙ high) in
                let rest_is : drop left (head.first ∷ head.others) ≡ later.first ∷ later.others = ap (drop left) (sym head.are) ∙ ap (λ n. drop n (drop (size * block) ts)) whole ∙ drop-drop size (size * block) ts ∙ ap (λ n. drop n ts) (sym grows) ∙ later.are in
                let follow = follow_behind 0 [] ts (size * suc block) later.first later.others terms.follow later.are in
                subst (AreBehind key) (sym rest_is) (first_above follow.0 key follow.1 later.first later.others above follow.2)

        -- the terms of the block
        abbrev pub own_terms : List Told
        own_terms = take left (drop (size * block) ts)

        own_are : own_terms ≡ take left (head.first ∷ head.others)
        own_are = ap (take left) head.are

        pub block_is : (rest : List ℕ) × IsBlock size left section (get_or starts block d) own_terms rest
        block_is =
            let part = first_terms 0 [] (drop start.entry section) here end left head.there in
            let there : AreTerms size 0 [] (drop (get_or starts block d).entry section) own_terms part.0 = subst (λ bs. AreTerms size 0 [] (drop (get_or bs block d).entry section) own_terms part.0) (sym are) (subst (λ us. AreTerms size 0 [] (drop start.entry section) us part.0) (sym own_are) part.1) in (
              part.0,
              record {
                many = ap length own_are ∙ length-take-le left here (let m = many in omega (arith, left_is, m));
                num_terms_fit = omega (arith, left_is);
                terms_are = there;
              },
            )

        below_block : AreBelow key (take (size * block) ts)
        below_block = below_before 0 key [] ts (size * block) head.first head.others terms.follow head.are not_above

        all_parts : ts ≡ take (size * block) ts ++ (own_terms ++ drop left (head.first ∷ head.others))
        all_parts = sym (take-append-drop (size * block) ts) ∙ ap (λ us. take (size * block) ts ++ us) (sym (take-append-drop left (drop (size * block) ts)) ∙ ap (λ us. own_terms ++ drop left us) head.are)

        pub block_counts : (n : ℕ) → n ≡ prefix_len (stands_below key) own_terms → size * block + n ≡ prefix_len (stands_below key) ts
        block_counts n is =
            let long : length (take (size * block) ts) ≡ size * block = length-take-le (size * block) ts (let w = (begins_at block d in_blocks).within in omega (arith, w)) in
            let whole = ap (prefix_len (stands_below key)) all_parts ∙ counted_past key (take (size * block) ts) (own_terms ++ drop left here) below_block in
            let own = counted_ahead key own_terms (drop left here) behind_block in
            omega (arith, long, whole, own, is)

        start_is : get_or starts block d ≡ get_or (starts_from size 0 [] first ts) block d
        start_is = ap (λ bs. get_or bs block d) are

        pub block_found : (o : Option (TermLengths × ℕ × ℕ)) → o ≡ located key (get_or starts block d).postings (get_or starts block d).positions own_terms → o ≡ located key first.postings first.positions ts
        block_found o is =
            let b = begins_at block d in_blocks in
            let p : (get_or starts block d).postings ≡ postings_end first.postings (take (size * block) ts) = ap (λ (x : TermStart). x.postings) start_is ∙ b.postings in
            let q : (get_or starts block d).positions ≡ positions_end first.positions (take (size * block) ts) = ap (λ (x : TermStart). x.positions) start_is ∙ b.positions in
            is
            ∙ ap₂ (λ x y. located key x y own_terms) p q
            ∙ sym (located_ahead key (postings_end first.postings (take (size * block) ts)) (positions_end first.positions (take (size * block) ts)) own_terms (drop left here) behind_block)
            ∙ sym (located_past key first.postings first.positions (take (size * block) ts) (own_terms ++ drop left here) below_block)
            ∙ ap (located key first.postings first.positions) (sym all_parts)

        pub block_ends : EndWithin first ts → EndWithin (get_or starts block d) own_terms
        block_ends ends =
            let b = begins_at block d in_blocks in
            let rest = drop left here in
            let p : (get_or starts block d).postings ≡ postings_end first.postings (take (size * block) ts) = ap (λ (x : TermStart). x.postings) start_is ∙ b.postings in
            let q : (get_or starts block d).positions ≡ positions_end first.positions (take (size * block) ts) = ap (λ (x : TermStart). x.positions) start_is ∙ b.positions in
            let p_all = ap (postings_end first.postings) all_parts ∙ postings_parts first.postings (take (size * block) ts) (own_terms ++ rest) ∙ ap (λ x. postings_end x (own_terms ++ rest)) (sym p) ∙ postings_parts (get_or starts block d).postings own_terms rest in
            let q_all = ap (positions_end first.positions) all_parts ∙ positions_parts first.positions (take (size * block) ts) (own_terms ++ rest) ∙ ap (λ x. positions_end x (own_terms ++ rest)) (sym q) ∙ positions_parts (get_or starts block d).positions own_terms rest in
            let p_grows = postings_grow (postings_end (get_or starts block d).postings own_terms) rest in
            let q_grows = positions_grow (positions_end (get_or starts block d).positions own_terms) rest in
            let p_few = ends.postings in
            let q_few = ends.positions in
            record { postings = omega (arith, p_all, p_grows, p_few); positions = omega (arith, q_all, q_grows, q_few) }
