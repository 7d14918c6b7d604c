-- Terms one after another, as they are read and as they are written.
use Rattle.std.proofs.Common.{[], List, None, Option, Some, ap, ap₂, append-nil, append_assoc, arith, drop, length, length-append, refl, subst, suc, sym, true, zero, ◌++◌, ◌+◌, ◌<◌, ◌≡◌, ◌≤◌, ◌∙◌, ◌∷◌, ◌^◌, ℕ}
use Rattle.std.specs.List.{AllByRecursion}
use Rattle.common.proofs.WordBytes.{back_bytes as bytes_behind}
use Rattle.definitions.specs.NumberCodes.{AreBytes}
use Rattle.front_coding.specs.BlockPlaces.{begun, behind, positions_end, postings_end, starts_from}
use Rattle.front_coding.specs.declared.term_starts.TermStart.{TermStart}
use Rattle.front_coding.proofs.TermsTaken.{IsTaken, first_short, same_first, term_back, term_put}
use Rattle.layouts.specs.TermSections.{Told, before_in_block, coded_entry, coded_from}
use Rattle.front_coding.specs.TakenKeys.{AreTerms, Follow, LengthsFit, last_key, may_follow, take_term}

module _ (size : ℕ) where
  -- ---- one more behind others

  pub last_pushed : (before : List ℕ) (ts : List Told) (t : Told) → last_key before (ts ++ t ∷ []) ≡ t.0
  last_pushed before [] t = refl
  last_pushed before (s ∷ ts) t = last_pushed s.0 ts t

  pub coded_pushed : (number : ℕ) (before : List ℕ) (ts : List Told) (t : Told) → coded_from size number before (ts ++ t ∷ []) ≡ coded_from size number before ts ++ coded_entry (before_in_block size (number + length ts) (last_key before ts)) t
  coded_pushed number before [] t = append-nil (coded_entry (before_in_block size number before) t) ∙ ap (λ n. coded_entry (before_in_block size n before) t) (let same : number ≡ number + 0 = omega arith in same)
  coded_pushed number before (s ∷ ts) t =
      let entry = coded_entry (before_in_block size number before) s in
      let there : number + 1 + length ts ≡ number + length (s ∷ ts) = omega arith in
      ap (λ xs. entry ++ xs) (coded_pushed (number + 1) s.0 ts t ∙ ap (λ n. coded_from size (number + 1) s.0 ts ++ coded_entry (before_in_block size n (last_key s.0 ts)) t) there)
      ∙ sym (append_assoc entry (coded_from size (number + 1) s.0 ts) (coded_entry (before_in_block size (number + length (s ∷ ts)) (last_key s.0 ts)) t))

  pub follow_pushed : (number : ℕ) (before : List ℕ) (ts : List Told) (t : Told) → Follow number before ts → may_follow (number + length ts) (last_key before ts) t.0 ≡ true → Follow number before (ts ++ t ∷ [])
  follow_pushed number before [] t all follows = (ap (λ n. may_follow n before t.0) (let same : number ≡ number + 0 = omega arith in same) ∙ follows, tt)
  follow_pushed number before (s ∷ ts) t all follows = (all.0, follow_pushed (number + 1) s.0 ts t all.1 (ap (λ n. may_follow n (last_key s.0 ts) t.0) (let there : number + 1 + length ts ≡ number + length (s ∷ ts) = omega arith in there) ∙ follows))

  pub fit_pushed : (ts : List Told) (t : Told) → AllByRecursion (λ (x : Told). LengthsFit x.1) ts → LengthsFit t.1 → AllByRecursion (λ (x : Told). LengthsFit x.1) (ts ++ t ∷ [])
  fit_pushed [] t all fits = (fits, tt)
  fit_pushed (s ∷ ts) t all fits = (all.0, fit_pushed ts t all.1 fits)

  -- where the term behind others begins
  abbrev pub start_behind : ℕ → List ℕ → TermStart → List Told → TermStart
  start_behind number before at [] = at
  start_behind number before at (t ∷ ts) = start_behind (number + 1) t.0 (behind (before_in_block size number before) at t) ts

  pub start_pushed : (number : ℕ) (before : List ℕ) (at : TermStart) (ts : List Told) (t : Told) → start_behind number before at (ts ++ t ∷ []) ≡ behind (before_in_block size (number + length ts) (last_key before ts)) (start_behind number before at ts) t
  start_pushed number before at [] t = ap (λ n. behind (before_in_block size n before) at t) (let same : number ≡ number + 0 = omega arith in same)
  start_pushed number before at (s ∷ ts) t = start_pushed (number + 1) s.0 (behind (before_in_block size number before) at s) ts t ∙ ap (λ n. behind (before_in_block size n (last_key s.0 ts)) (start_behind (number + 1) s.0 (behind (before_in_block size number before) at s) ts) t) (let there : number + 1 + length ts ≡ number + length (s ∷ ts) = omega arith in there)

  pub starts_pushed : (number : ℕ) (before : List ℕ) (at : TermStart) (ts : List Told) (t : Told) → starts_from size number before at (ts ++ t ∷ []) ≡ starts_from size number before at ts ++ begun size (number + length ts) (start_behind number before at ts)
  starts_pushed number before at [] t = append-nil (begun size number at) ∙ ap (λ n. begun size n at) (let same : number ≡ number + 0 = omega arith in same)
  starts_pushed number before at (s ∷ ts) t =
      let next = behind (before_in_block size number before) at s in
      let there : number + 1 + length ts ≡ number + length (s ∷ ts) = omega arith in
      ap (λ xs. begun size number at ++ xs) (starts_pushed (number + 1) s.0 next ts t ∙ ap (λ n. starts_from size (number + 1) s.0 next ts ++ begun size n (start_behind (number + 1) s.0 next ts)) there)
      ∙ sym (append_assoc (begun size number at) (starts_from size (number + 1) s.0 next ts) (begun size (number + length (s ∷ ts)) (start_behind (number + 1) s.0 next ts)))

  -- the parts of such a start
  pub entry_behind : (number : ℕ) (before : List ℕ) (at : TermStart) (ts : List Told) → (start_behind number before at ts).entry ≡ at.entry + length (coded_from size number before ts)
  entry_behind number before at [] = omega arith
  entry_behind number before at (t ∷ ts) = (let later = entry_behind (number + 1) t.0 (behind (before_in_block size number before) at t) ts in let l = length-append (coded_entry (before_in_block size number before) t) (coded_from size (number + 1) t.0 ts) in omega (arith, later, l))

  pub postings_behind : (number : ℕ) (before : List ℕ) (at : TermStart) (ts : List Told) → (start_behind number before at ts).postings ≡ postings_end at.postings ts
  postings_behind number before at [] = refl
  postings_behind number before at (t ∷ ts) = postings_behind (number + 1) t.0 (behind (before_in_block size number before) at t) ts

  pub positions_behind : (number : ℕ) (before : List ℕ) (at : TermStart) (ts : List Told) → (start_behind number before at ts).positions ≡ positions_end at.positions ts
  positions_behind number before at [] = refl
  positions_behind number before at (t ∷ ts) = positions_behind (number + 1) t.0 (behind (before_in_block size number before) at t) ts

  -- ---- reading

  pub bytes_after : (xs ys bs : List ℕ) → bs ≡ xs ++ ys → AreBytes bs → AreBytes ys
  bytes_after xs ys bs is bytes = bytes_behind xs ys (subst AreBytes is bytes)

  -- `i` were read, with this key the last, and what is left are the others
  pub record Reading (bytes : List ℕ) (n i : ℕ) (key rest : List ℕ) : Type 0 where
    pub done : List Told
    pub count : length done ≡ i
    pub read : AreTerms size 0 [] bytes done rest
    pub key_is : key ≡ last_key [] done
    pub short : length key + length rest ≤ length bytes
    pub digits : AreBytes rest
    pub complete : (ts : List Told) (end : List ℕ) → length ts ≡ n → AreTerms size 0 [] bytes ts end → AreTerms size i key rest (drop i ts) end

  abbrev pub nothing_read : (bytes : List ℕ) (n : ℕ) → AreBytes bytes → Reading bytes n 0 [] bytes
  nothing_read bytes n digits = record {
    done = [];
    count = refl;
    read = record { spelled = refl; follow = tt; fit = tt };
    key_is = refl;
    short = omega arith;
    digits = digits;
    complete = λ ts end long terms. terms;
  }

  pub drop_here : (i : ℕ) (ts : List Told) → i < length ts → (t : Told) × (drop i ts ≡ t ∷ drop (i + 1) ts)
  drop_here i [] within = absurd (omega arith)
  drop_here zero (t ∷ ts) within = (t, refl)
  drop_here (suc i) (t ∷ ts) within =
      let here = drop_here i ts (omega arith) in
      let next : suc (i + 1) ≡ suc i + 1 = omega arith in
      (here.0, here.1 ∙ ap (λ k. here.0 ∷ drop k (t ∷ ts)) next)

  -- the terms behind one that was taken
  pub behind_taken : (i : ℕ) (key rest : List ℕ) (t e : Told) (ts : List Told) (after end : List ℕ) → length key + length rest < 2 ^ 64 → AreTerms size i key rest (t ∷ ts) end → IsTaken size i key rest e after → AreTerms size (i + 1) e.0 after ts end
  behind_taken i key rest t e ts after end short terms taken =
      let entry = coded_entry (before_in_block size i key) t in
      let one : rest ≡ entry ++ (coded_from size (i + 1) t.0 ts ++ end) = terms.spelled ∙ append_assoc entry (coded_from size (i + 1) t.0 ts) end in
      let same = same_first size i key rest t e (coded_from size (i + 1) t.0 ts ++ end) after short terms.follow.0 taken.follows terms.fit.0 taken.fits one taken.spelled in
      let name : t.0 ≡ e.0 = ap (λ (x : Told). x.0) same.0 in
      record {
        spelled = sym same.1 ∙ ap (λ k. coded_from size (i + 1) k ts ++ end) name;
        follow = subst (λ k. Follow (i + 1) k ts) name terms.follow.1;
        fit = terms.fit.1;
      }

  abbrev pub one_more : (bytes : List ℕ) (n i : ℕ) (key rest : List ℕ) (e : Told) (after : List ℕ) → length bytes < 2 ^ 63 → i < n → Reading bytes n i key rest → take_term size i key rest ≡ Some (e, after) → Reading bytes n (i + 1) e.0 after
  one_more bytes n i key rest e after short within reading taken_is =
      let done = reading.done in
      let count = reading.count in
      let few = reading.short in
      let taken = term_put size i key rest e after reading.digits taken_is in
      let little = taken.short in
      let number : 0 + length done ≡ i = omega (arith, count) in
      let entry = coded_entry (before_in_block size i key) e in
      let same_entry : coded_entry (before_in_block size (0 + length done) (last_key [] done)) e ≡ entry = ap₂ (λ m k. coded_entry (before_in_block size m k) e) number (sym reading.key_is) in
      let all : coded_from size 0 [] (done ++ e ∷ []) ≡ coded_from size 0 [] done ++ entry = coded_pushed 0 [] done e ∙ ap (λ xs. coded_from size 0 [] done ++ xs) same_entry in
      record {
        done = done ++ e ∷ [];
        count = (let long = length-append done (e ∷ []) in omega (arith, long, count));
        read = record {
          spelled = reading.read.spelled ∙ ap (λ xs. coded_from size 0 [] done ++ xs) taken.spelled ∙ sym (append_assoc (coded_from size 0 [] done) entry after) ∙ ap (λ xs. xs ++ after) (sym all);
          follow = follow_pushed 0 [] done e reading.read.follow (ap₂ (λ m k. may_follow m k e.0) number (sym reading.key_is) ∙ taken.follows);
          fit = fit_pushed done e reading.read.fit taken.fits;
        };
        key_is = sym (last_pushed [] done e);
        short = omega (arith, few, little);
        digits = bytes_after entry after rest taken.spelled reading.digits;
        complete = λ ts end long terms.
            let left = reading.complete ts end long terms in
            let here = drop_here i ts (omega (arith, within, long)) in
            behind_taken i key rest here.0 e (drop (i + 1) ts) after end (omega (arith, few, short)) (subst (λ us. AreTerms size i key rest us end) here.1 left) taken;
      }

  pub no_more : (bytes : List ℕ) (n i : ℕ) (key rest : List ℕ) → length bytes < 2 ^ 63 → i < n → Reading bytes n i key rest → take_term size i key rest ≡ None → (ts : List Told) (end : List ℕ) → length ts ≡ n → AreTerms size 0 [] bytes ts end → ⊥
  no_more bytes n i key rest short within reading none ts end long terms =
      let left = reading.complete ts end long terms in
      let few = reading.short in
      let here = drop_here i ts (omega (arith, within, long)) in
      let t = here.0 in
      let there : AreTerms size i key rest (t ∷ drop (i + 1) ts) end = subst (λ us. AreTerms size i key rest us end) here.1 left in
      let entry = coded_entry (before_in_block size i key) t in
      let one : rest ≡ entry ++ (coded_from size (i + 1) t.0 (drop (i + 1) ts) ++ end) = there.spelled ∙ append_assoc entry (coded_from size (i + 1) t.0 (drop (i + 1) ts)) end in
      let small = first_short size i key t (coded_from size (i + 1) t.0 (drop (i + 1) ts) ++ end) in
      let e = ap length one in
      let back : take_term size i key rest ≡ Some (t, coded_from size (i + 1) t.0 (drop (i + 1) ts) ++ end) = ap (take_term size i key) one ∙ term_back size i key t (coded_from size (i + 1) t.0 (drop (i + 1) ts) ++ end) there.follow.0 there.fit.0 (omega (arith, few, short)) (omega (arith, few, short, small, e)) in
      let apart : ◌≡◌ {A = Option (Told × List ℕ)} None (Some (t, coded_from size (i + 1) t.0 (drop (i + 1) ts) ++ end)) = sym none ∙ back in
      absurd cc
