-- Terms of a section, read one after another.
use Rattle.std.proofs.Common.{[], List, Some, ap, ap₂, append_assoc, arith, drop, length, length-append, length-drop, max, refl, subst, suc, sym, take, true, zero, ◌&&◌, ◌++◌, ◌+◌, ◌<◌, ◌≡◌, ◌≤◌, ◌∙◌, ◌∷◌, ◌^◌, ℕ}
use Rattle.std.proofs.lemmas.Bool.{and_parts}
use Rattle.std.proofs.lemmas.Bool.Decides.{nat_tests}
use Rattle.std.proofs.lemmas.List.{length-take-le, take-append-drop}
use Rattle.std.specs.List.{AllByRecursion}
use Rattle.std.specs.Prelude.{nat_le}
use Rattle.definitions.proofs.Lists.{all_drop}
use Rattle.definitions.specs.NumberCodes.{AreBytes}
use Rattle.front_coding.proofs.BlockFound.{first_terms, postings_parts, positions_parts}
use Rattle.front_coding.proofs.BlockLoop.{positions_grow, postings_grow}
use Rattle.front_coding.proofs.TermsLoop as coded
use Rattle.front_coding.proofs.TermsTaken.{first_short, follow_all, term_back, term_put, terms_once}
use Rattle.front_coding.specs.BlockPlaces.{begun, behind, positions_end, postings_end}
use Rattle.front_coding.specs.TakenKeys as taken
use Rattle.front_coding.specs.TakenKeys.{LengthsFit, last_key, take_term}
use Rattle.front_coding.specs.Walks.{keys_fit}
use Rattle.front_coding.specs.declared.term_starts.TermStart.{TermStart}
use Rattle.layouts.specs.TermSections.{TermLengths, Told, before_in_block, coded_entry, coded_from}
use Rattle.segment_reader.proofs.PlacedTerms.{ascend_all}
use Rattle.segment_reader.proofs.TermBytes.{same_start}
use Rattle.segment_reader.specs.TermPlaces.{AreRead, AreTerms, EndsWithin, TermFits, end_of, starts_of}

-- ---- numbers of 64 bits

pub lengths_fit : (ts : List Told) → AllByRecursion (λ (t : Told). TermFits t.1) ts → AllByRecursion (λ (t : Told). LengthsFit t.1) ts
lengths_fit [] fit = tt
lengths_fit (t ∷ ts) fit = (record { docs = (let few = fit.0.doc_freq_fits in omega (arith, few)); postings = fit.0.postings_fit; positions = fit.0.positions_fit }, lengths_fit ts fit.1)

-- terms as they stand, without their ranges
pub coded_of : (size : ℕ) (section : List ℕ) (at : TermStart) (p q : ℕ) (ts : List Told) (rest : List ℕ) → AreTerms size section at p q ts rest → taken.AreTerms size 0 [] (drop at.entry section) ts rest
coded_of size section at p q ts rest terms = record { spelled = terms.spelled; follow = follow_all size ts terms.ascend; fit = lengths_fit ts terms.fit }

-- ---- lists

pub keys_pushed : (longest : ℕ) (ts : List Told) (t : Told) → keys_fit longest ts ≡ true → length t.0 ≤ longest → keys_fit longest (ts ++ t ∷ []) ≡ true
keys_pushed longest [] t fit within = (let this : nat_le (length t.0) longest ≡ true = grind (arith, nat_tests, within) in ap (λ b. b && true) this)
keys_pushed longest (s ∷ ts) t fit within =
    let both = and_parts (nat_le (length s.0) longest) (keys_fit longest ts) fit in
    ap (λ b. b && keys_fit longest (ts ++ t ∷ [])) both.0 ∙ keys_pushed longest ts t both.1 within

pub keys_grow : (a b : ℕ) (ts : List Told) → a ≤ b → keys_fit a ts ≡ true → keys_fit b ts ≡ true
keys_grow a b [] order fit = refl
keys_grow a b (t ∷ ts) order fit =
    let both = and_parts (nat_le (length t.0) a) (keys_fit a ts) fit in
    let first = both.0 in
    let this : nat_le (length t.0) b ≡ true = grind (arith, nat_tests, first, order) in
    ap (λ x. x && keys_fit b ts) this ∙ keys_grow a b ts order both.1

fit_pushed : (ts : List Told) (t : Told) → AllByRecursion (λ (x : Told). TermFits x.1) ts → TermFits t.1 → AllByRecursion (λ (x : Told). TermFits x.1) (ts ++ t ∷ [])
fit_pushed [] t all fits = (fits, tt)
fit_pushed (s ∷ ts) t all fits = (all.0, fit_pushed ts t all.1 fits)

drop_here : (i : ℕ) (ts : List Told) → i < length ts → (t : Told) × (drop i ts ≡ t ∷ drop (i + 1) ts)
drop_here i [] within = absurd (omega arith)
drop_here zero (t ∷ ts) within = (t, refl)
drop_here (suc i) (t ∷ ts) within =
    let here = drop_here i ts (omega arith) in
    let next : suc (i + 1) ≡ suc i + 1 = omega arith in
    (here.0, here.1 ∙ ap (λ k. here.0 ∷ drop k (t ∷ ts)) next)

-- ---- one more

-- `i` terms were read: where their blocks begin, where the next begins, and how long the longest key is
pub record Reading (size : ℕ) (section : List ℕ) (at : TermStart) (p q n i : ℕ) (key : List ℕ) (starts : List TermStart) (end : TermStart) (longest : ℕ) : Type 0 where
  pub reading : coded.Reading size (drop at.entry section) n i key (drop end.entry section)
  pub starts_are : starts ≡ starts_of size at reading.done
  pub end_is : end ≡ coded.start_behind size 0 [] at reading.done
  pub within : end.entry ≤ length section
  pub postings : end.postings ≤ p
  pub positions : end.positions ≤ q
  pub fit : AllByRecursion (λ (t : Told). TermFits t.1) reading.done
  pub longest_is : keys_fit longest reading.done ≡ true

pub nothing_read : (size : ℕ) (section : List ℕ) (at : TermStart) (p q n : ℕ) → AreBytes (drop at.entry section) → at.entry ≤ length section → at.postings ≤ p → at.positions ≤ q → Reading size section at p q n 0 [] [] at 0
nothing_read size section at p q n bytes within first second = record {
  reading = coded.nothing_read size (drop at.entry section) n bytes;
  starts_are = refl;
  end_is = refl;
  within = within;
  postings = first;
  positions = second;
  fit = tt;
  longest_is = refl;
}

module _ (size : ℕ) (section : List ℕ) (at : TermStart) (p q n i : ℕ) (key : List ℕ) (starts : List TermStart) (end : TermStart) (longest : ℕ) (short : length section < 2 ^ 63) (more : i < n) (r : Reading size section at p q n i key starts end longest) where
  few : length (drop at.entry section) < 2 ^ 63
  few = (let l = length-drop at.entry section in omega (arith, short, l))

  pub one_more : (new_key : List ℕ) (l : TermLengths) (new_starts : List TermStart) (next : TermStart) (new_longest : ℕ) → take_term size i key (drop end.entry section) ≡ Some ((new_key, l), drop next.entry section) → next.entry ≤ length section → EndsWithin end l p q next → new_starts ≡ starts ++ begun size i end → new_longest ≡ max (length new_key) longest → Reading size section at p q n (i + 1) new_key new_starts next new_longest
  one_more new_key l new_starts next new_longest is within ends new_is long_is =
      let e : Told = (new_key, l) in
      let done = r.reading.done in
      let count = r.reading.count in
      let put = term_put size i key (drop end.entry section) e (drop next.entry section) r.reading.digits is in
      let entry = coded_entry (before_in_block size i key) e in
      let number : 0 + length done ≡ i = omega (arith, count) in
      let same_entry : coded_entry (before_in_block size (0 + length done) (last_key [] done)) e ≡ entry = ap₂ (λ m k. coded_entry (before_in_block size m k) e) number (sym r.reading.key_is) in
      let entry_len = ap length same_entry in
      let whole = ap length put.spelled in
      let parts = length-append entry (drop next.entry section) in
      let a = length-drop end.entry section in
      let b = length-drop next.entry section in
      let was = r.within in
      let ended = r.end_is in
      let at_entry : next.entry ≡ end.entry + length entry = omega (arith, whole, parts, a, b, was, within) in
      let end_entry = ap (λ (s : TermStart). s.entry) ended in
      let end_postings = ap (λ (s : TermStart). s.postings) ended in
      let end_positions = ap (λ (s : TermStart). s.positions) ended in
      let p_is = ends.postings_are in
      let q_is = ends.positions_are in
      let last = behind (before_in_block size (0 + length done) (last_key [] done)) (coded.start_behind size 0 [] at done) e in
      record {
        reading = coded.one_more size (drop at.entry section) n i key (drop end.entry section) e (drop next.entry section) few more r.reading is;
        starts_are = new_is ∙ ap₂ (λ xs ys. xs ++ ys) r.starts_are (ap₂ (begun size) (sym number) ended) ∙ sym (coded.starts_pushed size 0 [] at done e);
        end_is = same_start next last (omega (arith, at_entry, end_entry, entry_len)) (omega (arith, p_is, end_postings)) (omega (arith, q_is, end_positions)) ∙ sym (coded.start_pushed size 0 [] at done e);
        within = within;
        postings = ends.postings_end;
        positions = ends.positions_end;
        fit = fit_pushed done e r.fit ends.fits;
        longest_is = keys_pushed new_longest done e (keys_grow longest new_longest done (omega (arith, long_is)) r.longest_is) (omega (arith, long_is));
      }

  -- where the next term isn't taken, fewer terms stand there
  pub no_more : ((t : Told) (rest : List ℕ) → take_term size i key (drop end.entry section) ≡ Some (t, rest) → TermFits t.1 → end.postings + t.1.postings_len ≤ p → end.positions + t.1.positions_len ≤ q → ⊥) → (ts : List Told) (rest : List ℕ) → length ts ≡ n → AreTerms size section at p q ts rest → ⊥
  no_more none ts rest long terms =
      let all = coded_of size section at p q ts rest terms in
      let done = r.reading.done in
      let count = r.reading.count in
      let part = first_terms size 0 [] (drop at.entry section) ts rest i all in
      let little = few in
      let many : length done ≡ length (take i ts) = (let l = length-take-le i ts (omega (arith, more, long)) in omega (arith, count, l)) in
      let same : done ≡ take i ts = (terms_once size 0 [] (drop at.entry section) done (take i ts) (drop end.entry section) part.0 many (omega (arith, little)) r.reading.read part.1).0 in
      let here = drop_here i ts (omega (arith, more, long)) in
      let t = here.0 in
      let later = drop (i + 1) ts in
      let left : taken.AreTerms size i key (drop end.entry section) (t ∷ later) rest = subst (λ us. taken.AreTerms size i key (drop end.entry section) us rest) here.1 (r.reading.complete ts rest long all) in
      let entry = coded_entry (before_in_block size i key) t in
      let tail = coded_from size (i + 1) t.0 later ++ rest in
      let one : drop end.entry section ≡ entry ++ tail = left.spelled ∙ append_assoc entry (coded_from size (i + 1) t.0 later) rest in
      let small = first_short size i key t tail in
      let e = ap length one in
      let bytes = r.reading.short in
      let back : take_term size i key (drop end.entry section) ≡ Some (t, tail) = ap (take_term size i key) one ∙ term_back size i key t tail left.follow.0 left.fit.0 (omega (arith, bytes, little)) (omega (arith, bytes, little, small, e)) in
      let fits : AllByRecursion (λ (x : Told). TermFits x.1) (t ∷ later) = subst (AllByRecursion (λ (x : Told). TermFits x.1)) here.1 (all_drop (λ (x : Told). TermFits x.1) i ts terms.fit) in
      let parts : ts ≡ done ++ (t ∷ later) = sym (take-append-drop i ts) ∙ ap₂ (λ xs ys. xs ++ ys) (sym same) here.1 in
      let ended = r.end_is in
      let p_here : end.postings ≡ postings_end at.postings done = ap (λ (s : TermStart). s.postings) ended ∙ coded.postings_behind size 0 [] at done in
      let q_here : end.positions ≡ positions_end at.positions done = ap (λ (s : TermStart). s.positions) ended ∙ coded.positions_behind size 0 [] at done in
      let p_all = ap (postings_end at.postings) parts ∙ postings_parts at.postings done (t ∷ later) ∙ ap (λ x. postings_end x (t ∷ later)) (sym p_here) in
      let q_all = ap (positions_end at.positions) parts ∙ positions_parts at.positions done (t ∷ later) ∙ ap (λ x. positions_end x (t ∷ later)) (sym q_here) in
      let p_grows = postings_grow (end.postings + t.1.postings_len) later in
      let q_grows = positions_grow (end.positions + t.1.positions_len) later in
      let p_end = terms.postings_end in
      let q_end = terms.positions_end in
      none t tail back fits.0 (omega (arith, p_all, p_grows, p_end)) (omega (arith, q_all, q_grows, q_end))

-- all were read
pub all_read : (size : ℕ) (section : List ℕ) (at : TermStart) (p q n i : ℕ) (key : List ℕ) (starts : List TermStart) (end : TermStart) (longest : ℕ) → n ≤ i → i ≤ n → (r : Reading size section at p q n i key starts end longest) → (length r.reading.done ≡ n) × AreRead size section at p q r.reading.done end
all_read size section at p q n i key starts end longest past within r =
    let done = r.reading.done in
    let count = r.reading.count in
    let ended = r.end_is in
    let p_here : end.postings ≡ postings_end at.postings done = ap (λ (s : TermStart). s.postings) ended ∙ coded.postings_behind size 0 [] at done in
    let q_here : end.positions ≡ positions_end at.positions done = ap (λ (s : TermStart). s.positions) ended ∙ coded.positions_behind size 0 [] at done in
    let entry : end.entry ≡ at.entry + length (coded_from size 0 [] done) = ap (λ (s : TermStart). s.entry) ended ∙ coded.entry_behind size 0 [] at done in
    let p_end = r.postings in
    let q_end = r.positions in (
      omega (arith, count, past, within),
      record {
        terms = record { spelled = r.reading.read.spelled; ascend = ascend_all done r.reading.read.follow; fit = r.fit; postings_end = omega (arith, p_here, p_end); positions_end = omega (arith, q_here, q_end) };
        end_is = same_start end (end_of size at done) entry p_here q_here;
        within = r.within;
      },
    )
