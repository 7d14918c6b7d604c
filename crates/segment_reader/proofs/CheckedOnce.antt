-- Terms that are checked one after another.
use Rattle.std.proofs.Common.{[], List, None, Option, Some, ap, arith, drop, get_or, length, length-drop, option_map, refl, subst, suc, sym, take, true, zero, ◌++◌, ◌+◌, ◌-◌, ◌<◌, ◌≡◌, ◌≤◌, ◌∙◌, ◌∷◌, ◌^◌, ℕ}
use Rattle.std.proofs.lemmas.List.{take_all, take_more}
use Rattle.std.proofs.lemmas.List.Sums.{sum_by-append, sum_by-take-le}
use Rattle.std.proofs.Math.Logic.{∥∥₁_elim}
use Rattle.std.proofs.Props.{props}
use Rattle.std.specs.List.{AllByRecursion}
use Rattle.std.specs.Prelude.{slice_range, sum_by}
use Rattle.segment_postings.proofs.OneTerm.{one_term}
use Rattle.segment_postings.specs.Placed.{term_of}
use Rattle.definitions.specs.NumberCodes.{AreBytes}
use Rattle.definitions.specs.Postings.{Posting}
use Rattle.definitions.specs.Schema.{IndexRecordOption}
use Rattle.layouts.specs.InvertedIndexes.{IndexedTerm, IsTerm, Sections}
use Rattle.segment_definitions.specs.Keys.{is_key}
use Rattle.segment_reader.proofs.HeadersTaken.{bytes_drop}
use Rattle.segment_reader.proofs.KeptFound.{shaped_many}
use Rattle.segment_reader.specs.CheckedTerms.{AreTermsAt, IsChecking, IsWithin, IsCheckedField, IsCheckedTerm, IsTermAt, term_with, tokens_of}
use Rattle.segment_reader.specs.FieldKinds.{option_in}
use Rattle.segment_reader.specs.Dictionaries.{Placed, Walked, advanced, onto}
use Rattle.segment_reader.specs.KeptTerms.{placed_terms}
use Rattle.segment_reader.specs.declared.field_index.FieldIndex.{FieldIndex}
use Rattle.segment_reader.specs.declared.field_kind.FieldKind.{FieldKind}
use Rattle.segment_reader.specs.declared.term_info.TermInfo.{TermInfo}
use Rattle.terms.proofs.TermParts.{taken_bytes as bytes_take}
use Rattle.terms.specs.Kinds.{kind_of}

-- a term whose bytes were checked
pub one_checked : (s : Sections) (t : Placed) (k : FieldKind) (option : IndexRecordOption) (n : ℕ) (ids : List ℕ) (ps : List Posting) (total : ℕ) → option ≡ option_in k t.0 → length ps ≡ t.1.doc_freq → IsTerm option n ids (term_of ps (slice_range s.postings t.1.postings_range.start t.1.postings_range.end) (slice_range s.positions t.1.positions_range.start t.1.positions_range.end)) → total ≡ sum_by (λ (x : Posting). x.count) ps → is_key (kind_of k.value_type) t.0 ≡ true → (x : IndexedTerm) × IsTermAt s t x × IsCheckedTerm k n ids x × (total ≡ sum_by (λ (y : Posting). y.count) x.postings)
one_checked s t k option n ids ps total same long is total_is keyed =
    let x = term_with s t ps in
    let there : IsTerm (option_in k x.key) n ids (term_of ps x.postings_bytes x.positions_bytes) = subst (λ o. IsTerm o n ids (term_of ps x.postings_bytes x.positions_bytes)) same is in (
      x,
      (refl, long),
      record { is_term = record { has_postings = there.has_postings; each_posting = there.each_posting; postings_are = there.postings_are; positions_are = there.positions_are }; keyed = keyed },
      total_is,
    )

pub none_checked : (s : Sections) (t : Placed) (k : FieldKind) (option : IndexRecordOption) (n : ℕ) (ids : List ℕ) → option ≡ option_in k t.0 → ((ps : List Posting) → length ps ≡ t.1.doc_freq → IsTerm option n ids (term_of ps (slice_range s.postings t.1.postings_range.start t.1.postings_range.end) (slice_range s.positions t.1.positions_range.start t.1.positions_range.end)) → ⊥) → (x : IndexedTerm) → IsTermAt s t x → IsCheckedTerm k n ids x → ⊥
none_checked s t k option n ids same none x there checked =
    let ps = slice_range s.postings t.1.postings_range.start t.1.postings_range.end in
    let qs = slice_range s.positions t.1.positions_range.start t.1.positions_range.end in
    let is : IsTerm (option_in k t.0) n ids (term_with s t x.postings) = subst (λ (z : IndexedTerm). IsTerm (option_in k z.key) n ids z) there.0 checked.is_term in
    let own : IsTerm (option_in k t.0) n ids (term_of x.postings ps qs) = record { has_postings = is.has_postings; each_posting = is.each_posting; postings_are = is.postings_are; positions_are = is.positions_are } in
    none x.postings there.1 (subst (λ o. IsTerm o n ids (term_of x.postings ps qs)) (sym same) own)

-- ---- one reading

take_within : (n : ℕ) (xs : List ℕ) → length (take n xs) ≤ length xs
take_within zero xs = omega arith
take_within (suc n) [] = omega arith
take_within (suc n) (x ∷ xs) = (let rest = take_within n xs in omega (arith, rest))

-- sections whose bytes and lengths are those of slices
pub record AreReal (s : Sections) : Type 0 where
  pub bytes : AreBytes s.postings
  pub postings_short : length s.postings < 2 ^ 63
  pub positions_short : length s.positions < 2 ^ 63

same_one : (s : Sections) (t : Placed) (k : FieldKind) (n : ℕ) (ids : List ℕ) (x y : IndexedTerm) → AreReal s → IsTermAt s t x → IsTermAt s t y → IsCheckedTerm k n ids x → IsCheckedTerm k n ids y → x ≡ y
same_one s t k n ids x y real a b is also =
    let p = t.1.postings_range in
    let q = t.1.positions_range in
    let ps = slice_range s.postings p.start p.end in
    let qs = slice_range s.positions q.start q.end in
    let is_2 : IsTerm (option_in k t.0) n ids (term_with s t x.postings) = subst (λ (z : IndexedTerm). IsTerm (option_in k z.key) n ids z) a.0 is.is_term in
    let also_2 : IsTerm (option_in k t.0) n ids (term_with s t y.postings) = subst (λ (z : IndexedTerm). IsTerm (option_in k z.key) n ids z) b.0 also.is_term in
    let first : IsTerm (option_in k t.0) n ids (term_of x.postings ps qs) = record { has_postings = is_2.has_postings; each_posting = is_2.each_posting; postings_are = is_2.postings_are; positions_are = is_2.positions_are } in
    let second : IsTerm (option_in k t.0) n ids (term_of y.postings ps qs) = record { has_postings = also_2.has_postings; each_posting = also_2.each_posting; postings_are = also_2.postings_are; positions_are = also_2.positions_are } in
    let short = real.postings_short in
    let short_2 = real.positions_short in
    let few : length ps < 2 ^ 64 = omega (arith, short, take_within (p.end - p.start) (drop p.start s.postings), length-drop p.start s.postings) in
    let few_2 : length qs < 2 ^ 64 = omega (arith, short_2, take_within (q.end - q.start) (drop q.start s.positions), length-drop q.start s.positions) in
    let same = one_term (option_in k t.0) n ids ps qs x.postings y.postings (bytes_take (p.end - p.start) (drop p.start s.postings) (bytes_drop p.start s.postings real.bytes)) few few_2 (a.1 ∙ sym b.1) first second in
    a.0 ∙ ap (term_with s t) same ∙ sym b.0

abbrev Are : (k : FieldKind) (n : ℕ) (ids : List ℕ) → List IndexedTerm → Type 0
Are k n ids xs = AllByRecursion (IsCheckedTerm k n ids) xs

same_first : (s : Sections) (k : FieldKind) (n : ℕ) (ids : List ℕ) (i : ℕ) (starts : List Placed) (xs ys : List IndexedTerm) → AreReal s → AreTermsAt s (take i starts) xs → Are k n ids xs → AreTermsAt s starts ys → Are k n ids ys → xs ≡ take i ys
same_first s k n ids zero starts [] ys real a b c d = refl
same_first s k n ids zero starts (x ∷ xs) ys real a b c d = absurd a
same_first s k n ids (suc i) [] [] [] real a b c d = refl
same_first s k n ids (suc i) [] (x ∷ xs) ys real a b c d = absurd a
same_first s k n ids (suc i) [] [] (y ∷ ys) real a b c d = absurd c
same_first s k n ids (suc i) (at ∷ starts) [] ys real a b c d = absurd a
same_first s k n ids (suc i) (at ∷ starts) (x ∷ xs) [] real a b c d = absurd c
same_first s k n ids (suc i) (at ∷ starts) (x ∷ xs) (y ∷ ys) real a b c d =
    let here = same_one s at k n ids x y real (a.0, a.1) (c.0, c.1) b.0 d.0 in
    ap (λ z. z ∷ xs) here ∙ ap (λ zs. y ∷ zs) (same_first s k n ids i starts xs ys real a.2 b.1 c.2 d.1)

there_at : (s : Sections) (k : FieldKind) (n : ℕ) (ids : List ℕ) (i : ℕ) (starts : List Placed) (ys : List IndexedTerm) (d : Placed) → AreTermsAt s starts ys → Are k n ids ys → i < length starts → (y : IndexedTerm) × IsTermAt s (get_or starts i d) y × IsCheckedTerm k n ids y
there_at s k n ids i [] ys d a b within = absurd (omega arith)
there_at s k n ids i (at ∷ starts) [] d a b within = absurd a
there_at s k n ids zero (at ∷ starts) (y ∷ ys) d a b within = (y, (a.0, a.1), b.0)
there_at s k n ids (suc i) (at ∷ starts) (y ∷ ys) d a b within = there_at s k n ids i starts ys d a.2 b.1 (omega arith)

as_many : (s : Sections) (starts : List Placed) (ys : List IndexedTerm) → AreTermsAt s starts ys → length ys ≡ length starts
as_many s [] [] a = refl
as_many s [] (y ∷ ys) a = absurd a
as_many s (at ∷ starts) [] a = absurd a
as_many s (at ∷ starts) (y ∷ ys) a = ap suc (as_many s starts ys a.2)

-- ---- one more

terms_pushed : (s : Sections) (starts : List Placed) (xs : List IndexedTerm) (at : Placed) (x : IndexedTerm) → AreTermsAt s starts xs → IsTermAt s at x → AreTermsAt s (starts ++ at ∷ []) (xs ++ x ∷ [])
terms_pushed s [] [] at x a is = (is.0, is.1, tt)
terms_pushed s [] (y ∷ xs) at x a is = absurd a
terms_pushed s (b ∷ starts) [] at x a is = absurd a
terms_pushed s (b ∷ starts) (y ∷ xs) at x a is = (a.0, a.1, terms_pushed s starts xs at x a.2 is)

are_pushed : (k : FieldKind) (n : ℕ) (ids : List ℕ) (xs : List IndexedTerm) (x : IndexedTerm) → Are k n ids xs → IsCheckedTerm k n ids x → Are k n ids (xs ++ x ∷ [])
are_pushed k n ids [] x all is = (is, tt)
are_pushed k n ids (y ∷ xs) x all is = (all.0, are_pushed k n ids xs x all.1 is)

-- `i` terms were checked, and have `total` tokens
pub record Checking (s : Sections) (k : FieldKind) (n : ℕ) (ids : List ℕ) (starts : List Placed) (i total : ℕ) : Type 0 where
  pub done : List IndexedTerm
  pub terms_are : AreTermsAt s (take i starts) done
  pub each : Are k n ids done
  pub total_is : total ≡ tokens_of done

pub nothing_checked : (s : Sections) (k : FieldKind) (n : ℕ) (ids : List ℕ) (starts : List Placed) → Checking s k n ids starts 0 0
nothing_checked s k n ids starts = record { done = []; terms_are = tt; each = tt; total_is = refl }

abbrev count_of : IndexedTerm → ℕ
count_of x = sum_by (λ (p : Posting). p.count) x.postings

-- a term that was checked
abbrev pub Checked : Sections → FieldKind → ℕ → List ℕ → Placed → ℕ → Type 0
Checked s k n ids at total = (x : IndexedTerm) × IsTermAt s at x × IsCheckedTerm k n ids x × (total ≡ sum_by (λ (p : Posting). p.count) x.postings)

pub one_more : (s : Sections) (k : FieldKind) (n : ℕ) (ids : List ℕ) (starts : List Placed) (i total more : ℕ) (d : Placed) → i < length starts → Checking s k n ids starts i total → Checked s k n ids (get_or starts i d) more → Checking s k n ids starts (i + 1) (total + more)
one_more s k n ids starts i total more d within checking next =
    let done = checking.done in
    let x = next.0 in
    record {
      done = done ++ x ∷ [];
      terms_are = subst (λ ss. AreTermsAt s ss (done ++ x ∷ [])) (sym (take_more starts i d within)) (terms_pushed s (take i starts) done (get_or starts i d) x checking.terms_are next.1);
      each = are_pushed k n ids done x checking.each next.2;
      total_is = (let sum = sum_by-append count_of done (x ∷ []) in let was = checking.total_is in let here = next.3 in omega (arith, sum, was, here));
    }

-- ---- refused

pub none_there : (s : Sections) (n : ℕ) (ids : List ℕ) (k : FieldKind) (starts : List Placed) (i : ℕ) (d : Placed) → i < length starts → ((x : IndexedTerm) → IsTermAt s (get_or starts i d) x → IsCheckedTerm k n ids x → ⊥) → (xs : List IndexedTerm) → AreTermsAt s starts xs → Are k n ids xs → ⊥
none_there s n ids k starts i d within none xs terms each =
    let here = there_at s k n ids i starts xs d terms each within in
    none here.0 here.1 here.2

pub too_many : (s : Sections) (n : ℕ) (ids : List ℕ) (index : FieldIndex) (i total : ℕ) → AreReal s → Checking s index.kind n ids (placed_terms s.terms index.shape) i total → index.num_tokens < total → (xs : List IndexedTerm) → IsCheckedField s n ids index xs → ⊥
too_many s n ids index i total real checking past xs whole =
    let same = same_first s index.kind n ids i (placed_terms s.terms index.shape) checking.done xs real checking.terms_are checking.each whole.terms_are whole.each_term in
    let within = sum_by-take-le count_of xs i in
    let was = checking.total_is ∙ ap tokens_of same in
    let all = whole.tokens_are in
    absurd (omega (arith, past, within, was, all))

pub other_sum : (s : Sections) (n : ℕ) (ids : List ℕ) (index : FieldIndex) (i total : ℕ) → AreReal s → length (placed_terms s.terms index.shape) ≤ i → Checking s index.kind n ids (placed_terms s.terms index.shape) i total → (total ≡ index.num_tokens → ⊥) → (xs : List IndexedTerm) → IsCheckedField s n ids index xs → ⊥
other_sum s n ids index i total real past checking other xs whole =
    let same = same_first s index.kind n ids i (placed_terms s.terms index.shape) checking.done xs real checking.terms_are checking.each whole.terms_are whole.each_term in
    let long = as_many s (placed_terms s.terms index.shape) xs whole.terms_are in
    let all : take i xs ≡ xs = take_all i xs (omega (arith, past, long)) in
    other (checking.total_is ∙ ap tokens_of (same ∙ all) ∙ whole.tokens_are)

pub all_checked : (s : Sections) (n : ℕ) (ids : List ℕ) (index : FieldIndex) (i total : ℕ) → length (placed_terms s.terms index.shape) ≤ i → Checking s index.kind n ids (placed_terms s.terms index.shape) i total → total ≡ index.num_tokens → (xs : List IndexedTerm) × IsCheckedField s n ids index xs
all_checked s n ids index i total past checking is = (
  checking.done,
  record {
    terms_are = subst (λ ss. AreTermsAt s ss checking.done) (take_all i (placed_terms s.terms index.shape) past) checking.terms_are;
    each_term = checking.each;
    tokens_are = sym checking.total_is ∙ is;
  },
)

pub within_at : (s : Sections) (P : Placed → Type 0) (starts : List Placed) (i : ℕ) (d : Placed) → AllByRecursion P starts → i < length starts → P (get_or starts i d)
within_at s P [] i d all within = absurd (omega arith)
within_at s P (at ∷ starts) zero d all within = all.0
within_at s P (at ∷ starts) (suc i) d all within = within_at s P starts i d all.1 (omega arith)

-- ---- a walk

here_at : (i : ℕ) (terms : List Placed) (d : Placed) → i < length terms → drop i terms ≡ get_or terms i d ∷ drop (i + 1) terms
here_at i [] d within = absurd (omega arith)
here_at zero (t ∷ ts) d within = refl
here_at (suc i) (t ∷ ts) d within = (let next : suc (i + 1) ≡ suc i + 1 = omega arith in here_at i ts d (omega arith) ∙ ap (λ k. get_or ts i d ∷ drop k (t ∷ ts)) next)

-- a walk that goes on behind `i` terms
pub walks_on : (i : ℕ) (terms : List Placed) (d : Placed) (was now : Walked) → i < length terms → was.rest ≡ drop i terms → now ≡ advanced was → (now.here ≡ Some (get_or terms i d)) × (now.rest ≡ drop (i + 1) terms)
walks_on i terms d was now within rest next =
    let first : was.rest ≡ get_or terms i d ∷ drop (i + 1) terms = rest ∙ here_at i terms d within in
    (ap (λ (w : Walked). w.here) next ∙ ap (λ us. (onto us).here) first, ap (λ (w : Walked). w.rest) next ∙ ap (λ us. (onto us).rest) first)

abbrev pub value_or : {X : Type 0} → X → Option X → X
value_or d None = d
value_or d (Some x) = x

-- its key and its offsets are those of the term
pub stands_on : (t : Placed) (here : Option Placed) (key : List ℕ) (info : TermInfo) → here ≡ Some t → option_map (λ (u : Placed). u.0) here ≡ Some key → option_map (λ (u : Placed). u.1) here ≡ Some info → t ≡ (key, info)
stands_on t here key info is key_is info_is =
    let own_key : t.0 ≡ key = ap (value_or key) (sym (ap (option_map (λ (u : Placed). u.0)) is) ∙ key_is) in
    let own_info : t.1 ≡ info = ap (value_or info) (sym (ap (option_map (λ (u : Placed). u.1)) is) ∙ info_is) in
    ap (λ k. (k, t.1)) own_key ∙ ap (λ i. (key, i)) own_info

-- an offset where no term is told
pub no_term : Placed
no_term = ([], record { doc_freq = 0; postings_range = record { start = 0; end = 0 }; positions_range = record { start = 0; end = 0 } })

-- what is known where a check begins
pub as_many_told : (s : Sections) (i : FieldIndex) → length s.terms < 2 ^ 63 → ∥ IsChecking s i ∥₁ → i.shape.num_terms ≡ length (placed_terms s.terms i.shape)
as_many_told s i short known = ∥∥₁_elim known (Prim.hlevel props) (λ checking. shaped_many s.terms i.shape short checking.shaped)

pub within_at_told : (s : Sections) (i : FieldIndex) (n : ℕ) (d : Placed) → n < length (placed_terms s.terms i.shape) → ∥ IsChecking s i ∥₁ → IsWithin s (get_or (placed_terms s.terms i.shape) n d)
within_at_told s i n d within known = ∥∥₁_elim known (Prim.hlevel props) (λ checking. within_at s (IsWithin s) (placed_terms s.terms i.shape) n d checking.within within)
