-- Terms of a merge that are written one after another.
use Rattle.std.proofs.Common.{[], IsSomeAnd, List, None, Some, ap, append-nil, ap₂, append_assoc, arith, drop, flat_map, inl, inr, length, length-append, map, refl, slice_get, subst, sym, ◌++◌, ◌+◌, ◌<◌, ◌^◌, ◌≡◌, ◌∙◌, ◌∷◌, ℕ}
use Rattle.std.proofs.lemmas.List.{length-map, map-append}
use Rattle.std.proofs.lemmas.List.Sums.{sum_by-append, sum_by-cons, sum_by_push}
use Rattle.definitions.specs.Postings.{Posting}
use Rattle.definitions.specs.Schema.{IndexRecordOption, Kind}
use Rattle.definitions.specs.declared.fault.Fault.{Fault}
use Rattle.layouts.specs.InvertedIndexes.{IndexedTerm}
use Rattle.layouts.specs.TermPostings.{postings_bytes}
use Rattle.merging.specs.MergedTerm.{IsMergedTerm, IsPassed, IsTermRefusal}
use Rattle.merging.specs.MergedTerms.{AreAdded, IsTermsRefusal, Told, tokens_in, tokens_of, with_term}
use Rattle.codes.specs.UnpackedBlocks.{listed}
use Rattle.definitions.proofs.Lists.{all_push}
use Rattle.postings_writer.specs.FieldWriting.{FieldWriting, Terms, inserted, with_terms}
use Rattle.postings_writer.specs.TermWriting.{recorded_count}
use Rattle.postings_writer.proofs.WrittenFields.{flat_map_push, one_term_more, told_of}
use Rattle.postings_writer.specs.Limits.{TermPasses}
use Rattle.postings_writer.specs.Sections.{IsSpelled, option_in}
use Rattle.postings_writer.specs.Serializing.{IsWrittenTerm}

-- a term that was written
abbrev term_of : List ℕ → List Posting → IndexRecordOption → List ℕ → List ℕ → IndexedTerm
term_of key ps option ids positions = record { key = key; postings = ps; postings_bytes = postings_bytes option ids (map (λ (p : Posting). p.doc) ps) (map (λ (p : Posting). recorded_count option p.count) ps); positions_bytes = positions }

pub none_added : (kind : Kind) (was : FieldWriting) → was.positions.1 ≡ [] → AreAdded kind was was [] []
none_added kind was nothing = record {
  told_are = refl;
  each_spelled = tt;
  terms = ap₂ (λ es n. record { closed = was.terms.closed; entries = es; num_terms = n; last = was.terms.last }) (sym (append-nil was.terms.entries)) (let P : was.terms.num_terms ≡ was.terms.num_terms + 0 = omega arith in P);
  postings = sym (append-nil was.postings);
  positions = ap₂ (λ xs ys. (xs, ys)) (sym (append-nil was.positions.0)) nothing;
  terms_fit = λ some. absurd (omega arith);
  tokens = omega arith;
  tokens_fit = λ fit. fit;
  same = (refl, refl, refl);
}

-- one term more
module _ (kind : Kind) (was now new : FieldWriting) (told : Told) (ts : List IndexedTerm) (key : List ℕ) (ps : List Posting) (before : AreAdded kind was now told ts) (w : IsWrittenTerm now new key (option_in kind was.writing.mode key) ps) where
  abbrev option : IndexRecordOption
  option = option_in kind was.writing.mode key

  abbrev t : IndexedTerm
  t = term_of key ps option (listed was.writing.norms) w.bytes

  bytes_are : postings_bytes option (listed now.writing.norms) (map (λ (p : Posting). p.doc) ps) (map (λ (p : Posting). recorded_count option p.count) ps) ≡ t.postings_bytes
  bytes_are = ap (λ o. postings_bytes option (listed o) (map (λ (p : Posting). p.doc) ps) (map (λ (p : Posting). recorded_count option p.count) ps)) before.same.2

  spelled : IsSpelled option (listed was.writing.norms) t
  spelled = record { postings_are = record { posted = w.posted; bytes_are = refl }; positions_are = w.positions_are; within = record { sums = w.sums_fit; postings = subst (λ (xs : List ℕ). length xs < 2 ^ 32) bytes_are w.postings_fit; positions = w.positions_fit } }

  abbrev entered : ℕ → List ℕ → Terms → Terms
  entered freq bytes terms = inserted key (record { doc_freq = freq; postings_len = length bytes; positions_len = length w.bytes }) terms

  terms_are : new.terms ≡ with_terms (ts ++ t ∷ []) was.terms
  terms_are = w.terms ∙ ap₂ (λ n xs. entered n xs now.terms) (length-map ps (λ (p : Posting). p.doc)) bytes_are ∙ ap (entered (length ps) t.postings_bytes) before.terms ∙ one_term_more was.terms ts t

  pub added_more : AreAdded kind was new (told ++ (key, ps) ∷ []) (ts ++ t ∷ [])
  added_more = record {
    told_are = map-append told_of ts (t ∷ []) ∙ ap (λ xs. xs ++ (key, ps) ∷ []) before.told_are;
    each_spelled = all_push (λ (x : IndexedTerm). IsSpelled (option_in kind was.writing.mode x.key) (listed was.writing.norms) x) ts t before.each_spelled spelled;
    terms = terms_are;
    postings = w.postings ∙ ap₂ (λ xs ys. xs ++ ys) before.postings bytes_are ∙ append_assoc was.postings (flat_map (λ (x : IndexedTerm). x.postings_bytes) ts) t.postings_bytes ∙ ap (λ xs. was.postings ++ xs) (sym (flat_map_push (λ (x : IndexedTerm). x.postings_bytes) ts t));
    positions = w.positions ∙ ap (λ (xs : List ℕ × List ℕ). (xs.0 ++ w.bytes, [])) before.positions ∙ ap (λ xs. (xs, [])) (append_assoc was.positions.0 (flat_map (λ (x : IndexedTerm). x.positions_bytes) ts) w.bytes ∙ ap (λ xs. was.positions.0 ++ xs) (sym (flat_map_push (λ (x : IndexedTerm). x.positions_bytes) ts t)));
    terms_fit = λ some.
        (let long = length-append ts (t ∷ []) in
        let fit = w.terms_fit in
        let count = ap (λ (x : Terms). x.num_terms) before.terms in
        omega arith);
    tokens = (let first = before.tokens in let more = w.tokens in omega (arith, first, more, sum_by_push (λ (x : List ℕ × List Posting). tokens_of x.1) told (key, ps)));
    tokens_fit = λ fit. (let more = w.tokens in let within = w.tokens_fit in omega (arith, more, within));
    same = (w.same.0 ∙ before.same.0, w.same.1 ∙ before.same.1, w.same.2 ∙ before.same.2);
  }

-- a term of which nothing is written
pub added_same : (kind : Kind) (was now new : FieldWriting) (told : Told) (ts : List IndexedTerm) → AreAdded kind was now told ts → IsPassed now new → AreAdded kind was new told ts
added_same kind was now new told ts before passed = record {
  told_are = before.told_are;
  each_spelled = before.each_spelled;
  terms = passed.terms ∙ before.terms;
  postings = passed.postings ∙ before.postings;
  positions = passed.positions ∙ ap (λ (xs : List ℕ × List ℕ). (xs.0, [])) before.positions;
  terms_fit = before.terms_fit;
  tokens = passed.same.num_tokens ∙ before.tokens;
  tokens_fit = λ fit. subst (λ n. n < 2 ^ 64) (sym passed.same.num_tokens) (before.tokens_fit fit);
  same = (passed.same.field ∙ before.same.0, passed.same.mode ∙ before.same.1, passed.same.norms ∙ before.same.2);
}

-- ---- terms so far

-- some terms were written, and those to come are the rest of all
pub record AreSoFar (kind : Kind) (was now : FieldWriting) (rest whole : Told) : Type 0 where
  pub told : Told
  pub terms : List IndexedTerm
  pub split : told ++ rest ≡ whole
  pub added : AreAdded kind was now told terms

pub begin_so_far : (kind : Kind) (was : FieldWriting) (whole : Told) → was.positions.1 ≡ [] → AreSoFar kind was was whole whole
begin_so_far kind was whole nothing = record { told = []; terms = []; split = refl; added = none_added kind was nothing }

pub more_so_far : (kind : Kind) (was now new : FieldWriting) (rest whole : Told) (key : List ℕ) (ps : List Posting) → AreSoFar kind was now (with_term key ps rest) whole → IsMergedTerm now new key (option_in kind was.writing.mode key) ps → AreSoFar kind was new rest whole
more_so_far kind was now new rest whole key [] before passed = record { told = before.told; terms = before.terms; split = before.split; added = added_same kind was now new before.told before.terms before.added passed }
more_so_far kind was now new rest whole key (p ∷ ps) before written = record {
  told = before.told ++ (key, p ∷ ps) ∷ [];
  terms = _;
  split = append_assoc before.told ((key, p ∷ ps) ∷ []) rest ∙ before.split;
  added = added_more kind was now new before.told before.terms key (p ∷ ps) before.added written;
}

pub all_so_far : (kind : Kind) (was now : FieldWriting) (whole : Told) → AreSoFar kind was now [] whole → (ts : List IndexedTerm) × AreAdded kind was now whole ts
all_so_far kind was now whole done = (done.terms, subst (λ told. AreAdded kind was now told done.terms) (sym (append-nil done.told) ∙ done.split) done.added)

-- ---- what is refused

at_end : (told rest : Told) (x : List ℕ × List Posting) → slice_get (told ++ x ∷ rest) (length told) ≡ Some x
at_end [] rest x = refl
at_end (y ∷ told) rest x = at_end told rest x

pub term_refused : (fault : Fault) (kind : Kind) (was now : FieldWriting) (rest whole : Told) (key : List ℕ) (ps : List Posting) → AreSoFar kind was now (with_term key ps rest) whole → IsTermRefusal fault now (option_in kind was.writing.mode key) ps → IsTermsRefusal fault kind was whole
term_refused fault kind was now rest whole key [] before memory = inl memory
term_refused fault kind was now rest whole key (p ∷ ps) before (inl memory) = inl memory
term_refused fault kind was now rest whole key (p ∷ ps) before (inr (limit, inl pass)) = inr (limit, inl (length before.told, subst (λ o. IsSomeAnd o P) (sym (ap (λ ts. slice_get ts (length before.told)) (sym before.split) ∙ at_end before.told rest (key, p ∷ ps))) passes))
  where
    P : List ℕ × List Posting → Type 0
    P t = TermPasses (option_in kind was.writing.mode t.0) (listed was.writing.norms) t.1

    passes : P (key, p ∷ ps)
    passes = subst (λ o. TermPasses (option_in kind was.writing.mode key) (listed o) (p ∷ ps)) before.added.same.2 pass
term_refused fault kind was now rest whole key (p ∷ ps) before (inr (limit, inr (inl many))) = inr (
  limit,
  inr (inl (
      let a = ap length before.split in
      let b = length-append before.told ((key, p ∷ ps) ∷ rest) in
      let c = ap length before.added.told_are in
      let d = length-map before.terms told_of in
      let e = ap (λ (t : Terms). t.num_terms) before.added.terms in
      omega arith
      )),
)
term_refused fault kind was now rest whole key (p ∷ ps) before (inr (limit, inr (inr past))) = inr (
  limit,
  inr (inr (
      let f : List ℕ × List Posting → ℕ = λ t. tokens_of t.1 in
      let a = ap tokens_in before.split in
      let b = sum_by-append f before.told ((key, p ∷ ps) ∷ rest) in
      let d = sum_by-cons f (key, p ∷ ps) rest in
      let e = before.added.tokens in
      omega (arith, past, a, b, d, e)
      )),
)

-- ---- keys that are left

pub first_of : (keys : List (List ℕ)) (key : List ℕ) → slice_get keys 0 ≡ Some key → keys ≡ key ∷ drop 1 keys
first_of [] key is = absurd cc
first_of (k ∷ keys) key is = (let same : k ≡ key = cc in ap (λ x. x ∷ keys) same)

pub no_first : (keys : List (List ℕ)) → slice_get keys 0 ≡ None → keys ≡ []
no_first [] is = refl
no_first (k ∷ keys) is = absurd cc
