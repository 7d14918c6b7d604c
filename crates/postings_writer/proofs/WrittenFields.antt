-- Terms that were written to a field, and fields that were written to the sections.
use Rattle.std.proofs.Common.{[], ◌++◌, ◌⊎◌, IsSomeAnd, Some, append-nil, inl, inr, option_map, slice_get, suc, zero, ◌+◌, ◌<◌, ◌^◌, ◌≡◌, ◌≤◌, ◌∙◌, ◌∷◌, List, ap, ap₂, append_assoc, arith, get_or, length, length-append, map, refl, subst, sum_by, sym, take, true, ℕ}
use Rattle.std.specs.List.{flat_map}
use Rattle.std.proofs.lemmas.List.{length-map, length-take-le, map-append, take-map, take_more}
use Rattle.std.proofs.lemmas.List.Sums.{sum_by-cons, sum_by-take-le, sum_by_push}
use Rattle.std.proofs.lemmas.Option.{slice_get-get_or}
use Rattle.codes.specs.UnpackedBlocks.{listed}
use Rattle.definitions.proofs.Lists.{all_push}
use Rattle.definitions.specs.Postings.{Posting}
use Rattle.definitions.specs.Schema.{IndexRecordOption, Kind}
use Rattle.definitions.specs.declared.fault.Fault.{Fault}
use Rattle.definitions.specs.declared.fault.Fault.TheVariants as faults
use Rattle.layouts.specs.InvertedIndexes.{IndexedTerm, lengths_of}
use Rattle.layouts.specs.TermPostings.{postings_bytes}
use Rattle.front_coding.proofs.TermsLoop.{coded_pushed, last_pushed}
use Rattle.front_coding.specs.TakenKeys.{last_key}
use Rattle.layouts.specs.TermSections.{before_in_block, block_size, coded_entry, coded_from}
use Rattle.postings_writer.specs.FieldWriting.{FieldWriting, Terms, inserted, with_terms}
use Rattle.postings_writer.specs.TermWriting.{recorded_count}
use Rattle.postings_writer.specs.Limits.{TermPasses}
use Rattle.postings_writer.specs.Sections.{AnyTermPasses, AreAdded, IsSpelled, option_in, tokens_in}
use Rattle.postings_writer.specs.Serializing.{IsWrittenTerm, postings_from, tokens_of}
use Rattle.postings_writer.specs.declared.recorder.Recorder.{Recorder}
use Rattle.postings_writer.proofs.WrittenTerms.{IsTermRefusal}

-- one list more at the end of those that are joined
pub flat_map_push : {A B : Type 0} (f : A → List B) (xs : List A) (x : A) → flat_map f (xs ++ x ∷ []) ≡ flat_map f xs ++ f x
flat_map_push f [] x = append-nil (f x)
flat_map_push f (y ∷ ys) x = ap (λ zs. f y ++ zs) (flat_map_push f ys x) ∙ sym (append_assoc (f y) (flat_map f ys) (f x))

-- one term more behind others
pub one_term_more : (terms : Terms) (ts : List IndexedTerm) (t : IndexedTerm) → inserted t.key (lengths_of t).1 (with_terms ts terms) ≡ with_terms (ts ++ t ∷ []) terms
one_term_more terms ts t =
    let size = block_size true in
    let told = map lengths_of ts in
    let written = coded_from size terms.num_terms terms.last told in
    let all : map lengths_of (ts ++ t ∷ []) ≡ told ++ lengths_of t ∷ [] = map-append lengths_of ts (t ∷ []) in
    let many : terms.num_terms + length ts ≡ terms.num_terms + length told = sym (ap (λ n. terms.num_terms + n) (length-map ts lengths_of)) in
    let more = coded_from size terms.num_terms terms.last (map lengths_of (ts ++ t ∷ [])) in
    let entries : (terms.entries ++ written) ++ coded_entry (before_in_block size (terms.num_terms + length ts) (last_key terms.last told)) (lengths_of t) ≡ terms.entries ++ more =
    append_assoc terms.entries written (coded_entry (before_in_block size (terms.num_terms + length ts) (last_key terms.last told)) (lengths_of t))
    ∙ ap (λ xs. terms.entries ++ xs) (ap (λ n. written ++ coded_entry (before_in_block size n (last_key terms.last told)) (lengths_of t)) many ∙ sym (coded_pushed size terms.num_terms terms.last told (lengths_of t)) ∙ ap (coded_from size terms.num_terms terms.last) (sym all)) in
    let number : terms.num_terms + length ts + 1 ≡ terms.num_terms + length (ts ++ t ∷ []) = (let long = length-append ts (t ∷ []) in omega (arith, long)) in
    let last : t.key ≡ last_key terms.last (map lengths_of (ts ++ t ∷ [])) = sym (ap (last_key terms.last) all ∙ last_pushed size terms.last told (lengths_of t)) in
    ap (λ es. record { closed = terms.closed; entries = es; num_terms = terms.num_terms + length ts + 1; last = t.key }) entries
    ∙ ap (λ n. record { closed = terms.closed; entries = terms.entries ++ more; num_terms = n; last = t.key }) number
    ∙ ap (λ k. record { closed = terms.closed; entries = terms.entries ++ more; num_terms = terms.num_terms + length (ts ++ t ∷ []); last = k }) last

-- ---- terms of a field

-- a term that was written
abbrev term_of : List ℕ → Recorder → IndexRecordOption → List ℕ → List ℕ → IndexedTerm
term_of key r option ids positions = (let ps = postings_from r 0 in record { key = key; postings = ps; postings_bytes = postings_bytes option ids (map (λ p. p.doc) ps) (map (λ p. recorded_count option p.count) ps); positions_bytes = positions })

abbrev pub Recorded : Type 0
Recorded = List ℕ × Recorder

abbrev pub told_of : IndexedTerm → List ℕ × List Posting
told_of t = (t.key, t.postings)

abbrev stands_for : Recorded → List ℕ × List Posting
stands_for r = (r.0, postings_from r.1 0)

-- the tokens of one
abbrev recorded_tokens : Recorded → ℕ
recorded_tokens r = tokens_of r.1

-- those of the terms are those of the recorders
tokens_told : (ts : List IndexedTerm) (rs : List Recorded) → map told_of ts ≡ map stands_for rs → tokens_in ts ≡ sum_by recorded_tokens rs
tokens_told [] [] told = refl
tokens_told [] (r ∷ rs) told = cc
tokens_told (t ∷ ts) [] told = cc
tokens_told (t ∷ ts) (r ∷ rs) told =
    let first : told_of t ≡ stands_for r = cc in
    let rest : map told_of ts ≡ map stands_for rs = cc in
    let here : sum_by (λ (p : Posting). p.count) t.postings ≡ tokens_of r.1 = ap (λ (x : List ℕ × List Posting). sum_by (λ (p : Posting). p.count) x.1) first in
    let later = tokens_told ts rs rest in
    let a = sum_by-cons (λ (x : IndexedTerm). sum_by (λ (p : Posting). p.count) x.postings) t ts in
    let b = sum_by-cons recorded_tokens r rs in
    omega arith

-- one term more
module _ (kind : Kind) (was now new : FieldWriting) (rs : List Recorded) (ts : List IndexedTerm) (key : List ℕ) (r : Recorder) (before : AreAdded kind was now rs ts) (w : IsWrittenTerm now new key (option_in kind was.writing.mode key) (postings_from r 0)) where
  abbrev option : IndexRecordOption
  option = option_in kind was.writing.mode key

  abbrev ps : List Posting
  ps = postings_from r 0

  abbrev t : IndexedTerm
  t = term_of key r option (listed was.writing.norms) w.bytes

  bytes_are : postings_bytes option (listed now.writing.norms) (map (λ (p : Posting). p.doc) ps) (map (λ (p : Posting). recorded_count option p.count) ps) ≡ t.postings_bytes
  bytes_are = ap (λ o. postings_bytes option (listed o) (map (λ (p : Posting). p.doc) ps) (map (λ (p : Posting). recorded_count option p.count) ps)) before.same.2

  spelled : IsSpelled option (listed was.writing.norms) t
  spelled = record { postings_are = record { posted = w.posted; bytes_are = refl }; positions_are = w.positions_are; within = record { sums = w.sums_fit; postings = subst (λ (xs : List ℕ). length xs < 2 ^ 32) bytes_are w.postings_fit; positions = w.positions_fit } }

  abbrev entered : ℕ → List ℕ → Terms → Terms
  entered freq bytes terms = inserted key (record { doc_freq = freq; postings_len = length bytes; positions_len = length w.bytes }) terms

  terms_are : new.terms ≡ with_terms (ts ++ t ∷ []) was.terms
  terms_are = w.terms ∙ ap₂ (λ n xs. entered n xs now.terms) (length-map ps (λ (p : Posting). p.doc)) bytes_are ∙ ap (entered (length ps) t.postings_bytes) before.terms ∙ one_term_more was.terms ts t

  tokens_more : new.num_tokens ≡ was.num_tokens + tokens_in (ts ++ t ∷ [])
  tokens_more =
      let more = w.tokens in
      let first = before.tokens in
      let last = sum_by_push (λ (x : IndexedTerm). sum_by (λ (p : Posting). p.count) x.postings) ts t in
      omega arith

  added_more : AreAdded kind was new (rs ++ (key, r) ∷ []) (ts ++ t ∷ [])
  added_more = record {
    told = map-append told_of ts (t ∷ []) ∙ ap (λ xs. xs ++ stands_for (key, r) ∷ []) before.told ∙ sym (map-append stands_for rs ((key, r) ∷ []));
    each_spelled = all_push (λ (x : IndexedTerm). IsSpelled (option_in kind was.writing.mode x.key) (listed was.writing.norms) x) ts t before.each_spelled spelled;
    terms = terms_are;
    postings = w.postings ∙ ap₂ (λ xs ys. xs ++ ys) before.postings bytes_are ∙ append_assoc was.postings (flat_map (λ (x : IndexedTerm). x.postings_bytes) ts) t.postings_bytes ∙ ap (λ xs. was.postings ++ xs) (sym (flat_map_push (λ (x : IndexedTerm). x.postings_bytes) ts t));
    positions = w.positions ∙ ap (λ (xs : List ℕ × List ℕ). (xs.0 ++ w.bytes, [])) before.positions ∙ ap (λ xs. (xs, [])) (append_assoc was.positions.0 (flat_map (λ (x : IndexedTerm). x.positions_bytes) ts) w.bytes ∙ ap (λ xs. was.positions.0 ++ xs) (sym (flat_map_push (λ (x : IndexedTerm). x.positions_bytes) ts t)));
    terms_fit = λ some.
        (let long = length-append ts (t ∷ []) in
        let fit = w.terms_fit in
        let count = ap (λ (x : Terms). x.num_terms) before.terms in
        omega arith);
    tokens = tokens_more;
    tokens_fit = λ fit. (let more = w.tokens in let within = w.tokens_fit in omega arith);
    same = (w.same.0 ∙ before.same.0, w.same.1 ∙ before.same.1, w.same.2 ∙ before.same.2);
  }

  pub added_next : (next : List Recorded) → rs ++ (key, r) ∷ [] ≡ next → (us : List IndexedTerm) × AreAdded kind was new next us
  added_next next is = (ts ++ t ∷ [], subst (λ xs. AreAdded kind was new xs (ts ++ t ∷ [])) is added_more)

-- the front of a list with one element more
pub mapped_more : {A B : Type 0} (v : A → B) (xs : List A) (i : ℕ) (x : A) → i < length xs → x ≡ get_or xs i x → map v (take i xs) ++ v x ∷ [] ≡ map v (take (i + 1) xs)
mapped_more v xs i x inside is = ap (λ y. map v (take i xs) ++ v y ∷ []) is ∙ sym (map-append v (take i xs) (get_or xs i x ∷ [])) ∙ ap (map v) (sym (take_more xs i x inside))

-- ---- what is refused

at_mapped : {A B : Type 0} (v : A → B) (xs : List A) (i : ℕ) (x : A) → slice_get xs i ≡ Some x → slice_get (map v xs) i ≡ Some (v x)
at_mapped v [] i x at = cc
at_mapped v (y ∷ ys) zero x at = ap (option_map v) at
at_mapped v (y ∷ ys) (suc i) x at = at_mapped v ys i x at

-- the tokens of a front and of the item behind it are among those of all
tokens_front : {A : Type 0} (v : A → Recorded) (items : List A) (i : ℕ) (x : A) → i < length items → x ≡ get_or items i x → sum_by recorded_tokens (map v (take i items)) + tokens_of (v x).1 ≤ sum_by recorded_tokens (map v items)
tokens_front v items i x inside is =
    let one = sum_by_push recorded_tokens (map v (take i items)) (v x) in
    let more = ap (sum_by recorded_tokens) (mapped_more v items i x inside is ∙ sym (take-map v (i + 1) items)) in
    let le = sum_by-take-le recorded_tokens (map v items) (i + 1) in
    omega arith

-- a term that is refused, behind those that were written
pub term_refused : {A : Type 0} (fault : Fault) (kind : Kind) (was now : FieldWriting) (v : A → Recorded) (items : List A) (ts : List IndexedTerm) (i : ℕ) (x : A) (option : IndexRecordOption) → AreAdded kind was now (map v (take i items)) ts → i < length items → x ≡ get_or items i x → option ≡ option_in kind was.writing.mode (v x).0
    → IsTermRefusal fault now option (postings_from (v x).1 0)
    → (fault ≡ faults.OutOfMemory) ⊎ ((fault ≡ faults.Limit) × AnyTermPasses kind was (map v items))
term_refused fault kind was now v items ts i x option added inside is option_is (inl memory) = inl memory
term_refused fault kind was now v items ts i x option added inside is option_is (inr (limit, inl pass)) = inr (
  limit,
  inl (i, subst (λ o. IsSomeAnd o (λ (r : Recorded). TermPasses (option_in kind was.writing.mode r.0) (listed was.writing.norms) (postings_from r.1 0))) (sym (at_mapped v items i x (slice_get-get_or items i x inside ∙ ap Some (sym is)))) passes),
)
  where
    passes : TermPasses (option_in kind was.writing.mode (v x).0) (listed was.writing.norms) (postings_from (v x).1 0)
    passes = subst (λ o. TermPasses o (listed was.writing.norms) (postings_from (v x).1 0)) option_is (subst (λ o. TermPasses option (listed o) (postings_from (v x).1 0)) added.same.2 pass)
term_refused fault kind was now v items ts i x option added inside is option_is (inr (limit, inr (inl many))) = inr (
  limit,
  inr (inl (
      let told = ap length added.told in
      let a = length-map ts told_of in
      let b = length-map (map v (take i items)) stands_for in
      let c = length-map (take i items) v in
      let d = length-take-le i items (omega arith) in
      let e = length-map items v in
      let f = ap (λ (t : Terms). t.num_terms) added.terms in
      omega arith
      )),
)
term_refused fault kind was now v items ts i x option added inside is option_is (inr (limit, inr (inr past))) = inr (
  limit,
  inr (inr (
      let written = added.tokens in
      let told = tokens_told ts (map v (take i items)) added.told in
      let front = tokens_front v items i x inside is in
      omega arith
      )),
)
