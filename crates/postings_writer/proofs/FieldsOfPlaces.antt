-- A field that was written has the terms that have occurrences, with their postings.
use Rattle.std.proofs.Common.{[], ◌++◌, ◌⊎◌, ◌≤◌, IsSomeAnd, append-nil, inl, inr, slice_get, suc, zero, ◌+◌, ◌<◌, ◌^◌, ◌≡◌, ◌∙◌, ◌∷◌, IsSome, List, Option, Some, ap, ap₂, append_assoc, arith, bytes_eq, length, map, refl, subst, sum_by, sym, true, zero-add, ℕ}
use Rattle.std.specs.List.{AllByRecursion, flat_map, list_any}
use Rattle.std.specs.Map.{lookup}
use Rattle.std.proofs.lemmas.List.{length-map}
use Rattle.std.proofs.lemmas.List.Sums.{sum_by-cons}
use Rattle.codes.specs.UnpackedBlocks.{listed}
use Rattle.definitions.proofs.DocumentBounds.{all-map as all_then}
use Rattle.definitions.specs.NumberCodes.{u32_bytes, u64_bytes, vint_bytes}
use Rattle.definitions.specs.Postings.{Posting}
use Rattle.definitions.specs.Schema.{Entry, IndexRecordOption, Kind}
use Rattle.definitions.specs.declared.fault.Fault.{Fault}
use Rattle.definitions.specs.declared.fault.Fault.TheVariants as faults
use Rattle.layouts.specs.InvertedIndexes.{IndexedField, IndexedTerm, field_terms, lengths_of, Sections}
use Rattle.layouts.specs.TermSections.{TermsAscend, block_size, coded_from, field_terms_bytes}
use Rattle.postings_writer.specs.FieldWriting.{FieldWriting, field_begun, field_closed}
use Rattle.postings_writer.specs.Fields.{HasRecorders, Terms, option_of_key}
use Rattle.postings_writer.specs.Limits.{IsFieldRefusal, TermPasses, TooMany}
use Rattle.postings_writer.specs.Occurrences.{postings_at}
use Rattle.postings_writer.specs.Recorders.{recorder_of}
use Rattle.postings_writer.specs.Sections.{AnyTermPasses, AreAdded, AreFieldsAdded, IsFieldOf, IsSpelled, IsTermOf, option_in, tokens_in}
use Rattle.postings_writer.specs.Serializing.{postings_from, tokens_of}
use Rattle.postings_writer.specs.declared.recorder.Recorder.{Recorder}
use Rattle.postings_writer.proofs.Bridges.{recorded_postings}
use Rattle.postings_writer.proofs.KeptRecorders.{recorder_is}
use Rattle.postings_writer.proofs.Occurrences.{all_mapped, some_postings}
use Rattle.postings_writer.proofs.SortedTerms.{keys_are}
use Rattle.postings_writer.proofs.WrittenFields.{told_of, Recorded}

abbrev stands_for : Recorded → List ℕ × List Posting
stands_for r = (r.0, postings_from r.1 0)

recorder_some : (option : IndexRecordOption) (ps : List (ℕ × ℕ)) (r : Recorder) → recorder_of option ps ≡ Some r → 0 < length ps
recorder_some option [] r is = cc
recorder_some option (p ∷ ps) r is = omega arith

-- a recorder that is there, where there are occurrences
some_recorder : (option : IndexRecordOption) (ps : List (ℕ × ℕ)) → 0 < length ps → IsSome (recorder_of option ps)
some_recorder option [] some = absurd (omega arith)
some_recorder option (p ∷ ps) some = refl

module _ (e : Entry) (occurrences : List ℕ → List (ℕ × ℕ)) (terms : Terms) (has : HasRecorders e occurrences terms) (ids : List ℕ) where
  -- a term of a recorder
  one_term : (t : IndexedTerm) (r : Recorded) → told_of t ≡ stands_for r → IsSpelled (option_of_key e t.key) ids t → lookup (bytes_eq r.0) terms ≡ Some r.1 → IsTermOf e ids occurrences t
  one_term t r told spelled found =
      let key : r.0 ≡ t.key = sym (ap (λ (x : List ℕ × List Posting). x.0) told) in
      let there : recorder_of (option_of_key e r.0) (occurrences r.0) ≡ Some r.1 = sym (has.recorders r.0) ∙ found in
      let postings : t.postings ≡ postings_at (option_of_key e r.0) (occurrences r.0) = ap (λ (x : List ℕ × List Posting). x.1) told ∙ ap (λ x. postings_from x 0) (recorder_is (option_of_key e r.0) (occurrences r.0) r.1 there) ∙ recorded_postings (option_of_key e r.0) (occurrences r.0) in
      record {
        has_occurrences = subst (λ k. 0 < length (occurrences k)) key (recorder_some (option_of_key e r.0) (occurrences r.0) r.1 there);
        postings_are = subst (λ k. t.postings ≡ postings_at (option_of_key e k) (occurrences k)) key postings;
        spelled = spelled;
      }

  pub all_terms : (ts : List IndexedTerm) (rs : List Recorded) → map told_of ts ≡ map stands_for rs → AllByRecursion (λ (t : IndexedTerm). IsSpelled (option_of_key e t.key) ids t) ts → AllByRecursion (λ (r : Recorded). lookup (bytes_eq r.0) terms ≡ Some r.1) rs → AllByRecursion (IsTermOf e ids occurrences) ts
  all_terms [] rs told spelled found = tt
  all_terms (t ∷ ts) [] told spelled found = cc
  all_terms (t ∷ ts) (r ∷ rs) told spelled found = (
    one_term t r (let first : told_of t ≡ stands_for r = cc in first) spelled.0 found.0,
    all_terms ts rs (let rest : map told_of ts ≡ map stands_for rs = cc in rest) spelled.1 found.1,
  )

-- the keys are those of the recorders
pub keys_told : (ts : List IndexedTerm) (rs : List Recorded) → map told_of ts ≡ map stands_for rs → map (λ (t : IndexedTerm). t.key) ts ≡ map (λ (r : Recorded). r.0) rs
keys_told [] [] told = refl
keys_told [] (r ∷ rs) told = cc
keys_told (t ∷ ts) [] told = cc
keys_told (t ∷ ts) (r ∷ rs) told =
    let first : told_of t ≡ stands_for r = cc in
    let rest : map told_of ts ≡ map stands_for rs = cc in
    ap₂ (λ k ks. k ∷ ks) (ap (λ (x : List ℕ × List Posting). x.0) first) (keys_told ts rs rest)

-- ---- a field behind the others

pub regroup : (a b c d e : List ℕ) → a ++ b ++ c ++ d ++ e ≡ a ++ ((b ++ c ++ d ++ e) ++ [])
regroup a b c d e = append_assoc (a ++ b ++ c) d e ∙ append_assoc (a ++ b) c (d ++ e) ∙ append_assoc a b (c ++ (d ++ e)) ∙ ap (λ xs. a ++ xs) (sym (append-nil (b ++ c ++ d ++ e) ∙ append_assoc (b ++ c) d e ∙ append_assoc b c (d ++ e)))

abbrev pub spelled_field : List ℕ → ℕ → ℕ → ℕ → List ℕ → List ℕ
spelled_field closed field tokens count entries = closed ++ u32_bytes field ++ u64_bytes tokens ++ vint_bytes count ++ entries

pub spelled_same : (c d : List ℕ) (f g t u n m : ℕ) (xs ys : List ℕ) → c ≡ d → f ≡ g → t ≡ u → n ≡ m → xs ≡ ys → spelled_field c f t n xs ≡ spelled_field d g u m ys
spelled_same c d f g t u n m xs ys to_d to_g to_u to_m to_ys =
    ap (λ x. spelled_field x f t n xs) to_d
    ∙ ap (λ x. spelled_field d x t n xs) to_g
    ∙ ap (λ x. spelled_field d g x n xs) to_u
    ∙ ap (λ x. spelled_field d g u x xs) to_m
    ∙ ap (λ x. spelled_field d g u m x) to_ys

-- the field that was begun, with the terms that were added, closed
module _ (s now : Sections) (field : ℕ) (mode : IndexRecordOption) (norms : Option (List ℕ)) (kind : Kind) (w : FieldWriting) (rs : List Recorded) (ts : List IndexedTerm) (added : AreAdded kind (field_begun s field mode norms) w rs ts) where
  tokens_are : w.num_tokens ≡ tokens_in ts
  tokens_are = added.tokens ∙ zero-add (tokens_in ts)

  pub tokens_within : tokens_in ts < 2 ^ 64
  tokens_within = (let none : 0 < 2 ^ 64 = omega arith in subst (λ n. n < 2 ^ 64) tokens_are (added.tokens_fit none))

  terms_added : (field_closed w).terms ≡ s.terms ++ flat_map (field_terms_bytes (block_size true)) (field_terms (record { field = field; terms = ts }) ∷ [])
  terms_added =
      spelled_same w.terms.closed s.terms w.field field w.num_tokens (tokens_in ts) w.terms.num_terms (length (map lengths_of ts)) w.terms.entries (coded_from (block_size true) 0 [] (map lengths_of ts))
      (ap (λ (x : Rattle.postings_writer.specs.FieldWriting.Terms). x.closed) added.terms) added.same.0 tokens_are
      (ap (λ (x : Rattle.postings_writer.specs.FieldWriting.Terms). x.num_terms) added.terms ∙ (let long = length-map ts lengths_of in let P : 0 + length ts ≡ length (map lengths_of ts) = omega arith in P))
      (ap (λ (x : Rattle.postings_writer.specs.FieldWriting.Terms). x.entries) added.terms)
      ∙ regroup s.terms (u32_bytes field) (u64_bytes (tokens_in ts)) (vint_bytes (length (map lengths_of ts))) (coded_from (block_size true) 0 [] (map lengths_of ts))

  pub field_added : now ≡ field_closed w → AreFieldsAdded s now (record { field = field; terms = ts } ∷ [])
  field_added is = record {
    terms = ap (λ (x : Sections). x.terms) is ∙ terms_added;
    postings = ap (λ (x : Sections). x.postings) is ∙ added.postings ∙ ap (λ xs. s.postings ++ xs) (sym (append-nil (flat_map (λ (t : IndexedTerm). t.postings_bytes) ts)));
    positions = ap (λ (x : Sections). x.positions) is ∙ ap (λ (x : List ℕ × List ℕ). x.0) added.positions ∙ ap (λ xs. s.positions ++ xs) (sym (append-nil (flat_map (λ (t : IndexedTerm). t.positions_bytes) ts)));
  }

-- behind no term there are as many as there may be
pub few_terms : (ts : List IndexedTerm) → (0 < length ts → 0 + length ts ≤ 4294967295) → length ts ≤ 4294967295
few_terms [] few = omega arith
few_terms (t ∷ ts) few = (let all = few (omega arith) in omega arith)

-- ---- the field of occurrences

-- what was written of the recorders of occurrences
pub field_of_occurrences : (e : Entry) (occurrences : List ℕ → List (ℕ × ℕ)) (terms : Terms) (s now : Sections) (field : ℕ) (norms : Option (List ℕ)) (w : FieldWriting) (rs : List Recorded) (ts : List IndexedTerm)
    → HasRecorders e occurrences terms → AreAdded e.kind (field_begun s field e.record_option norms) w rs ts → now ≡ field_closed w
    → TermsAscend (map (λ (r : Recorded). r.0) rs) → AllByRecursion (λ (r : Recorded). lookup (bytes_eq r.0) terms ≡ Some r.1) rs
    → ((key : List ℕ) → IsSome (lookup (bytes_eq key) terms) → list_any (bytes_eq key) (map (λ (r : Recorded). r.0) rs) ≡ true)
    → (f : IndexedField) × (f.field ≡ field) × IsFieldOf e (listed norms) occurrences f × AreFieldsAdded s now (f ∷ [])
field_of_occurrences e occurrences terms s now field norms w rs ts has added is ascend found all =
    let keys = keys_told ts rs added.told in (
      record { field = field; terms = ts },
      refl,
      record {
        ascend = subst TermsAscend (sym keys) ascend;
        tokens_fit = tokens_within s now field e.record_option norms e.kind w rs ts added;
        terms_fit = few_terms ts added.terms_fit;
        each_term = all_terms e occurrences terms has (listed norms) ts rs added.told added.each_spelled found;
        all = λ key some. subst (λ ks. list_any (bytes_eq key) ks ≡ true) (sym keys) (all key (subst IsSome (sym (has.recorders key)) (some_recorder (option_of_key e key) (occurrences key) some)));
      },
      field_added s now field e.record_option norms e.kind w rs ts added is,
    )

-- likewise of items that show the recorders
pub field_of_items : {A : Type 0} (v : A → Recorded) (items : List A) (e : Entry) (occurrences : List ℕ → List (ℕ × ℕ)) (terms : Terms) (s now : Sections) (field : ℕ) (norms : Option (List ℕ)) (w : FieldWriting) (ts : List IndexedTerm)
    → HasRecorders e occurrences terms → AreAdded e.kind (field_begun s field e.record_option norms) w (map v items) ts → now ≡ field_closed w
    → TermsAscend (map (λ x. (v x).0) items) → AllByRecursion (λ x. lookup (bytes_eq (v x).0) terms ≡ Some (v x).1) items
    → ((key : List ℕ) → IsSome (lookup (bytes_eq key) terms) → list_any (bytes_eq key) (map (λ x. (v x).0) items) ≡ true)
    → (f : IndexedField) × (f.field ≡ field) × IsFieldOf e (listed norms) occurrences f × AreFieldsAdded s now (f ∷ [])
field_of_items v items e occurrences terms s now field norms w ts has added is ascend found all =
    field_of_occurrences e occurrences terms s now field norms w (map v items) ts has added is
    (subst TermsAscend (sym (keys_are v items)) ascend)
    (all_mapped (λ (r : Recorded). lookup (bytes_eq r.0) terms ≡ Some r.1) v items found)
    (λ key some. subst (λ ks. list_any (bytes_eq key) ks ≡ true) (sym (keys_are v items)) (all key some))

-- ---- what is refused

pub among : {X : Type 0} (P Q : X → Type 0) (xs : List X) (i : ℕ) → AllByRecursion Q xs → IsSomeAnd (slice_get xs i) P → (x : X) × P x × Q x
among P Q [] i all at = absurd at
among P Q (x ∷ xs) zero all at = (x, at, all.0)
among P Q (x ∷ xs) (suc i) all at = among P Q xs i all.1 at

module _ {A : Type 0} (v : A → Recorded) (items : List A) (e : Entry) (occurrences : List ℕ → List (ℕ × ℕ)) (terms : Terms) (has : HasRecorders e occurrences terms) (ascend : TermsAscend (map (λ x. (v x).0) items)) (found : AllByRecursion (λ x. lookup (bytes_eq (v x).0) terms ≡ Some (v x).1) items) where
  abbrev given : List ℕ → List Posting
  given key = postings_at (option_of_key e key) (occurrences key)

  recorder_at : (key : List ℕ) (r : Recorder) → lookup (bytes_eq key) terms ≡ Some r → recorder_of (option_of_key e key) (occurrences key) ≡ Some r
  recorder_at key r at = sym (has.recorders key) ∙ at

  postings_found : (key : List ℕ) (r : Recorder) → lookup (bytes_eq key) terms ≡ Some r → postings_from r 0 ≡ given key
  postings_found key r at = ap (λ x. postings_from x 0) (recorder_is (option_of_key e key) (occurrences key) r (recorder_at key r at)) ∙ recorded_postings (option_of_key e key) (occurrences key)

  some_found : (key : List ℕ) (r : Recorder) → lookup (bytes_eq key) terms ≡ Some r → 0 < length (given key)
  some_found key r at = some_postings (option_of_key e key) (occurrences key) (recorder_some (option_of_key e key) (occurrences key) r (recorder_at key r at))

  -- the tokens of the recorders are those of their occurrences
  tokens_given : (xs : List A) → AllByRecursion (λ x. lookup (bytes_eq (v x).0) terms ≡ Some (v x).1) xs → sum_by (λ (r : Recorded). tokens_of r.1) (map v xs) ≡ sum_by (λ key. sum_by (λ (p : Posting). p.count) (given key)) (map (λ x. (v x).0) xs)
  tokens_given [] all = refl
  tokens_given (x ∷ xs) all =
      let here : tokens_of (v x).1 ≡ sum_by (λ (p : Posting). p.count) (given (v x).0) = ap (sum_by (λ (p : Posting). p.count)) (postings_found (v x).0 (v x).1 all.0) in
      let later = tokens_given xs all.1 in
      let a = sum_by-cons (λ (r : Recorded). tokens_of r.1) (v x) (map v xs) in
      let b = sum_by-cons (λ key. sum_by (λ (p : Posting). p.count) (given key)) (v x).0 (map (λ y. (v y).0) xs) in
      omega arith

  too_many : (4294967295 < length (map (λ x. (v x).0) items)) ⊎ (2 ^ 64 ≤ sum_by (λ key. sum_by (λ (p : Posting). p.count) (given key)) (map (λ x. (v x).0) items)) → TooMany given
  too_many many = record {
    keys = map (λ x. (v x).0) items;
    ascend = ascend;
    each_key = all_mapped (λ key. 0 < length (given key)) (λ x. (v x).0) items (all_then (λ x. lookup (bytes_eq (v x).0) terms ≡ Some (v x).1) (λ x. 0 < length (given (v x).0)) items (λ x at. some_found (v x).0 (v x).1 at) found);
    many = many;
  }

  -- a term of the field that passes a limit, or their number, or their tokens
  pub terms_pass : (fault : Fault) (norms : Option (List ℕ)) (was : FieldWriting) → was.terms.num_terms ≡ 0 → was.num_tokens ≡ 0 → was.writing.mode ≡ e.record_option → was.writing.norms ≡ norms → (fault ≡ faults.OutOfMemory) ⊎ ((fault ≡ faults.Limit) × AnyTermPasses e.kind was (map v items)) → IsFieldRefusal fault (option_of_key e) (listed norms) given
  terms_pass fault norms was none empty mode ids (inl memory) = inl memory
  terms_pass fault norms was none empty mode ids (inr (limit, inl (i, passes))) =
      let P : Recorded → Type 0 = λ r. TermPasses (option_in e.kind was.writing.mode r.0) (listed was.writing.norms) (postings_from r.1 0) in
      let Q : Recorded → Type 0 = λ r. lookup (bytes_eq r.0) terms ≡ Some r.1 in
      let r = among P Q (map v items) i (all_mapped Q v items found) passes in
      let one = subst (λ m. TermPasses (option_in e.kind m r.0.0) (listed was.writing.norms) (postings_from r.0.1 0)) mode r.1 in
      let two = subst (λ o. TermPasses (option_of_key e r.0.0) (listed o) (postings_from r.0.1 0)) ids one in
      inr (limit, inl (r.0.0, subst (λ ps. TermPasses (option_of_key e r.0.0) (listed norms) ps) (postings_found r.0.0 r.0.1 r.2) two))
  terms_pass fault norms was none empty mode ids (inr (limit, inr (inl many))) = inr (limit, inr (too_many (inl (let a = length-map items v in let b = length-map items (λ x. (v x).0) in omega arith))))
  terms_pass fault norms was none empty mode ids (inr (limit, inr (inr past))) = inr (limit, inr (too_many (inr (let told = tokens_given items found in omega arith))))
