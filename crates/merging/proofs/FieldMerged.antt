-- A field of a merge has the terms for which there are postings.
use Rattle.std.proofs.Common.{[], Bool, List, None, Option, Some, ap, append-nil, arith, bytes_eq, false, find, flat_map, if◌then◌else◌, inl, inr, length, map, option_map, refl, subst, sum_by, sym, true, true≢false, ◌++◌, ◌+◌, ◌<◌, ◌^◌, ◌||◌, ◌≡◌, ◌≤◌, ◌∙◌, ◌∷◌, ℕ}
use Rattle.std.proofs.lemmas.List.{length-map}
use Rattle.std.proofs.lemmas.List.Sums.{sum_by-cons}
use Rattle.std.specs.List.{AllByRecursion, list_any}
use Rattle.definitions.specs.NumberCodes.{u32_bytes, u64_bytes, vint_bytes}
use Rattle.definitions.specs.Postings.{Posting}
use Rattle.definitions.specs.Schema.{Entry, Kind, Schema}
use Rattle.definitions.specs.declared.fault.Fault.{Fault}
use Rattle.definitions.specs.declared.fault.Fault.TheVariants as faults
use Rattle.segment_reader.proofs.DictionariesPlaced.{is_dictionary}
use Rattle.segment_reader.proofs.ReaderCalls.{dictionary_is}
use Rattle.segment_reader.specs.Dictionaries.{Placed}
use Rattle.segment_reader.specs.Readers.{dictionary_in, info_in, postings_in}
use Rattle.segment_reader.proofs.Ordered.{behind}
use Rattle.layouts.specs.InvertedIndexes.{IndexedField, IndexedTerm, field_terms, lengths_of, Sections}
use Rattle.layouts.specs.TermSections.{TermsAscend, block_size, coded_from, field_terms_bytes}
use Rattle.merging.proofs.MemberPostings.{contents_of, none_held}
use Rattle.merging.specs.Members.{AreMembers, IsMember, living_of, merged_in}
use Rattle.merging.specs.MergedFields.{IsFieldGiven, IsTermGiven}
use Rattle.merging.specs.MergedTerms.{AreAdded, IsTermsRefusal, Told, told_in, tokens_in, tokens_of, with_term}
use Rattle.merging.specs.ToldFields.{dictionaries_of, told_of_all}
use Rattle.merging.specs.declared.member.Member.{Member}
use Rattle.merging.specs.Mappings.{end_of}
use Rattle.merging.proofs.MergedKeys.{AllAbove, all_above, any_has, ascends_behind, keys_ascend, merged_among, same_key}
use Rattle.definitions.proofs.Lists.{bytes_swap as turned}
use Rattle.merging.specs.KeyLists.{keys_of, merged_keys}
use Rattle.codes.specs.UnpackedBlocks.{listed}
use Rattle.postings_writer.proofs.FieldsOfPlaces.{among, few_terms, regroup, spelled_same}
use Rattle.postings_writer.specs.FieldWriting as writing
use Rattle.postings_writer.specs.FieldWriting.{FieldWriting, field_begun, field_closed}
use Rattle.postings_writer.specs.Fields.{option_of_key}
use Rattle.postings_writer.specs.Limits.{IsFieldRefusal, TermPasses, TooMany}
use Rattle.postings_writer.specs.Sections.{AreFieldsAdded, IsSpelled, option_in}

-- ---- what is told

abbrev keys_told : Told → List (List ℕ)
keys_told told = map (λ t. t.0) told

-- what holds of each term that is told
told_hold : (P : List ℕ × List Posting → Type 0) (field : ℕ) (keys : List (List ℕ)) (ms : List Member) (all : List (List IndexedField)) → ((key : List ℕ) → 0 < length (merged_in field key ms all) → P (key, merged_in field key ms all)) → AllByRecursion P (told_in field keys ms all)
told_hold P field [] ms all each = tt
told_hold P field (key ∷ keys) ms all each = go (merged_in field key ms all) refl (told_hold P field keys ms all each)
  where
    go : (ps : List Posting) → merged_in field key ms all ≡ ps → AllByRecursion P (told_in field keys ms all) → AllByRecursion P (with_term key ps (told_in field keys ms all))
    go [] is rest = rest
    go (p ∷ ps) is rest = (subst (λ qs. P (key, qs)) is (each key (let long = ap length is in omega (arith, long))), rest)

abbrev IsOf : (List ℕ → List Posting) → List ℕ × List Posting → Type 0
IsOf given t = (t.1 ≡ given t.0) × (0 < length t.1)

pub told_given : (field : ℕ) (keys : List (List ℕ)) (ms : List Member) (all : List (List IndexedField)) → AllByRecursion (IsOf (λ key. merged_in field key ms all)) (told_in field keys ms all)
told_given field keys ms all = told_hold (IsOf (λ key. merged_in field key ms all)) field keys ms all (λ key some. (refl, some))

-- keys that are told are some of all
told_above : (s : List ℕ) (field : ℕ) (keys : List (List ℕ)) (ms : List Member) (all : List (List IndexedField)) → AllAbove s keys → AllAbove s (keys_told (told_in field keys ms all))
told_above s field [] ms all above = tt
told_above s field (key ∷ keys) ms all above = go (merged_in field key ms all) (told_above s field keys ms all above.1)
  where
    go : (ps : List Posting) → AllAbove s (keys_told (told_in field keys ms all)) → AllAbove s (keys_told (with_term key ps (told_in field keys ms all)))
    go [] rest = rest
    go (p ∷ ps) rest = (above.0, rest)

pub told_ascend : (field : ℕ) (keys : List (List ℕ)) (ms : List Member) (all : List (List IndexedField)) → TermsAscend keys → TermsAscend (keys_told (told_in field keys ms all))
told_ascend field [] ms all ascend = tt
told_ascend field (key ∷ keys) ms all ascend = go (merged_in field key ms all) (told_ascend field keys ms all (behind key keys ascend))
  where
    go : (ps : List Posting) → TermsAscend (keys_told (told_in field keys ms all)) → TermsAscend (keys_told (with_term key ps (told_in field keys ms all)))
    go [] rest = rest
    go (p ∷ ps) rest = ascends_behind key (keys_told (told_in field keys ms all)) (told_above key field keys ms all (all_above key keys ascend)) rest

-- a key with postings is told
pub told_among : (q : List ℕ) (field : ℕ) (keys : List (List ℕ)) (ms : List Member) (all : List (List IndexedField)) → 0 < length (merged_in field q ms all) → list_any (bytes_eq q) keys ≡ true → list_any (bytes_eq q) (keys_told (told_in field keys ms all)) ≡ true
told_among q field [] ms all some among = among
told_among q field (key ∷ keys) ms all some among = go (bytes_eq q key) refl among (λ rest. told_among q field keys ms all some rest)
  where
    others : (b : Bool) → (b || true) ≡ true
    others true = refl
    others false = refl

    later : (ps : List Posting) → list_any (bytes_eq q) (keys_told (told_in field keys ms all)) ≡ true → list_any (bytes_eq q) (keys_told (with_term key ps (told_in field keys ms all))) ≡ true
    later [] rest = rest
    later (p ∷ ps) rest = ap (λ b. bytes_eq q key || b) rest ∙ others (bytes_eq q key)

    here : bytes_eq q key ≡ true → (ps : List Posting) → 0 < length ps → list_any (bytes_eq q) (keys_told (with_term key ps (told_in field keys ms all))) ≡ true
    here same [] none = absurd (omega (arith, none))
    here same (p ∷ ps) none = ap (λ b. b || list_any (bytes_eq q) (keys_told (told_in field keys ms all))) same

    go : (b : Bool) → bytes_eq q key ≡ b → (b || list_any (bytes_eq q) keys) ≡ true → (list_any (bytes_eq q) keys ≡ true → list_any (bytes_eq q) (keys_told (told_in field keys ms all)) ≡ true) → list_any (bytes_eq q) (keys_told (with_term key (merged_in field key ms all) (told_in field keys ms all))) ≡ true
    go true same a rest = here same (merged_in field key ms all) (subst (λ k. 0 < length (merged_in field k ms all)) (same_key q key same) some)
    go false apart a rest = later (merged_in field key ms all) (rest a)

-- ---- dictionaries_of of members

own_ascends : (schema : Schema) (m : Member) (fields : List IndexedField) (field : ℕ) → IsMember schema m fields → TermsAscend (keys_of (dictionary_in m.inverted_index.now field))
own_ascends schema m fields field is =
    let r = m.inverted_index.now in
    let reader = is.is_reader in
    let docs = reader.docs_few in
    let known = is_dictionary schema (length m.doc_ids.flags) is.norms fields r.sections reader.terms_short reader.postings_short reader.positions_short (omega (arith, docs)) reader.sections field in
    subst (λ terms. TermsAscend (keys_of terms)) (sym (dictionary_is r field (contents_of schema m fields is))) known.is.ascend

pub dictionaries_ascend : (schema : Schema) (next end : ℕ) (ms : List Member) (all : List (List IndexedField)) (field : ℕ) → AreMembers schema next end ms all → AllByRecursion (λ terms. TermsAscend (keys_of terms)) (dictionaries_of field ms)
dictionaries_ascend schema next end [] all field are = tt
dictionaries_ascend schema next end (m ∷ ms) [] field are = absurd are
dictionaries_ascend schema next end (m ∷ ms) (fields ∷ all) field are = (own_ascends schema m fields field are.0, dictionaries_ascend schema (end_of m.doc_ids) end ms all field are.2)

-- a key that isn't among terms isn't found
not_found : (key : List ℕ) (terms : List Placed) → list_any (bytes_eq key) (keys_of terms) ≡ false → info_in key terms ≡ None
not_found key [] none = refl
not_found key (t ∷ terms) none = go (bytes_eq key t.0) refl none (λ rest. not_found key terms rest)
  where
    go : (b : Bool) → bytes_eq key t.0 ≡ b → (b || list_any (bytes_eq key) (keys_of terms)) ≡ false → (list_any (bytes_eq key) (keys_of terms) ≡ false → info_in key terms ≡ None) → info_in key (t ∷ terms) ≡ None
    go true same n rest = absurd (true≢false n)
    go false apart n rest = ap (λ b. option_map (λ (u : Placed). u.1) (if b then Some t else find (λ (u : Placed). bytes_eq u.0 key) terms)) (turned t.0 key ∙ apart) ∙ rest n

-- a term that living documents have is in a dictionary
own_among : (schema : Schema) (m : Member) (fields : List IndexedField) (field : ℕ) (key : List ℕ) → IsMember schema m fields → 0 < length (living_of m.doc_ids (postings_in fields field key)) → list_any (bytes_eq key) (keys_of (dictionary_in m.inverted_index.now field)) ≡ true
own_among schema m fields field key is some = go (list_any (bytes_eq key) (keys_of (dictionary_in m.inverted_index.now field))) refl
  where
    go : (b : Bool) → list_any (bytes_eq key) (keys_of (dictionary_in m.inverted_index.now field)) ≡ b → b ≡ true
    go true e = refl
    go false e =
        let none = ap (λ ps. length (living_of m.doc_ids ps)) (none_held schema m fields field key is (not_found key (dictionary_in m.inverted_index.now field) e)) in
        absurd (omega (arith, some, none))

pub members_among : (schema : Schema) (next end : ℕ) (ms : List Member) (all : List (List IndexedField)) (field : ℕ) (key : List ℕ) → AreMembers schema next end ms all → 0 < length (merged_in field key ms all) → any_has key (dictionaries_of field ms) ≡ true
members_among schema next end [] all field key are some = absurd (omega (arith, some))
members_among schema next end (m ∷ ms) [] field key are some = absurd are
members_among schema next end (m ∷ ms) (fields ∷ all) field key are some = go (living_of m.doc_ids (postings_in fields field key)) refl (λ rest. members_among schema (end_of m.doc_ids) end ms all field key are.2 rest)
  where
    others : (b : Bool) → (b || true) ≡ true
    others true = refl
    others false = refl

    go : (ps : List Posting) → living_of m.doc_ids (postings_in fields field key) ≡ ps → (0 < length (merged_in field key ms all) → any_has key (dictionaries_of field ms) ≡ true) → any_has key (dictionaries_of field (m ∷ ms)) ≡ true
    go [] none rest =
        let left = ap (λ ps. length (ps ++ merged_in field key ms all)) none in
        ap (λ b. list_any (bytes_eq key) (keys_of (dictionary_in m.inverted_index.now field)) || b) (rest (omega (arith, some, left))) ∙ others (list_any (bytes_eq key) (keys_of (dictionary_in m.inverted_index.now field)))
    go (p ∷ ps) is rest = ap (λ b. b || any_has key (dictionaries_of field ms)) (own_among schema m fields field key are.0 (let long = ap length is in omega (arith, long)))

pub all_among : (schema : Schema) (end : ℕ) (ms : List Member) (all : List (List IndexedField)) (field : ℕ) (key : List ℕ) → AreMembers schema 0 end ms all → 0 < length (merged_in field key ms all) → list_any (bytes_eq key) (keys_told (told_in field (merged_keys (dictionaries_of field ms)) ms all)) ≡ true
all_among schema end ms all field key are some = told_among key field (merged_keys (dictionaries_of field ms)) ms all some (merged_among (dictionaries_of field ms) key ∙ members_among schema 0 end ms all field key are some)

-- ---- a field behind the others

-- the tokens of terms are those that are told
told_tokens : (ts : List IndexedTerm) → sum_by (λ (t : IndexedTerm). sum_by (λ p. p.count) t.postings) ts ≡ tokens_in (map (λ (t : IndexedTerm). (t.key, t.postings)) ts)
told_tokens [] = refl
told_tokens (t ∷ ts) =
    let later = told_tokens ts in
    let a = sum_by-cons (λ (x : IndexedTerm). sum_by (λ p. p.count) x.postings) t ts in
    let b = sum_by-cons (λ (x : List ℕ × List Posting). tokens_of x.1) (t.key, t.postings) (map (λ (x : IndexedTerm). (x.key, x.postings)) ts) in
    omega (arith, later, a, b)

told_keys : (ts : List IndexedTerm) → map (λ (t : IndexedTerm). t.key) ts ≡ keys_told (map (λ (t : IndexedTerm). (t.key, t.postings)) ts)
told_keys [] = refl
told_keys (t ∷ ts) = ap (λ ks. t.key ∷ ks) (told_keys ts)

terms_given : (e : Entry) (ids : List ℕ) (given : List ℕ → List Posting) (ts : List IndexedTerm) → AllByRecursion (IsOf given) (map (λ (t : IndexedTerm). (t.key, t.postings)) ts) → AllByRecursion (λ (t : IndexedTerm). IsSpelled (option_of_key e t.key) ids t) ts → AllByRecursion (IsTermGiven e ids given) ts
terms_given e ids given [] told spelled = tt
terms_given e ids given (t ∷ ts) told spelled = (record { has_postings = told.0.1; postings_are = told.0.0; spelled = spelled.0 }, terms_given e ids given ts told.1 spelled.1)

-- the field that was begun, with the terms that were added, closed
module _ (s now : Sections) (field : ℕ) (e : Entry) (norms : Option (List ℕ)) (w : FieldWriting) (told : Told) (ts : List IndexedTerm) (added : AreAdded e.kind (field_begun s field e.record_option norms) w told ts) (given : List ℕ → List Posting) where
  tokens_are : w.num_tokens ≡ sum_by (λ (t : IndexedTerm). sum_by (λ p. p.count) t.postings) ts
  tokens_are = (let whole = added.tokens in let same = told_tokens ts ∙ ap tokens_in added.told_are in omega (arith, whole, same))

  terms_added : (field_closed w).terms ≡ s.terms ++ flat_map (field_terms_bytes (block_size true)) (field_terms (record { field = field; terms = ts }) ∷ [])
  terms_added =
      spelled_same w.terms.closed s.terms w.field field w.num_tokens (sum_by (λ (t : IndexedTerm). sum_by (λ p. p.count) t.postings) ts) w.terms.num_terms (length (map lengths_of ts)) w.terms.entries (coded_from (block_size true) 0 [] (map lengths_of ts))
      (ap (λ (x : writing.Terms). x.closed) added.terms) added.same.0 tokens_are
      (ap (λ (x : writing.Terms). x.num_terms) added.terms ∙ (let long = length-map ts lengths_of in let P : 0 + length ts ≡ length (map lengths_of ts) = omega arith in P))
      (ap (λ (x : writing.Terms). x.entries) added.terms)
      ∙ regroup s.terms (u32_bytes field) (u64_bytes (sum_by (λ (t : IndexedTerm). sum_by (λ p. p.count) t.postings) ts)) (vint_bytes (length (map lengths_of ts))) (coded_from (block_size true) 0 [] (map lengths_of ts))

  pub field_added : now ≡ field_closed w → AreFieldsAdded s now (record { field = field; terms = ts } ∷ [])
  field_added is = record {
    terms = ap (λ (x : Sections). x.terms) is ∙ terms_added;
    postings = ap (λ (x : Sections). x.postings) is ∙ added.postings ∙ ap (λ xs. s.postings ++ xs) (sym (append-nil (flat_map (λ (t : IndexedTerm). t.postings_bytes) ts)));
    positions = ap (λ (x : Sections). x.positions) is ∙ ap (λ (x : List ℕ × List ℕ). x.0) added.positions ∙ ap (λ xs. s.positions ++ xs) (sym (append-nil (flat_map (λ (t : IndexedTerm). t.positions_bytes) ts)));
  }

  pub field_given : TermsAscend (keys_told told) → AllByRecursion (IsOf given) told → ((key : List ℕ) → 0 < length (given key) → list_any (bytes_eq key) (keys_told told) ≡ true) → IsFieldGiven e (listed norms) given (record { field = field; terms = ts })
  field_given ascend each all =
      let keys = told_keys ts ∙ ap keys_told added.told_are in
      record {
        ascend = subst TermsAscend (sym keys) ascend;
        tokens_fit = subst (λ n. n < 2 ^ 64) tokens_are (added.tokens_fit (omega arith));
        terms_fit = few_terms ts added.terms_fit;
        each_term = terms_given e (listed norms) given ts (subst (AllByRecursion (IsOf given)) (sym added.told_are) each) added.each_spelled;
        all = λ key some. subst (λ ks. list_any (bytes_eq key) ks ≡ true) (sym keys) (all key some);
      }

-- ---- what is refused

tokens_given : (given : List ℕ → List Posting) (told : Told) → AllByRecursion (IsOf given) told → tokens_in told ≡ sum_by (λ key. sum_by (λ (p : Posting). p.count) (given key)) (keys_told told)
tokens_given given [] each = refl
tokens_given given (t ∷ told) each =
    let later = tokens_given given told each.1 in
    let here = ap tokens_of each.0.0 in
    let a = sum_by-cons (λ (x : List ℕ × List Posting). tokens_of x.1) t told in
    let b = sum_by-cons (λ key. sum_by (λ (p : Posting). p.count) (given key)) t.0 (keys_told told) in
    omega (arith, later, here, a, b)

some_given : (given : List ℕ → List Posting) (told : Told) → AllByRecursion (IsOf given) told → AllByRecursion (λ key. 0 < length (given key)) (keys_told told)
some_given given [] each = tt
some_given given (t ∷ told) each = (subst (λ ps. 0 < length ps) each.0.0 each.0.1, some_given given told each.1)

tokens_pass : (given : List ℕ → List Posting) (told : Told) → TermsAscend (keys_told told) → AllByRecursion (IsOf given) told → 2 ^ 64 ≤ tokens_in told → TooMany given
tokens_pass given told ascend each past = record { keys = keys_told told; ascend = ascend; each_key = some_given given told each; many = inr (subst (λ n. 2 ^ 64 ≤ n) (tokens_given given told each) past) }

pub terms_pass : (fault : Fault) (e : Entry) (norms : Option (List ℕ)) (given : List ℕ → List Posting) (told : Told) (was : FieldWriting) → was.terms.num_terms ≡ 0 → was.num_tokens ≡ 0 → was.writing.mode ≡ e.record_option → was.writing.norms ≡ norms → TermsAscend (keys_told told) → AllByRecursion (IsOf given) told → IsTermsRefusal fault e.kind was told → IsFieldRefusal fault (option_of_key e) (listed norms) given
terms_pass fault e norms given told was none empty mode ids ascend each (inl memory) = inl memory
terms_pass fault e norms given told was none empty mode ids ascend each (inr (limit, inl (i, passes))) =
    let r = among (λ (t : List ℕ × List Posting). TermPasses (option_in e.kind was.writing.mode t.0) (listed was.writing.norms) t.1) (IsOf given) told i each passes in
    let one = subst (λ m. TermPasses (option_in e.kind m r.0.0) (listed was.writing.norms) r.0.1) mode r.1 in
    let two = subst (λ o. TermPasses (option_of_key e r.0.0) (listed o) r.0.1) ids one in
    inr (limit, inl (r.0.0, subst (TermPasses (option_of_key e r.0.0) (listed norms)) r.2.0 two))
terms_pass fault e norms given told was none empty mode ids ascend each (inr (limit, inr (inl many))) = inr (limit, inr (record { keys = keys_told told; ascend = ascend; each_key = some_given given told each; many = inl (let long = length-map told (λ (t : List ℕ × List Posting). t.0) in omega (arith, many, none, long)) }))
terms_pass fault e norms given told was none empty mode ids ascend each (inr (limit, inr (inr past))) = inr (limit, inr (tokens_pass given told ascend each (omega (arith, past, empty))))

-- ---- all terms of a field

abbrev given_in : ℕ → List Member → List (List IndexedField) → List ℕ → List Posting
given_in field ms all key = merged_in field key ms all

ascending : (field : ℕ) (ms : List Member) (all : List (List IndexedField)) → TermsAscend (keys_told (told_of_all field ms all))
ascending field ms all = told_ascend field (merged_keys (dictionaries_of field ms)) ms all (keys_ascend (flat_map keys_of (dictionaries_of field ms)))

pub terms_refused : (fault : Fault) (e : Entry) (norms : Option (List ℕ)) (s : Sections) (number field : ℕ) (ms : List Member) (all : List (List IndexedField)) (was : FieldWriting) (kind : Kind) → was ≡ field_begun s number e.record_option norms → kind ≡ e.kind → IsTermsRefusal fault kind was (told_of_all field ms all) → IsFieldRefusal fault (option_of_key e) (listed norms) (given_in field ms all)
terms_refused fault e norms s number field ms all was kind begun kind_is refused =
    terms_pass fault e norms (given_in field ms all) (told_of_all field ms all) was
    (ap (λ (x : FieldWriting). x.terms.num_terms) begun) (ap (λ (x : FieldWriting). x.num_tokens) begun) (ap (λ (x : FieldWriting). x.writing.mode) begun) (ap (λ (x : FieldWriting). x.writing.norms) begun)
    (ascending field ms all) (told_given field (merged_keys (dictionaries_of field ms)) ms all)
    (subst (λ k. IsTermsRefusal fault k was (told_of_all field ms all)) kind_is refused)

pub field_merged : (schema : Schema) (end : ℕ) (e : Entry) (norms : Option (List ℕ)) (s now : Sections) (number field : ℕ) (ms : List Member) (all : List (List IndexedField)) (was w : FieldWriting) (kind : Kind) (ts : List IndexedTerm)
    → AreMembers schema 0 end ms all → number ≡ field → was ≡ field_begun s number e.record_option norms → kind ≡ e.kind
    → AreAdded kind was w (told_of_all field ms all) ts → now ≡ field_closed w
    → (f : IndexedField) × (f.field ≡ field) × IsFieldGiven e (listed norms) (given_in field ms all) f × AreFieldsAdded s now (f ∷ [])
field_merged schema end e norms s now number field ms all was w kind ts are number_is begun kind_is added closed =
    let told = told_of_all field ms all in
    let own : AreAdded e.kind (field_begun s field e.record_option norms) w told ts =
    subst (λ n. AreAdded e.kind (field_begun s n e.record_option norms) w told ts) number_is (subst (λ x. AreAdded e.kind x w told ts) begun (subst (λ k. AreAdded k was w told ts) kind_is added)) in
    let given = given_in field ms all in (
      record { field = field; terms = ts },
      refl,
      field_given s now field e norms w told ts own given (ascending field ms all) (told_given field (merged_keys (dictionaries_of field ms)) ms all) (λ key some. all_among schema end ms all field key are some),
      field_added s now field e norms w told ts own given closed,
    )
