-- Sections that were read and checked are as they are defined.
use Rattle.std.proofs.Common.{[], Bool, List, Some, ap, ap₂, append-nil, append_assoc, arith, drop, flat_map, length, length-drop, map, refl, subst, sym, take, true, unwrap_or, ◌++◌, ◌+◌, ◌-◌, ◌<◌, ◌≡◌, ◌≤◌, ◌∙◌, ◌∷◌, ◌^◌, ℕ}
use Rattle.std.proofs.lemmas.List.{drop-drop, drop_all, length-map, length-take-le, take-append-drop}
use Rattle.std.specs.List.{AllByRecursion}
use Rattle.std.specs.Prelude.{slice_get}
use Rattle.front_coding.proofs.BlockLoop.{positions_grow, postings_grow}
use Rattle.front_coding.specs.BlockPlaces.{positions_end, postings_end}
use Rattle.definitions.proofs.Ranking.{All_weaker}
use Rattle.definitions.specs.Schema.{Schema, max_fields}
use Rattle.layouts.specs.InvertedIndexes.{AreSections, IndexedField, IndexedTerm, IsField, IsTerm, field_ids, field_terms, indexed_fields, lengths_of, num_tokens, option_of_term, term_of_key, Sections}
use Rattle.layouts.specs.TermSections.{FieldTerms, TermsAscend, Told, block_size, coded_terms, field_terms_bytes, kind_byte, terms_bytes}
use Rattle.segment_definitions.specs.Keys.{AreKeyed, is_key_of}
use Rattle.segment_reader.proofs.KindsKnown.{IsKind, kind_numbers, kinds_known, same_key, same_option}
use Rattle.segment_reader.proofs.SectionsThere.{keys_told}
use Rattle.segment_reader.proofs.ShapesKept.{placed_there}
use Rattle.segment_reader.proofs.TermBytes.{all_positions, all_postings, positions_of, postings_of, told_of}
use Rattle.segment_reader.specs.CheckedTerms.{AreCheckedFields, AreTermsAt, IsCheckedField, IsCheckedTerm, fields_with}
use Rattle.segment_reader.specs.Dictionaries.{placed_by}
use Rattle.segment_reader.specs.FieldKinds.{kinds_of, shown}
use Rattle.segment_reader.specs.TermPlaces.{AreFields, IsReadField, IsSection, field_end, fields_end, fields_start, first_in, header_of}
use Rattle.segment_reader.specs.ToldFields.{AreTold}
use Rattle.segment_reader.specs.declared.field_index.FieldIndex.{FieldIndex}
use Rattle.segment_reader.specs.declared.field_kind.FieldKind.{FieldKind}
use Rattle.front_coding.specs.declared.term_starts.TermStart.{TermStart}

-- ---- terms

-- bytes that were taken, and what follows them
taken_and_rest : (n k : ℕ) (xs : List ℕ) → drop n xs ≡ take k (drop n xs) ++ drop (n + k) xs
taken_and_rest n k xs = sym (take-append-drop k (drop n xs)) ∙ ap (λ ys. take k (drop n xs) ++ ys) (drop-drop k n xs)

taken_long : (n k : ℕ) (xs : List ℕ) → n + k ≤ length xs → length (take k (drop n xs)) ≡ k
taken_long n k xs within = length-take-le k (drop n xs) (omega (arith, within, length-drop n xs))

-- terms with their bytes are those that the section tells of, and their bytes stand in their sections
pub record TermsRead (s : Sections) (p q : ℕ) (ts : List Told) (xs : List IndexedTerm) : Type 0 where
  pub told_are : told_of xs ≡ ts
  pub postings_are : drop p s.postings ≡ postings_of xs ++ drop (postings_end p ts) s.postings
  pub positions_are : drop q s.positions ≡ positions_of xs ++ drop (positions_end q ts) s.positions

pub terms_read : (s : Sections) (p q : ℕ) (ts : List Told) (xs : List IndexedTerm) → postings_end p ts ≤ length s.postings → positions_end q ts ≤ length s.positions → AreTermsAt s (placed_by p q ts) xs → TermsRead s p q ts xs
terms_read s p q [] [] p_end q_end there = record { told_are = refl; postings_are = refl; positions_are = refl }
terms_read s p q [] (x ∷ xs) p_end q_end there = absurd there
terms_read s p q (t ∷ ts) [] p_end q_end there = absurd there
terms_read s p q (t ∷ ts) (x ∷ xs) p_end q_end there =
    let a : p + t.1.postings_len - p ≡ t.1.postings_len = omega arith in
    let b : q + t.1.positions_len - q ≡ t.1.positions_len = omega arith in
    let is : x ≡ record { key = t.0; postings = x.postings; postings_bytes = take t.1.postings_len (drop p s.postings); positions_bytes = take t.1.positions_len (drop q s.positions) } = there.0 ∙ ap₂ (λ n m. record { key = t.0; postings = x.postings; postings_bytes = take n (drop p s.postings); positions_bytes = take m (drop q s.positions) }) a b in
    let docs : length x.postings ≡ t.1.doc_freq = there.1 in
    let p_grow = postings_grow (p + t.1.postings_len) ts in
    let q_grow = positions_grow (q + t.1.positions_len) ts in
    let p_long = taken_long p t.1.postings_len s.postings (omega (arith, p_grow, p_end)) in
    let q_long = taken_long q t.1.positions_len s.positions (omega (arith, q_grow, q_end)) in
    let told : lengths_of x ≡ t =
    ap lengths_of is
    ∙ ap (λ n. (t.0, record { doc_freq = n; postings_len = length (take t.1.postings_len (drop p s.postings)); positions_len = length (take t.1.positions_len (drop q s.positions)) })) docs
    ∙ ap (λ n. (t.0, record { doc_freq = t.1.doc_freq; postings_len = n; positions_len = length (take t.1.positions_len (drop q s.positions)) })) p_long
    ∙ ap (λ n. (t.0, record { doc_freq = t.1.doc_freq; postings_len = t.1.postings_len; positions_len = n })) q_long in
    let later = terms_read s (p + t.1.postings_len) (q + t.1.positions_len) ts xs p_end q_end there.2 in
    record {
      told_are = ap₂ (λ (y : Told) ys. y ∷ ys) told later.told_are;
      postings_are =
          taken_and_rest p t.1.postings_len s.postings
          ∙ ap₂ (λ ys zs. ys ++ zs) (ap (λ (y : IndexedTerm). y.postings_bytes) (sym is)) later.postings_are
          ∙ sym (append_assoc x.postings_bytes (postings_of xs) (drop (postings_end p (t ∷ ts)) s.postings));
      positions_are =
          taken_and_rest q t.1.positions_len s.positions
          ∙ ap₂ (λ ys zs. ys ++ zs) (ap (λ (y : IndexedTerm). y.positions_bytes) (sym is)) later.positions_are
          ∙ sym (append_assoc x.positions_bytes (positions_of xs) (drop (positions_end q (t ∷ ts)) s.positions));
    }

-- ---- fields

pub record FieldsRead (kind : Bool) (schema : Schema) (num_docs : ℕ) (norms : List (ℕ × List ℕ)) (s : Sections) (at : TermStart) (fs : List FieldTerms) (fields : List IndexedField) : Type 0 where
  pub told_are : map field_terms fields ≡ fs
  pub postings_are : drop at.postings s.postings ≡ all_postings fields ++ drop (fields_end (block_size kind) at fs).postings s.postings
  pub positions_are : drop at.positions s.positions ≡ all_positions fields ++ drop (fields_end (block_size kind) at fs).positions s.positions
  pub each : AllByRecursion (IsField schema num_docs norms) fields

-- a field of the definition
field_read : (kind : Bool) (schema : Schema) (num_docs : ℕ) (norms : List (ℕ × List ℕ)) (s : Sections) (at end : TermStart) (p q : ℕ) (f : FieldTerms) (i : FieldIndex) (xs : List IndexedTerm) → IsKind schema i.kind → IsReadField (block_size kind) s.terms at p q f end → i.num_tokens ≡ f.num_tokens → told_of xs ≡ f.terms → IsCheckedField s num_docs (field_ids norms i.kind.field) i xs → IsField schema num_docs norms (record { field = i.kind.field; terms = xs })
field_read kind schema num_docs norms s at end p q f i xs known read tokens told checked =
    let fit = read.header.tokens_fit in
    let count = checked.tokens_are in
    let few = read.header.terms_fit in
    let many = ap length told in
    let long = length-map xs lengths_of in
    record {
      ascend = subst TermsAscend (ap (map (λ (t : Told). t.0)) (sym told) ∙ keys_told xs) read.read.terms.ascend;
      terms_fit = omega (arith, few, many, long);
      tokens_fit = omega (arith, fit, tokens, count);
      each_term = All_weaker (IsCheckedTerm i.kind num_docs (field_ids norms i.kind.field)) (λ (x : IndexedTerm). IsTerm (option_of_term schema (term_of_key schema i.kind.field x.key)) num_docs (field_ids norms i.kind.field) x) (λ x term. subst (λ option. IsTerm option num_docs (field_ids norms i.kind.field) x) (same_option schema i.kind x.key known) term.is_term) xs checked.each_term;
    }

pub fields_read : (kind : Bool) (schema : Schema) (num_docs : ℕ) (norms : List (ℕ × List ℕ)) (s : Sections) (at : TermStart) (fs : List FieldTerms) (told : List FieldIndex) (xss : List (List IndexedTerm)) → length s.terms < 2 ^ 63 → AllByRecursion (IsKind schema) (map (λ (i : FieldIndex). i.kind) told) → AreFields (block_size kind) s.terms at (length s.postings) (length s.positions) fs → AreTold kind at fs told → AreCheckedFields s num_docs norms told xss → FieldsRead kind schema num_docs norms s at fs (fields_with told xss)
fields_read kind schema num_docs norms s at [] [] [] short known fields are checked = record { told_are = refl; postings_are = refl; positions_are = refl; each = tt }
fields_read kind schema num_docs norms s at [] [] (xs ∷ xss) short known fields are checked = absurd checked
fields_read kind schema num_docs norms s at [] (i ∷ is) xss short known fields are checked = absurd are
fields_read kind schema num_docs norms s at (f ∷ fs) [] xss short known fields are checked = absurd are
fields_read kind schema num_docs norms s at (f ∷ fs) (i ∷ is) [] short known fields are checked = absurd checked
fields_read kind schema num_docs norms s at (f ∷ fs) (i ∷ is) (xs ∷ xss) short known fields are checked =
    let first = first_in at f in
    let size = block_size kind in
    let placed = placed_there kind s.terms first (length s.postings) (length s.positions) f.terms (drop (field_end size at f).entry s.terms) i.shape short are.2.shape fields.0.read.terms in
    let here = terms_read s at.postings at.positions f.terms xs fields.0.read.terms.postings_end fields.0.read.terms.positions_end (subst (λ ts. AreTermsAt s ts xs) placed checked.0.terms_are) in
    let later = fields_read kind schema num_docs norms s (field_end size at f) fs is xss short known.1 fields.1 are.3 checked.1 in
    let tokens : num_tokens (record { field = i.kind.field; terms = xs }) ≡ f.num_tokens = checked.0.tokens_are ∙ are.1 in
    let same : field_terms (record { field = i.kind.field; terms = xs }) ≡ f =
    ap (λ n. record { field = n; num_tokens = num_tokens (record { field = i.kind.field; terms = xs }); terms = told_of xs }) are.0
    ∙ ap (λ n. record { field = f.field; num_tokens = n; terms = told_of xs }) tokens
    ∙ ap (λ ts. record { field = f.field; num_tokens = f.num_tokens; terms = ts }) here.told_are in
    let end = fields_end size (field_end size at f) fs in
    record {
      told_are = ap₂ (λ (g : FieldTerms) gs. g ∷ gs) same later.told_are;
      postings_are = here.postings_are ∙ ap (λ ys. postings_of xs ++ ys) later.postings_are ∙ sym (append_assoc (postings_of xs) (all_postings (fields_with is xss)) (drop end.postings s.postings));
      positions_are = here.positions_are ∙ ap (λ ys. positions_of xs ++ ys) later.positions_are ∙ sym (append_assoc (positions_of xs) (all_positions (fields_with is xss)) (drop end.positions s.positions));
      each = (field_read kind schema num_docs norms s at (field_end size at f) (length s.postings) (length s.positions) f i xs known.0 fields.0 are.1 here.told_are checked.0, later.each);
    }

-- ---- the section of terms

fields_spelled : (size : ℕ) (section : List ℕ) (at : TermStart) (p q : ℕ) (fs : List FieldTerms) → AreFields size section at p q fs → drop at.entry section ≡ flat_map (field_terms_bytes size) fs ++ drop (fields_end size at fs).entry section
fields_spelled size section at p q [] fields = refl
fields_spelled size section at p q (f ∷ fs) fields =
    let h = header_of f in
    let ts = coded_terms size f.terms in
    let later = fields_spelled size section (field_end size at f) p q fs fields.1 in
    let rest = drop (field_end size at f).entry section in
    let one : drop at.entry section ≡ field_terms_bytes size f ++ rest = fields.0.header.spelled ∙ ap (λ xs. h ++ xs) fields.0.read.terms.spelled ∙ sym (append_assoc h ts rest) in
    one ∙ ap (λ xs. field_terms_bytes size f ++ xs) later ∙ sym (append_assoc (field_terms_bytes size f) (flat_map (field_terms_bytes size) fs) (drop (fields_end size (field_end size at f) fs).entry section))

first_and_rest : (xs : List ℕ) (n : ℕ) → slice_get xs 0 ≡ Some n → xs ≡ n ∷ drop 1 xs
first_and_rest [] n is = absurd cc
first_and_rest (x ∷ xs) n is = ap (λ o. unwrap_or o x ∷ xs) is

none_left : (n : ℕ) (xs ys : List ℕ) → n ≡ length xs → ys ++ drop n xs ≡ ys
none_left n xs ys end = ap (λ zs. ys ++ zs) (drop_all n xs (omega (arith, end))) ∙ append-nil ys

-- the section is that of the fields that were read
pub section_spelled : (kind : Bool) (section : List ℕ) (p q : ℕ) (numbers : List ℕ) (fs : List FieldTerms) → IsSection kind section p q numbers fs → section ≡ terms_bytes kind fs
section_spelled kind section p q numbers fs whole =
    let size = block_size kind in
    first_and_rest section (kind_byte kind) whole.kind
    ∙ ap (λ xs. kind_byte kind ∷ xs) (fields_spelled size section fields_start p q fs whole.fields ∙ none_left (fields_end size fields_start fs).entry section (flat_map (field_terms_bytes size) fs) (ap (λ (e : TermStart). e.entry) whole.ends))

-- ---- the fields' numbers

numbers_with : (s : Sections) (num_docs : ℕ) (norms : List (ℕ × List ℕ)) (told : List FieldIndex) (xss : List (List IndexedTerm)) → AreCheckedFields s num_docs norms told xss → map (λ (f : IndexedField). f.field) (fields_with told xss) ≡ map (λ (k : FieldKind). k.field) (map (λ (i : FieldIndex). i.kind) told)
numbers_with s num_docs norms [] [] checked = refl
numbers_with s num_docs norms [] (xs ∷ xss) checked = absurd checked
numbers_with s num_docs norms (i ∷ is) [] checked = absurd checked
numbers_with s num_docs norms (i ∷ is) (xs ∷ xss) checked = ap (λ ns. i.kind.field ∷ ns) (numbers_with s num_docs norms is xss checked.1)

-- sections that were read and checked are as they are defined
pub sections_read : (kind : Bool) (schema : Schema) (num_docs : ℕ) (norms : List (ℕ × List ℕ)) (s : Sections) (fs : List FieldTerms) (told : List FieldIndex) (xss : List (List IndexedTerm)) → length s.terms < 2 ^ 63 → length schema ≤ max_fields → IsSection kind s.terms (length s.postings) (length s.positions) (indexed_fields schema) fs → AreTold kind fields_start fs told → map shown (map (λ (i : FieldIndex). i.kind) told) ≡ kinds_of schema → AreCheckedFields s num_docs norms told xss → AreSections schema num_docs norms (fields_with told xss) s.terms s.postings s.positions
sections_read kind schema num_docs norms s fs told xss short small whole are kinds checked =
    let fields = fields_with told xss in
    let ks = map (λ (i : FieldIndex). i.kind) told in
    let read = fields_read kind schema num_docs norms s fields_start fs told xss short (kinds_known schema ks small kinds) whole.fields are checked in
    record {
      names = numbers_with s num_docs norms told xss checked ∙ kind_numbers schema ks kinds;
      each_field = read.each;
      terms_are = (kind, section_spelled kind s.terms (length s.postings) (length s.positions) (indexed_fields schema) fs whole ∙ ap (terms_bytes kind) (sym read.told_are));
      postings_are = read.postings_are ∙ none_left (fields_end (block_size kind) fields_start fs).postings s.postings (all_postings fields) (ap (λ (e : TermStart). e.postings) whole.ends);
      positions_are = read.positions_are ∙ none_left (fields_end (block_size kind) fields_start fs).positions s.positions (all_positions fields) (ap (λ (e : TermStart). e.positions) whole.ends);
    }

-- what is told of the fields that were read is told of those with their terms
pub told_fields : (kind : Bool) (schema : Schema) (num_docs : ℕ) (norms : List (ℕ × List ℕ)) (s : Sections) (fs : List FieldTerms) (told : List FieldIndex) (xss : List (List IndexedTerm)) → length s.terms < 2 ^ 63 → length schema ≤ max_fields → IsSection kind s.terms (length s.postings) (length s.positions) (indexed_fields schema) fs → AreTold kind fields_start fs told → map shown (map (λ (i : FieldIndex). i.kind) told) ≡ kinds_of schema → AreCheckedFields s num_docs norms told xss → (AreTold kind fields_start (map field_terms (fields_with told xss)) told) × (map field_terms (fields_with told xss) ≡ fs)
told_fields kind schema num_docs norms s fs told xss short small whole are kinds checked =
    let ks = map (λ (i : FieldIndex). i.kind) told in
    let read = fields_read kind schema num_docs norms s fields_start fs told xss short (kinds_known schema ks small kinds) whole.fields are checked in
    (subst (λ gs. AreTold kind fields_start gs told) (sym read.told_are) are, read.told_are)

pub told_read : (kind : Bool) (schema : Schema) (num_docs : ℕ) (norms : List (ℕ × List ℕ)) (s : Sections) (fs : List FieldTerms) (told : List FieldIndex) (xss : List (List IndexedTerm)) (short : length s.terms < 2 ^ 63) (small : length schema ≤ max_fields) (whole : IsSection kind s.terms (length s.postings) (length s.positions) (indexed_fields schema) fs) (are : AreTold kind fields_start fs told) (kinds : map shown (map (λ (i : FieldIndex). i.kind) told) ≡ kinds_of schema) (checked : AreCheckedFields s num_docs norms told xss) → AreTold (sections_read kind schema num_docs norms s fs told xss short small whole are kinds checked).terms_are.0 fields_start (map field_terms (fields_with told xss)) told
unfolding sections_read
told_read kind schema num_docs norms s fs told xss short small whole are kinds checked = (told_fields kind schema num_docs norms s fs told xss short small whole are kinds checked).0

-- ---- keys

keyed_from : (schema : Schema) (num_docs : ℕ) (norms : List (ℕ × List ℕ)) (s : Sections) (told : List FieldIndex) (xss : List (List IndexedTerm)) → AllByRecursion (IsKind schema) (map (λ (i : FieldIndex). i.kind) told) → AreCheckedFields s num_docs norms told xss → AreKeyed schema (fields_with told xss)
keyed_from schema num_docs norms s [] [] known checked = tt
keyed_from schema num_docs norms s [] (xs ∷ xss) known checked = absurd checked
keyed_from schema num_docs norms s (i ∷ is) [] known checked = absurd checked
keyed_from schema num_docs norms s (i ∷ is) (xs ∷ xss) known checked = (
  All_weaker (IsCheckedTerm i.kind num_docs (field_ids norms i.kind.field)) (λ (x : IndexedTerm). is_key_of schema i.kind.field x.key ≡ true) (λ x term. sym (same_key schema i.kind x.key known.0) ∙ term.keyed) xs checked.0.each_term,
  keyed_from schema num_docs norms s is xss known.1 checked.1,
)

-- the terms of checked fields have the bytes of values of these
pub keys_read : (schema : Schema) (num_docs : ℕ) (norms : List (ℕ × List ℕ)) (s : Sections) (told : List FieldIndex) (xss : List (List IndexedTerm)) → length schema ≤ max_fields → map shown (map (λ (i : FieldIndex). i.kind) told) ≡ kinds_of schema → AreCheckedFields s num_docs norms told xss → AreKeyed schema (fields_with told xss)
keys_read schema num_docs norms s told xss small kinds checked = keyed_from schema num_docs norms s told xss (kinds_known schema (map (λ (i : FieldIndex). i.kind) told) small kinds) checked
