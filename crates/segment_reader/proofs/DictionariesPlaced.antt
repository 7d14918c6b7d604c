-- The dictionaries of fields, as their offsets tell them.
use Rattle.std.proofs.Common.{[], Bool, List, None, Option, Some, ap, ap₂, append_assoc, arith, cond, drop, false, find, length, length-append, map, option_map, refl, subst, suc, sym, take, true, zero, ◌-◌, ◌++◌, ◌+◌, ◌<◌, ◌==◌, ◌≡◌, ◌≤◌, ◌∙◌, ◌∷◌, ◌^◌, ℕ}
use Rattle.std.proofs.Math.Seq.{take-append_seam}
use Rattle.std.proofs.lemmas.Bool.Decides.{nat_tests}
use Rattle.std.specs.List.{AllByRecursion}
use Rattle.std.specs.Option.{option_map_or}
use Rattle.std.specs.Prelude.{bytes_eq, slice_get, slice_range}
use Rattle.definitions.specs.Schema.{Schema}
use Rattle.layouts.specs.Deltas.{IsAscendingFrom}
use Rattle.layouts.specs.InvertedIndexes.{AreSections, IndexedField, IndexedTerm, IsField, field_terms, lengths_of, Sections}
use Rattle.layouts.specs.TermSections.{TermsAscend, Told, block_size}
use Rattle.segment_reader.proofs.ShapesKept.{kept_there, placed_there}
use Rattle.segment_reader.proofs.KindsKnown.{fields_ascend}
use Rattle.segment_reader.proofs.SectionsThere.{fields_fit, sections_there}
use Rattle.segment_reader.proofs.TermBytes.{FieldFits, all_positions, all_postings, end_positions, end_postings, positions_of, postings_of, rest_there, told_of}
use Rattle.segment_reader.specs.Dictionaries.{InfoFits, IsDictionary, Placed, info_from, placed_by}
use Rattle.segment_reader.specs.FieldDictionaries.{EndsBy, IsFound, StandsAt, dictionary_of, placed_from, positions_len, postings_len, terms_in, terms_of_field}
use Rattle.segment_reader.specs.KeptTerms.{IsKeptTerms, placed_terms}
use Rattle.segment_reader.specs.TermPlaces.{AreFields, TermFits, field_end, fields_start, first_in}
use Rattle.segment_reader.specs.ToldFields.{AreTold}
use Rattle.segment_reader.specs.declared.field_index.FieldIndex.{FieldIndex}
use Rattle.segment_reader.proofs.PlacedTerms.{info_in}
use Rattle.front_coding.specs.declared.term_starts.TermStart.{TermStart}

-- ---- the terms of a field

pub terms_placed : (p q : ℕ) (xs : List IndexedTerm) → placed_by p q (told_of xs) ≡ placed_from p q xs
terms_placed p q [] = refl
terms_placed p q (x ∷ xs) = ap (λ ts. (x.key, info_from p q (lengths_of x).1) ∷ ts) (terms_placed (p + length x.postings_bytes) (q + length x.positions_bytes) xs)

-- ---- the fields

dictionary_from : (kind : Bool) (s : Sections) (at : TermStart) (fields : List IndexedField) (told : List FieldIndex) (field : ℕ) → length s.terms < 2 ^ 63 → AreFields (block_size kind) s.terms at (length s.postings) (length s.positions) (map field_terms fields) → AreTold kind at (map field_terms fields) told → terms_of_field s.terms field told ≡ dictionary_of at.postings at.positions field fields
dictionary_from kind s at [] [] field short read are = refl
dictionary_from kind s at [] (i ∷ is) field short read are = absurd are
dictionary_from kind s at (f ∷ fields) [] field short read are = absurd are
dictionary_from kind s at (f ∷ fields) (i ∷ is) field short read are =
    let size = block_size kind in
    let first = first_in at (field_terms f) in
    let end = field_end size at (field_terms f) in
    let own : placed_terms s.terms i.shape ≡ placed_from at.postings at.positions f.terms = placed_there kind s.terms first (length s.postings) (length s.positions) (told_of f.terms) (drop end.entry s.terms) i.shape short are.2.shape read.0.read.terms ∙ terms_placed at.postings at.positions f.terms in
    let later = dictionary_from kind s end fields is field short read.1 are.3 in
    let same = ap₂ (λ p q. dictionary_of p q field fields) (end_postings size first f.terms) (end_positions size first f.terms) in
    ap (λ n. option_map_or (λ (j : FieldIndex). placed_terms s.terms j.shape) (cond (n == field) (Some i) (find (λ (j : FieldIndex). j.kind.field == field) is)) []) are.0 ∙ go (f.field == field) own (later ∙ same)
  where
    go : (b : Bool) → placed_terms s.terms i.shape ≡ placed_from at.postings at.positions f.terms → terms_of_field s.terms field is ≡ dictionary_of (at.postings + postings_len f) (at.positions + positions_len f) field fields → option_map_or (λ (j : FieldIndex). placed_terms s.terms j.shape) (cond b (Some i) (find (λ (j : FieldIndex). j.kind.field == field) is)) [] ≡ cond b (placed_from at.postings at.positions f.terms) (dictionary_of (at.postings + postings_len f) (at.positions + positions_len f) field fields)
    go true own later = own
    go false own later = later

-- what is kept of a field that is found
kept_from : (kind : Bool) (s : Sections) (at : TermStart) (fields : List IndexedField) (told : List FieldIndex) (field : ℕ) (i : FieldIndex) → length s.terms < 2 ^ 63 → length s.postings < 2 ^ 63 → length s.positions < 2 ^ 63 → AreFields (block_size kind) s.terms at (length s.postings) (length s.positions) (map field_terms fields) → AreTold kind at (map field_terms fields) told → find (λ (j : FieldIndex). j.kind.field == field) told ≡ Some i → IsKeptTerms s.terms i.shape i.starts.items
kept_from kind s at [] [] field i short a b read are found = absurd cc
kept_from kind s at [] (j ∷ js) field i short a b read are found = absurd are
kept_from kind s at (f ∷ fields) [] field i short a b read are found = absurd are
kept_from kind s at (f ∷ fields) (j ∷ js) field i short a b read are found =
    let end = field_end (block_size kind) at (field_terms f) in
    let own = kept_there kind s.terms (first_in at (field_terms f)) (length s.postings) (length s.positions) (told_of f.terms) (drop end.entry s.terms) j short a b read.0.header.terms_fit are.2 read.0.read.terms in
    go (j.kind.field == field) found own (kept_from kind s end fields js field i short a b read.1 are.3)
  where
    index_or : FieldIndex → Option FieldIndex → FieldIndex
    index_or d None = d
    index_or d (Some k) = k

    go : (t : Bool) → cond t (Some j) (find (λ (k : FieldIndex). k.kind.field == field) js) ≡ Some i → IsKeptTerms s.terms j.shape j.starts.items → (find (λ (k : FieldIndex). k.kind.field == field) js ≡ Some i → IsKeptTerms s.terms i.shape i.starts.items) → IsKeptTerms s.terms i.shape i.starts.items
    go true same own later = subst (λ (k : FieldIndex). IsKeptTerms s.terms k.shape k.starts.items) (ap (index_or j) same) own
    go false same own later = later same

-- ---- dictionaries

-- a dictionary, whose terms' postings and positions end within sections of `p` and `q` bytes
pub record IsDictionaryWithin (p q : ℕ) (terms : List Placed) : Type 0 where
  pub is : IsDictionary terms
  pub within : AllByRecursion (λ (t : Placed). EndsBy p q t.1) terms

keys_placed : (p q : ℕ) (xs : List IndexedTerm) → map (λ (t : Placed). t.0) (placed_from p q xs) ≡ map (λ (x : IndexedTerm). x.key) xs
keys_placed p q [] = refl
keys_placed p q (x ∷ xs) = ap (λ keys. x.key ∷ keys) (keys_placed (p + length x.postings_bytes) (q + length x.positions_bytes) xs)

length_placed : (p q : ℕ) (xs : List IndexedTerm) → length (placed_from p q xs) ≡ length xs
length_placed p q [] = refl
length_placed p q (x ∷ xs) = ap suc (length_placed (p + length x.postings_bytes) (q + length x.positions_bytes) xs)

placed_within : (p q first second : ℕ) (xs : List IndexedTerm) → p + length (postings_of xs) ≤ first → q + length (positions_of xs) ≤ second → AllByRecursion (λ (t : Placed). EndsBy first second t.1) (placed_from p q xs)
placed_within p q first second [] a b = tt
placed_within p q first second (x ∷ xs) a b =
    let c = length-append x.postings_bytes (postings_of xs) in
    let d = length-append x.positions_bytes (positions_of xs) in
    (record { postings = omega (arith, a, c); positions = omega (arith, b, d) }, placed_within (p + length x.postings_bytes) (q + length x.positions_bytes) first second xs (omega (arith, a, c)) (omega (arith, b, d)))

placed_fit : (p q first second : ℕ) (xs : List IndexedTerm) → first < 2 ^ 63 → second < 2 ^ 63 → AllByRecursion (λ (t : Told). TermFits t.1) (told_of xs) → AllByRecursion (λ (t : Placed). EndsBy first second t.1) (placed_from p q xs) → AllByRecursion (λ (t : Placed). InfoFits t.1) (placed_from p q xs)
placed_fit p q first second [] a b fits within = tt
placed_fit p q first second (x ∷ xs) a b fits within =
    let c = within.0.postings in
    let d = within.0.positions in
    (record { docs = fits.0.doc_freq_fits; postings = omega (arith, a, c); positions = omega (arith, b, d) }, placed_fit (p + length x.postings_bytes) (q + length x.positions_bytes) first second xs a b fits.1 within.1)

dictionary_within : (schema : Schema) (num_docs : ℕ) (norms : List (ℕ × List ℕ)) (p q first second field : ℕ) (fields : List IndexedField) → first < 2 ^ 63 → second < 2 ^ 63 → AllByRecursion (IsField schema num_docs norms) fields → AllByRecursion FieldFits (map field_terms fields) → p + length (all_postings fields) ≤ first → q + length (all_positions fields) ≤ second → IsDictionaryWithin first second (dictionary_of p q field fields)
dictionary_within schema num_docs norms p q first second field [] a b each fits c d = record { is = record { ascend = tt; count_fits = omega arith; fit = tt }; within = tt }
dictionary_within schema num_docs norms p q first second field (f ∷ fields) a b each fits c d =
    let e = length-append (postings_of f.terms) (all_postings fields) in
    let g = length-append (positions_of f.terms) (all_positions fields) in
    let ends = placed_within p q first second f.terms (omega (arith, c, e)) (omega (arith, d, g)) in
    let long = length_placed p q f.terms in
    let few = each.0.terms_fit in
    let own : IsDictionaryWithin first second (placed_from p q f.terms) = record {
      is = record { ascend = subst TermsAscend (sym (keys_placed p q f.terms)) each.0.ascend; count_fits = omega (arith, long, few); fit = placed_fit p q first second f.terms a b fits.0.fit ends };
      within = ends;
    } in
    go (f.field == field) own (dictionary_within schema num_docs norms (p + postings_len f) (q + positions_len f) first second field fields a b each.1 fits.1 (omega (arith, c, e)) (omega (arith, d, g)))
  where
    go : (t : Bool) → IsDictionaryWithin first second (placed_from p q f.terms) → IsDictionaryWithin first second (dictionary_of (p + postings_len f) (q + positions_len f) field fields) → IsDictionaryWithin first second (cond t (placed_from p q f.terms) (dictionary_of (p + postings_len f) (q + positions_len f) field fields))
    go true own later = own
    go false own later = later

-- ---- the field of an index

number_above : (told : List FieldIndex) (least n : ℕ) (i : FieldIndex) → IsAscendingFrom least (map (λ (j : FieldIndex). j.kind.field) told) → slice_get told n ≡ Some i → least ≤ i.kind.field
number_above [] least n i ascending at = absurd cc
number_above (j ∷ js) least zero i ascending at = (let same = ap (λ o. option_map_or (λ (k : FieldIndex). k.kind.field) o 0) at in let order = ascending.0 in omega (arith, same, order))
number_above (j ∷ js) least (suc n) i ascending at = (let later = number_above js (j.kind.field + 1) n i ascending.1 at in let order = ascending.0 in omega (arith, later, order))

-- the field at an index is found by its number
pub found_by_number : (told : List FieldIndex) (least n : ℕ) (i : FieldIndex) → IsAscendingFrom least (map (λ (j : FieldIndex). j.kind.field) told) → slice_get told n ≡ Some i → find (λ (j : FieldIndex). j.kind.field == i.kind.field) told ≡ Some i
found_by_number [] least n i ascending at = at
found_by_number (j ∷ js) least zero i ascending at =
    let same = ap (λ o. option_map_or (λ (k : FieldIndex). k.kind.field) o 0) at in
    let test : (j.kind.field == i.kind.field) ≡ true = grind (arith, nat_tests, same) in
    ap (λ b. cond b (Some j) (find (λ (k : FieldIndex). k.kind.field == i.kind.field) js)) test ∙ at
found_by_number (j ∷ js) least (suc n) i ascending at =
    let above = number_above js (j.kind.field + 1) n i ascending.1 at in
    let test : (j.kind.field == i.kind.field) ≡ false = grind (arith, nat_tests, above) in
    ap (λ b. cond b (Some j) (find (λ (k : FieldIndex). k.kind.field == i.kind.field) js)) test ∙ found_by_number js (j.kind.field + 1) n i ascending.1 at

numbers_told : (kind : Bool) (at : TermStart) (fields : List IndexedField) (told : List FieldIndex) → AreTold kind at (map field_terms fields) told → map (λ (j : FieldIndex). j.kind.field) told ≡ map (λ (f : IndexedField). f.field) fields
numbers_told kind at [] [] are = refl
numbers_told kind at [] (i ∷ is) are = absurd are
numbers_told kind at (f ∷ fields) [] are = absurd are
numbers_told kind at (f ∷ fields) (i ∷ is) are = ap₂ (λ (n : ℕ) ns. n ∷ ns) are.0 (numbers_told kind (field_end (block_size kind) at (field_terms f)) fields is are.3)

-- ---- the bytes of a term

range_there : (n : ℕ) (xs a b : List ℕ) → drop n xs ≡ a ++ b → slice_range xs n (n + length a) ≡ a
range_there n xs a b is = (let count : n + length a - n ≡ length a = omega arith in ap (λ k. take k (drop n xs)) count ∙ ap (take (length a)) is ∙ take-append_seam a b)

abbrev term_of : List ℕ → List IndexedTerm → Option IndexedTerm
term_of key xs = find (λ (x : IndexedTerm). bytes_eq x.key key) xs

term_stands : (s : Sections) (p q : ℕ) (key : List ℕ) (xs : List IndexedTerm) (postings positions : List ℕ) → drop p s.postings ≡ postings_of xs ++ postings → drop q s.positions ≡ positions_of xs ++ positions → IsFound s (info_in key (placed_from p q xs)) (term_of key xs)
term_stands s p q key [] postings positions a b = tt
term_stands s p q key (x ∷ xs) postings positions a b =
    let first : drop p s.postings ≡ x.postings_bytes ++ (postings_of xs ++ postings) = a ∙ append_assoc x.postings_bytes (postings_of xs) postings in
    let second : drop q s.positions ≡ x.positions_bytes ++ (positions_of xs ++ positions) = b ∙ append_assoc x.positions_bytes (positions_of xs) positions in
    let here : StandsAt s (info_from p q (lengths_of x).1) x = record {
      docs = refl;
      postings = range_there p s.postings x.postings_bytes (postings_of xs ++ postings) first;
      positions = range_there q s.positions x.positions_bytes (positions_of xs ++ positions) second;
    } in
    go (bytes_eq x.key key) here (term_stands s (p + length x.postings_bytes) (q + length x.positions_bytes) key xs postings positions (rest_there p s.postings x.postings_bytes (postings_of xs ++ postings) first) (rest_there q s.positions x.positions_bytes (positions_of xs ++ positions) second))
  where
    go : (t : Bool) → StandsAt s (info_from p q (lengths_of x).1) x → IsFound s (info_in key (placed_from (p + length x.postings_bytes) (q + length x.positions_bytes) xs)) (term_of key xs) → IsFound s (option_map (λ (t : Placed). t.1) (cond t (Some (x.key, info_from p q (lengths_of x).1)) (find (λ (t : Placed). bytes_eq t.0 key) (placed_from (p + length x.postings_bytes) (q + length x.positions_bytes) xs)))) (cond t (Some x) (term_of key xs))
    go true here rest = here
    go false here rest = rest

stands_from : (s : Sections) (p q field : ℕ) (key : List ℕ) (fields : List IndexedField) → drop p s.postings ≡ all_postings fields → drop q s.positions ≡ all_positions fields → IsFound s (info_in key (dictionary_of p q field fields)) (term_of key (terms_in field fields))
stands_from s p q field key [] a b = tt
stands_from s p q field key (f ∷ fields) a b =
    go (f.field == field)
    (term_stands s p q key f.terms (all_postings fields) (all_positions fields) a b)
    (stands_from s (p + postings_len f) (q + positions_len f) field key fields (rest_there p s.postings (postings_of f.terms) (all_postings fields) a) (rest_there q s.positions (positions_of f.terms) (all_positions fields) b))
  where
    go : (t : Bool) → IsFound s (info_in key (placed_from p q f.terms)) (term_of key f.terms) → IsFound s (info_in key (dictionary_of (p + postings_len f) (q + positions_len f) field fields)) (term_of key (terms_in field fields)) → IsFound s (info_in key (cond t (placed_from p q f.terms) (dictionary_of (p + postings_len f) (q + positions_len f) field fields))) (term_of key (cond t f.terms (terms_in field fields)))
    go true here rest = here
    go false here rest = rest

-- ---- of the sections

module _ (schema : Schema) (num_docs : ℕ) (norms : List (ℕ × List ℕ)) (fields : List IndexedField) (s : Sections) (short : length s.terms < 2 ^ 63) (first : length s.postings < 2 ^ 63) (second : length s.positions < 2 ^ 63) (few : num_docs < 2 ^ 32) (are : AreSections schema num_docs norms fields s.terms s.postings s.positions) where
  all_fit : AllByRecursion FieldFits (map field_terms fields)
  all_fit = fields_fit schema num_docs norms fields few (let long = ap length are.postings_are in omega (arith, first, long)) (let long = ap length are.positions_are in omega (arith, second, long)) are.each_field

  -- what is kept of a field gives its dictionary
  pub dictionary_found : (told : List FieldIndex) (field : ℕ) → AreTold are.terms_are.0 fields_start (map field_terms fields) told → terms_of_field s.terms field told ≡ dictionary_of 0 0 field fields
  dictionary_found told field told_are = dictionary_from are.terms_are.0 s fields_start fields told field short (sections_there schema num_docs norms fields s short first second few are).fields told_are

  -- its terms stand in the section
  pub terms_kept : (told : List FieldIndex) (field : ℕ) (i : FieldIndex) → AreTold are.terms_are.0 fields_start (map field_terms fields) told → find (λ (j : FieldIndex). j.kind.field == field) told ≡ Some i → IsKeptTerms s.terms i.shape i.starts.items
  terms_kept told field i told_are found = kept_from are.terms_are.0 s fields_start fields told field i short first second (sections_there schema num_docs norms fields s short first second few are).fields told_are found

  -- so the offsets of any field that is kept give its own
  pub dictionary_at : (told : List FieldIndex) (n : ℕ) (i : FieldIndex) → AreTold are.terms_are.0 fields_start (map field_terms fields) told → slice_get told n ≡ Some i → placed_terms s.terms i.shape ≡ dictionary_of 0 0 i.kind.field fields
  dictionary_at told n i told_are at =
      let numbers = numbers_told are.terms_are.0 fields_start fields told told_are ∙ are.names in
      let found = found_by_number told 0 n i (subst (IsAscendingFrom 0) (sym numbers) (fields_ascend schema)) at in
      sym (ap (λ o. option_map_or (λ (j : FieldIndex). placed_terms s.terms j.shape) o []) found) ∙ dictionary_found told i.kind.field told_are

  -- which is a dictionary within the sections
  pub is_dictionary : (field : ℕ) → IsDictionaryWithin (length s.postings) (length s.positions) (dictionary_of 0 0 field fields)
  is_dictionary field = dictionary_within schema num_docs norms 0 0 (length s.postings) (length s.positions) field fields first second are.each_field all_fit (let long = ap length are.postings_are in omega (arith, long)) (let long = ap length are.positions_are in omega (arith, long))

-- what is found in a field's dictionary by a key is where that term's bytes stand
pub term_found : (schema : Schema) (num_docs : ℕ) (norms : List (ℕ × List ℕ)) (fields : List IndexedField) (s : Sections) (field : ℕ) (key : List ℕ) → AreSections schema num_docs norms fields s.terms s.postings s.positions → IsFound s (option_map (λ (t : Placed). t.1) (find (λ (t : Placed). bytes_eq t.0 key) (dictionary_of 0 0 field fields))) (find (λ (x : IndexedTerm). bytes_eq x.key key) (terms_in field fields))
term_found schema num_docs norms fields s field key are = stands_from s 0 0 field key fields are.postings_are are.positions_are
