-- What is read of the terms that begin with a prefix, where a reader stands for documents.
use Rattle.std.proofs.Common.{[], Bool, List, None, Option, Some, ap, arith, bytes_eq, false, if◌then◌else◌, length, map, nat_eq, refl, subst, sym, take, true, ◌==◌, ◌≡◌, ◌≤◌, ◌∙◌, ◌∷◌, ℕ}
use Rattle.std.proofs.lemmas.Bool.Decides.{nat_tests}
use Rattle.std.proofs.lemmas.Slice.Eq.{bytes_eq-Decides}
use Rattle.std.specs.List.{AllByRecursion, starts_with}
use Rattle.std.specs.Option.{option_map_or}
use Rattle.definitions.proofs.Lists.{take_whole as all_taken}
use Rattle.definitions.proofs.TokenTexts.{each_kept as all_filtered}
use Rattle.docsets.specs.Entries.{Entry}
use Rattle.definitions.specs.Analyzers.{Analyzer}
use Rattle.definitions.specs.KeptLengths.{norms_of}
use Rattle.definitions.specs.Postings.{Posting, postings}
use Rattle.definitions.specs.Schema.{Schema}
use Rattle.definitions.specs.Terms.{field_of, payload_of}
use Rattle.definitions.specs.Values.{Document}
use Rattle.segment_reader.proofs.DictionariesPlaced.{term_found}
use Rattle.segment_reader.proofs.ReaderCalls.{dictionary_is}
use Rattle.segment_reader.proofs.TermsHeld.{found_all}
use Rattle.segment_reader.specs.Dictionaries as dictionaries
use Rattle.segment_reader.specs.FieldDictionaries.{IsFound, terms_in}
use Rattle.segment_reader.specs.Readers.{dictionary_in, info_in, postings_in, term_in}
use Rattle.segment_reader.specs.declared.term_info.TermInfo.{TermInfo}
use Rattle.layouts.specs.InvertedIndexes.{HasPostingsOf, IndexedField, IndexedTerm, term_of_key}
use Rattle.leaf_weights.proofs.PrefixTerms.{all_found, ascend_in}
use Rattle.leaf_weights.proofs.TermsTogether.{read_from}
use Rattle.leaf_weights.specs.ReadTerms.{with_positions}
use Rattle.leaf_weights.specs.Suffixes.{read_places, suffix_places}
use Rattle.segment_reader.specs.SegmentReaders.{StandsFor, index_of}
use Rattle.segment_reader.specs.declared.segment_reader.SegmentReader.{SegmentReader}
use Rattle.leaf_weights.proofs.TermsFound.{contents_of}

-- the terms of a field have the postings that are given
all_given : (given : List ℕ → List Posting) (schema : Schema) (field : ℕ) (fields : List IndexedField) → AllByRecursion (HasPostingsOf given schema) fields → AllByRecursion (λ (x : IndexedTerm). x.postings ≡ given (term_of_key schema field x.key)) (terms_in field fields)
all_given given schema field [] each = tt
all_given given schema field (f ∷ fields) each = go (f.field == field) refl (all_given given schema field fields each.1)
  where
    go : (b : Bool) → (f.field == field) ≡ b → AllByRecursion (λ (x : IndexedTerm). x.postings ≡ given (term_of_key schema field x.key)) (terms_in field fields) → AllByRecursion (λ (x : IndexedTerm). x.postings ≡ given (term_of_key schema field x.key)) (if b then f.terms else terms_in field fields)
    go true is rest = (let same : f.field ≡ field = grind (arith, nat_tests, is) in subst (λ k. AllByRecursion (λ (x : IndexedTerm). x.postings ≡ given (term_of_key schema k x.key)) f.terms) same each.0)
    go false is rest = rest

module _ (schema : Schema) (analyze : Analyzer) (docs : List Document) (r : SegmentReader) (stands : StandsFor schema analyze docs r) (field : ℕ) where
  abbrev given : List ℕ → List Posting
  given u = postings schema analyze u docs

  posted : (key : List ℕ) (info : TermInfo) → info_in key (dictionary_in (index_of r) field) ≡ Some info → postings_in stands.fields field key ≡ given (term_of_key schema field key)
  posted key info is = go (term_in stands.fields field key) refl (subst (λ o. IsFound (index_of r).sections o (term_in stands.fields field key)) (ap (info_in key) (sym (dictionary_is (index_of r) field (contents_of schema analyze docs r stands))) ∙ is) (term_found schema (length docs) (norms_of schema analyze docs) stands.fields (index_of r).sections field key stands.reads.sections))
    where
      go : (o : Option IndexedTerm) → term_in stands.fields field key ≡ o → IsFound (index_of r).sections (Some info) o → postings_in stands.fields field key ≡ given (term_of_key schema field key)
      go None found there = absurd there
      go (Some x) found there =
          let all = found_all (λ (y : IndexedTerm). y.postings ≡ given (term_of_key schema field y.key)) (λ (y : IndexedTerm). bytes_eq y.key key) (terms_in field stands.fields) x (all_given given schema field stands.fields stands.indexed.each_field) found in
          ap (λ (o : Option IndexedTerm). option_map_or (λ y. y.postings) o []) found
          ∙ all.0
          ∙ ap (λ k. given (term_of_key schema field k)) ((bytes_eq-Decides x.key key).0 all.1)

  read_each : (places : List dictionaries.Placed) → AllByRecursion (λ (d : dictionaries.Placed). info_in d.0 (dictionary_in (index_of r) field) ≡ Some d.1) places → read_places stands.fields field places ≡ map (read_from schema analyze 0 docs) (map (λ (d : dictionaries.Placed). term_of_key schema field d.0) places)
  read_each [] all = refl
  read_each (d ∷ ds) all = ap (λ ps. with_positions ps ∷ read_places stands.fields field ds) (posted d.0 d.1 all.0) ∙ ap (λ ess. read_from schema analyze 0 docs (term_of_key schema field d.0) ∷ ess) (read_each ds all.1)

-- where the limit leaves none out, all terms that begin with the prefix are read
pub suffixes_read : (schema : Schema) (analyze : Analyzer) (docs : List Document) (r : SegmentReader) (stands : StandsFor schema analyze docs r) (t : List ℕ) (limit : ℕ) (ess : List (List Entry)) → length (suffix_places (index_of r) t) ≤ limit → ess ≡ read_places stands.fields (field_of t) (take limit (suffix_places (index_of r) t)) → ess ≡ map (read_from schema analyze 0 docs) (map (λ (d : dictionaries.Placed). term_of_key schema (field_of t) d.0) (suffix_places (index_of r) t))
suffixes_read schema analyze docs r stands t limit ess few is =
    is
    ∙ ap (read_places stands.fields (field_of t)) (all_taken limit (suffix_places (index_of r) t) few)
    ∙ read_each schema analyze docs r stands (field_of t) (suffix_places (index_of r) t) (all_filtered (λ (d : dictionaries.Placed). info_in d.0 (dictionary_in (index_of r) (field_of t)) ≡ Some d.1) (λ (d : dictionaries.Placed). starts_with nat_eq d.0 (payload_of t)) (dictionary_in (index_of r) (field_of t)) (all_found (dictionary_in (index_of r) (field_of t)) (ascend_in r (field_of t))))
