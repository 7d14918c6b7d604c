-- The postings of a term, where its info tells of them.
use Rattle.std.proofs.Common.{[], Bool, List, None, Option, Some, ap, ap₂, arith, bytes_eq, cond, false, find, length, map, refl, subst, sym, true, ◌+◌, ◌==◌, ◌≡◌, ◌≤◌, ◌∙◌, ◌∷◌, ℕ}
use Rattle.std.proofs.Math.Logic.{∥∥₁_elim}
use Rattle.std.proofs.Props.{props}
use Rattle.std.proofs.lemmas.Bool.Decides.{nat_tests}
use Rattle.std.proofs.lemmas.Slice.Eq.{bytes_eq-Decides}
use Rattle.std.specs.List.{AllByRecursion}
use Rattle.std.specs.Option.{option_map_or}
use Rattle.std.specs.Prelude.{slice_range}
use Rattle.definitions.proofs.Lists.{map_some as some_found}
use Rattle.segment_postings.specs.Placed.{term_of}
use Rattle.definitions.specs.Analyzers.{Analyzer}
use Rattle.definitions.specs.Postings.{Posting, postings}
use Rattle.definitions.specs.Schema.{IndexRecordOption, Schema}
use Rattle.definitions.specs.Terms.{field_of, payload_of}
use Rattle.definitions.specs.Values.{Document}
use Rattle.layouts.specs.InvertedIndexes.{IndexedField, IndexedTerm, IsField, IsTerm, field_ids, option_of_term, term_of_key}
use Rattle.layouts.specs.SkipEntries.{SkipEntry}
use Rattle.layouts.specs.TermPostings.{bound_in}
use Rattle.segment_reader.proofs.DictionariesPlaced.{is_dictionary, term_found}
use Rattle.segment_reader.proofs.DocumentIds.{bounds_are}
use Rattle.segment_reader.proofs.GivenPostings.{given_held}
use Rattle.segment_reader.proofs.KindsKnown.{IsKind, kinds_known, same_option}
use Rattle.segment_reader.proofs.ReaderCalls.{dictionary_is}
use Rattle.segment_reader.proofs.TermsHeld.{all_of_told, found_all}
use Rattle.segment_reader.specs.Dictionaries.{Placed, placed_by}
use Rattle.segment_reader.specs.KeptTerms.{placed_terms, told_in}
use Rattle.segment_reader.specs.FieldDictionaries.{EndsBy, IsFound, StandsAt, terms_in}
use Rattle.segment_reader.specs.FieldKinds.{option_in}
use Rattle.segment_reader.specs.NewCursors.{Posted, posted, posted_in}
use Rattle.segment_reader.specs.OpenedTerms.{HasTerm, entries_of_postings}
use Rattle.segment_reader.specs.Readers.{AreOfDocuments, Contents, IsInfo, Reader, dictionary_in, full_bounds, index_in, info_in, postings_held, postings_in, term_held, term_in}
use Rattle.segment_reader.specs.declared.field_index.FieldIndex.{FieldIndex}
use Rattle.segment_reader.specs.declared.term_info.TermInfo.{TermInfo}
use Rattle.layouts.specs.TermSections.{Told}

-- ---- what is found

-- ---- ranges

orders : (p q : ℕ) (ts : List Told) → AllByRecursion (λ (t : Placed). (t.1.postings_range.start ≤ t.1.postings_range.end) × (t.1.positions_range.start ≤ t.1.positions_range.end)) (placed_by p q ts)
orders p q [] = tt
orders p q (t ∷ ts) = ((omega arith, omega arith), orders (p + t.1.postings_len) (q + t.1.positions_len) ts)

in_order : (section : List ℕ) (o : Option FieldIndex) → AllByRecursion (λ (t : Placed). (t.1.postings_range.start ≤ t.1.postings_range.end) × (t.1.positions_range.start ≤ t.1.positions_range.end)) (option_map_or (λ (i : FieldIndex). placed_terms section i.shape) o [])
in_order section None = tt
in_order section (Some i) = orders i.shape.first.postings i.shape.first.positions (told_in section i.shape)

IsInfo-prop : (r : Reader) (info : TermInfo) → IsProp (IsInfo r info)
IsInfo-prop r info = hlevel props

pub is_info : (r : Reader) (field : ℕ) (key : List ℕ) (info : TermInfo) → ∥ Contents r ∥₁ → info_in key (dictionary_in r field) ≡ Some info → IsInfo r info
is_info r field key info known is = ∥∥₁_elim known (IsInfo-prop r info) (λ contents.
    let reader = contents.is_reader in
    let docs = reader.docs_few in
    let found = some_found (λ (t : Placed). t.1) (find (λ (t : Placed). bytes_eq t.0 key) (dictionary_in r field)) info is in
    let order = (found_all (λ (t : Placed). (t.1.postings_range.start ≤ t.1.postings_range.end) × (t.1.positions_range.start ≤ t.1.positions_range.end)) (λ (t : Placed). bytes_eq t.0 key) (dictionary_in r field) found.0 (in_order r.sections.terms (index_in field r.indexes)) found.1).0 in
    let known_2 = is_dictionary contents.schema contents.num_docs contents.norms contents.fields r.sections reader.terms_short reader.postings_short reader.positions_short (omega (arith, docs)) reader.sections field in
    let all = subst (AllByRecursion (λ (t : Placed). EndsBy (length r.sections.postings) (length r.sections.positions) t.1)) (sym (dictionary_is r field contents)) known_2.within in
    let ends = (found_all (λ (t : Placed). EndsBy (length r.sections.postings) (length r.sections.positions) t.1) (λ (t : Placed). bytes_eq t.0 key) (dictionary_in r field) found.0 all found.1).0 in
    subst (IsInfo r) found.2 (record { postings_order = order.0; postings_end = ends.postings; positions_order = order.1; positions_end = ends.positions }))

-- ---- terms

abbrev IsIndexedTerm : Schema → ℕ → List (ℕ × List ℕ) → ℕ → IndexedTerm → Type 0
IsIndexedTerm schema n norms field x = IsTerm (option_of_term schema (term_of_key schema field x.key)) n (field_ids norms field) x

all_terms : (schema : Schema) (n : ℕ) (norms : List (ℕ × List ℕ)) (field : ℕ) (fields : List IndexedField) → AllByRecursion (IsField schema n norms) fields → AllByRecursion (IsIndexedTerm schema n norms field) (terms_in field fields)
all_terms schema n norms field [] each = tt
all_terms schema n norms field (f ∷ fields) each = go (f.field == field) refl (all_terms schema n norms field fields each.1)
  where
    go : (b : Bool) → (f.field == field) ≡ b → AllByRecursion (IsIndexedTerm schema n norms field) (terms_in field fields) → AllByRecursion (IsIndexedTerm schema n norms field) (cond b f.terms (terms_in field fields))
    go true is rest = (let same : f.field ≡ field = grind (arith, nat_tests, is) in subst (λ k. AllByRecursion (IsIndexedTerm schema n norms k) f.terms) same each.0.each_term)
    go false is rest = rest

-- the term of an info
record TermOf (r : Reader) (field : ℕ) (key : List ℕ) (info : TermInfo) (contents : Contents r) : Type 0 where
  term : IndexedTerm
  found : term_in contents.fields field key ≡ Some term
  stands : StandsAt r.sections info term
  is : IsTerm (option_of_term contents.schema (term_of_key contents.schema field key)) contents.num_docs (field_ids contents.norms field) term

stands_there : (r : Reader) (info : TermInfo) (o : Option IndexedTerm) → IsFound r.sections (Some info) o → (x : IndexedTerm) × (o ≡ Some x) × StandsAt r.sections info x
stands_there r info None found = absurd found
stands_there r info (Some x) found = (x, refl, found)

term_is : (r : Reader) (field : ℕ) (key : List ℕ) (info : TermInfo) (contents : Contents r) → info_in key (dictionary_in r field) ≡ Some info → TermOf r field key info contents
term_is r field key info contents is =
    let reader = contents.is_reader in
    let same = ap (info_in key) (sym (dictionary_is r field contents)) ∙ is in
    let found = subst (λ o. IsFound r.sections o (term_in contents.fields field key)) same (term_found contents.schema contents.num_docs contents.norms contents.fields r.sections field key reader.sections) in
    let there = stands_there r info (term_in contents.fields field key) found in
    let all = found_all (IsIndexedTerm contents.schema contents.num_docs contents.norms field) (λ (x : IndexedTerm). bytes_eq x.key key) (terms_in field contents.fields) there.0 (all_terms contents.schema contents.num_docs contents.norms field contents.fields reader.sections.each_field) there.1 in
    let own : there.0.key ≡ key = (bytes_eq-Decides there.0.key key).0 all.1 in
    record {
      term = there.0;
      found = there.1;
      stands = there.2;
      is = subst (λ k. IsTerm (option_of_term contents.schema (term_of_key contents.schema field k)) contents.num_docs (field_ids contents.norms field) there.0) own all.0;
    }

-- ---- what is recorded

option_is : (r : Reader) (field : ℕ) (key : List ℕ) (contents : Contents r) (i : FieldIndex) → index_in field r.indexes ≡ Some i → option_in i.kind key ≡ option_of_term contents.schema (term_of_key contents.schema field key)
option_is r field key contents i found =
    let known = all_of_told (IsKind contents.schema) r.indexes (kinds_known contents.schema (map (λ (j : FieldIndex). j.kind) r.indexes) contents.is_reader.schema_fits contents.is_reader.kinds) in
    let all = found_all (λ (j : FieldIndex). IsKind contents.schema j.kind) (λ (j : FieldIndex). j.kind.field == field) r.indexes i known found in
    let number : i.kind.field ≡ field = (let test = all.1 in grind (arith, nat_tests, test)) in
    same_option contents.schema i.kind key all.0 ∙ ap (λ n. option_of_term contents.schema (term_of_key contents.schema n key)) number

-- a field with an info is indexed
index_there : (r : Reader) (field : ℕ) (key : List ℕ) (info : TermInfo) (o : Option FieldIndex) → index_in field r.indexes ≡ o → info_in key (dictionary_in r field) ≡ Some info → (i : FieldIndex) × (index_in field r.indexes ≡ Some i)
index_there r field key info (Some i) found is = (i, found)
index_there r field key info None found is =
    let none : ◌≡◌ {A = Option TermInfo} None (Some info) = sym (ap (λ (o : Option FieldIndex). info_in key (option_map_or (λ i. placed_terms r.sections.terms i.shape) o [])) found) ∙ is in
    absurd cc

-- what is recorded of a term
pub option_told : (r : Reader) (field : ℕ) (key : List ℕ) (info : TermInfo) (contents : Contents r) (option : IndexRecordOption) → info_in key (dictionary_in r field) ≡ Some info → ((i : FieldIndex) → index_in field r.indexes ≡ Some i → option ≡ option_in i.kind key) → option ≡ option_of_term contents.schema (term_of_key contents.schema field key)
option_told r field key info contents option is recorded =
    let index = index_there r field key info (index_in field r.indexes) refl is in
    recorded index.0 index.1 ∙ option_is r field key contents index.0 index.1

-- a term, with its bytes as they are lent
pub told_term : (r : Reader) (field : ℕ) (key : List ℕ) (info : TermInfo) (contents : Contents r) (option : IndexRecordOption) (postings positions : List ℕ) → info_in key (dictionary_in r field) ≡ Some info → ((i : FieldIndex) → index_in field r.indexes ≡ Some i → option ≡ option_in i.kind key) → postings ≡ slice_range r.sections.postings info.postings_range.start info.postings_range.end → positions ≡ slice_range r.sections.positions info.positions_range.start info.positions_range.end → IsTerm option contents.num_docs (field_ids contents.norms field) (term_of (postings_in contents.fields field key) postings positions) × (length (postings_in contents.fields field key) ≡ info.doc_freq)
told_term r field key info contents option postings positions is recorded first second =
    let t = term_is r field key info contents is in
    let same = option_told r field key info contents option is recorded in
    let ps : postings_in contents.fields field key ≡ t.term.postings = ap (λ (o : Option IndexedTerm). option_map_or (λ x. x.postings) o []) t.found in
    let here = t.is in
    let own : IsTerm (option_of_term contents.schema (term_of_key contents.schema field key)) contents.num_docs (field_ids contents.norms field) (term_of t.term.postings t.term.postings_bytes t.term.positions_bytes) = record { has_postings = here.has_postings; each_posting = here.each_posting; postings_are = here.postings_are; positions_are = here.positions_are } in
    let bytes = sym t.stands.postings ∙ sym first in
    let same_positions = sym t.stands.positions ∙ sym second in
    let lent : IsTerm option contents.num_docs (field_ids contents.norms field) (term_of (postings_in contents.fields field key) postings positions) = subst (λ o. IsTerm o contents.num_docs (field_ids contents.norms field) (term_of (postings_in contents.fields field key) postings positions)) (sym same) (subst (λ xs. IsTerm (option_of_term contents.schema (term_of_key contents.schema field key)) contents.num_docs (field_ids contents.norms field) (term_of xs postings positions)) (sym ps) (subst (λ b. IsTerm (option_of_term contents.schema (term_of_key contents.schema field key)) contents.num_docs (field_ids contents.norms field) (term_of t.term.postings postings b)) same_positions (subst (λ b. IsTerm (option_of_term contents.schema (term_of_key contents.schema field key)) contents.num_docs (field_ids contents.norms field) (term_of t.term.postings b t.term.positions_bytes)) bytes own))) in
    (lent, ap length ps ∙ sym t.stands.docs)

abbrev pub has_term : (r : Reader) (field : ℕ) (key : List ℕ) (info : TermInfo) (contents : Contents r) (option : IndexRecordOption) (postings positions : List ℕ) → info_in key (dictionary_in r field) ≡ Some info → ((i : FieldIndex) → index_in field r.indexes ≡ Some i → option ≡ option_in i.kind key) → postings ≡ slice_range r.sections.postings info.postings_range.start info.postings_range.end → positions ≡ slice_range r.sections.positions info.positions_range.start info.positions_range.end → HasTerm option info.doc_freq postings positions (postings_in contents.fields field key)
has_term r field key info contents option postings positions is recorded first second = let t = told_term r field key info contents option postings positions is recorded first second in record { num_docs = contents.num_docs; ids = field_ids contents.norms field; is_term = t.0; many = t.1 }

-- ---- a term that was looked up

abbrev posted_as : Schema → List (ℕ × List ℕ) → ℕ → List ℕ → List ℕ → List Posting → Posted
posted_as schema norms n t u ps = record { postings = ps; option = option_of_term schema u; ids = field_ids norms (field_of t); num_docs = n }

-- it is the same by its bytes
pub posted_same : (r : Reader) (contents : Contents r) (t : List ℕ) (field : ℕ) (key : List ℕ) → field ≡ field_of t → key ≡ payload_of t → term_of_key contents.schema (field_of t) (payload_of t) ≡ t → term_held contents.schema contents.fields t ≡ term_in contents.fields (field_of t) (payload_of t) → posted_in contents field key ≡ posted contents t
posted_same r contents t field key number value whole same =
    ap₂ (λ n k. posted_in contents n k) number value
    ∙ ap (λ u. posted_as contents.schema contents.norms contents.num_docs t u (postings_in contents.fields (field_of t) (payload_of t))) whole
    ∙ ap (λ (o : Option IndexedTerm). posted_as contents.schema contents.norms contents.num_docs t t (option_map_or (λ x. x.postings) o [])) (sym same)

-- and the bounds that they tell, where the terms are those of documents
pub bounds_held : (r : Reader) (contents : Contents r) (t : List ℕ) (entries : List SkipEntry) (analyze : Analyzer) (docs : List Document) → AreOfDocuments r contents analyze docs → entries ≡ entries_of_postings (option_of_term contents.schema t) (field_ids contents.norms (field_of t)) (postings_held contents.schema contents.fields t) → map bound_in entries ≡ full_bounds contents.schema analyze t docs
bounds_held r contents t entries analyze docs are is =
    ap (map bound_in) is
    ∙ bounds_are contents.schema analyze (option_of_term contents.schema t) t docs contents.norms (postings_held contents.schema contents.fields t) are.norms_are (given_held (λ u. postings contents.schema analyze u docs) contents.schema contents.fields t are.indexed)
