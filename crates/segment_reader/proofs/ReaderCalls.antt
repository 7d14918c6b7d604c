-- What the calls of a reader find.
use Rattle.std.proofs.Common.{[], Bool, Bor, IfSome, List, None, Option, Some, ap, arith, cond, find, length, map, option_map, refl, subst, sym, true, false, ◌<◌, ◌==◌, ◌≡◌, ◌≤◌, ◌∙◌, ◌∷◌, ◌^◌, ℕ}
use Rattle.std.proofs.Math.Logic.{∥∥₁_elim, ∥∥₁_map}
use Rattle.std.proofs.Props.{props}
use Rattle.std.specs.Option.{option_map_or}
use Rattle.definitions.specs.Schema.{Kind}
use Rattle.definitions.specs.Terms.{field_of, payload_of, term_bytes, type_code}
use Rattle.layouts.specs.Deltas.{IsAscendingFrom}
use Rattle.layouts.specs.InvertedIndexes.{IndexedField, field_terms, num_tokens, term_of_key}
use Rattle.layouts.specs.TermSections.{block_size}
use Rattle.terms.proofs.TermParts.{code_same, same_code}
use Rattle.terms.specs.Kinds.{kind_of}
use Rattle.segment_reader.proofs.DictionariesPlaced.{dictionary_found, is_dictionary, term_found, terms_kept}
use Rattle.segment_reader.proofs.KindsKnown.{fields_ascend}
use Rattle.segment_reader.proofs.TermsHeld.{none_held, own_bytes, same_held, same_numbers, some_same}
use Rattle.segment_reader.specs.Dictionaries.{Placed}
use Rattle.segment_reader.specs.KeptTerms.{IsKeptTerms, placed_terms}
use Rattle.segment_reader.specs.FieldDictionaries.{IsFound, dictionary_of}
use Rattle.segment_reader.specs.Readers.{Contents, HasKind, Reader, dictionary_in, index_in, info_in, term_held, term_in, tokens_held}
use Rattle.segment_reader.specs.TermPlaces.{field_end, fields_start}
use Rattle.segment_reader.specs.ToldFields.{AreTold}
use Rattle.segment_reader.specs.declared.field_index.FieldIndex.{FieldIndex}
use Rattle.segment_reader.specs.declared.term_info.TermInfo.{TermInfo}
use Rattle.front_coding.specs.declared.term_starts.TermStart.{TermStart}
use Rattle.layouts.proofs.Lists.{IsAscendingFrom-prop}

pub indexes_ascend : (r : Reader) → ∥ Contents r ∥₁ → IsAscendingFrom 0 (map (λ (i : FieldIndex). i.kind.field) r.indexes)
indexes_ascend r known = ∥∥₁_elim known (IsAscendingFrom-prop 0 (map (λ (i : FieldIndex). i.kind.field) r.indexes)) (λ contents. subst (IsAscendingFrom 0) (sym (same_numbers contents.is_reader.sections.terms_are.0 fields_start contents.fields r.indexes contents.is_reader.told ∙ contents.is_reader.sections.names)) (fields_ascend contents.schema))

-- the dictionary of a field
pub dictionary_is : (r : Reader) (field : ℕ) (contents : Contents r) → dictionary_in r field ≡ dictionary_of 0 0 field contents.fields
dictionary_is r field contents =
    let is = contents.is_reader in
    let docs = is.docs_few in
    dictionary_found contents.schema contents.num_docs contents.norms contents.fields r.sections is.terms_short is.postings_short is.positions_short (omega (arith, docs)) is.sections r.indexes field is.told

-- which has no more terms than a u32 can count
pub few_terms : (r : Reader) (field : ℕ) → ∥ Contents r ∥₁ → length (dictionary_in r field) ≤ 4294967295
few_terms r field known = ∥∥₁_elim known (let few : IsProp (length (dictionary_in r field) ≤ 4294967295) = hlevel props in few) (λ contents.
    let is = contents.is_reader in
    let docs = is.docs_few in
    let dictionary = is_dictionary contents.schema contents.num_docs contents.norms contents.fields r.sections is.terms_short is.postings_short is.positions_short (omega (arith, docs)) is.sections field in
    subst (λ ts. length ts ≤ 4294967295) (sym (dictionary_is r field contents)) dictionary.is.count_fits)

pub field_kept : (r : Reader) (field : ℕ) (i : FieldIndex) → index_in field r.indexes ≡ Some i → Contents r → IsKeptTerms r.sections.terms i.shape i.starts.items
field_kept r field i found contents =
    let is = contents.is_reader in
    let docs = is.docs_few in
    terms_kept contents.schema contents.num_docs contents.norms contents.fields r.sections is.terms_short is.postings_short is.positions_short (omega (arith, docs)) is.sections r.indexes field i is.told found

-- how many tokens a field has
tokens_from : (kind : Bool) (at : TermStart) (fields : List IndexedField) (told : List FieldIndex) (field : ℕ) → AreTold kind at (map field_terms fields) told → option_map_or (λ (i : FieldIndex). i.num_tokens) (index_in field told) 0 ≡ tokens_held fields field
tokens_from kind at [] [] field are = refl
tokens_from kind at [] (i ∷ is) field are = absurd are
tokens_from kind at (f ∷ fields) [] field are = absurd are
tokens_from kind at (f ∷ fields) (i ∷ is) field are =
    ap (λ n. option_map_or (λ (j : FieldIndex). j.num_tokens) (cond (n == field) (Some i) (index_in field is)) 0) are.0 ∙ go (f.field == field) (tokens_from kind (field_end (block_size kind) at (field_terms f)) fields is field are.3)
  where
    go : (b : Bool) → option_map_or (λ (j : FieldIndex). j.num_tokens) (index_in field is) 0 ≡ tokens_held fields field → option_map_or (λ (j : FieldIndex). j.num_tokens) (cond b (Some i) (index_in field is)) 0 ≡ option_map_or num_tokens (cond b (Some f) (find (λ (g : IndexedField). g.field == field) fields)) 0
    go true rest = are.1
    go false rest = rest

pub tokens_are : (r : Reader) (field : ℕ) (contents : Contents r) → option_map_or (λ (i : FieldIndex). i.num_tokens) (index_in field r.indexes) 0 ≡ tokens_held contents.fields field
tokens_are r field contents = tokens_from contents.is_reader.sections.terms_are.0 fields_start contents.fields r.indexes field contents.is_reader.told

-- a field that is found by a call, with the starts that are lent from it
pub found_index : (r : Reader) (field : ℕ) (o : Option (Bor FieldIndex)) (index : Bor FieldIndex) → option_map (λ (b : Bor FieldIndex). b.now) o ≡ index_in field r.indexes → o ≡ Some index → index_in field r.indexes ≡ Some index.now
found_index r field o index told is = sym told ∙ ap (option_map (λ (b : Bor FieldIndex). b.now)) is

pub none_index : (r : Reader) (field : ℕ) (o : Option (Bor FieldIndex)) → option_map (λ (b : Bor FieldIndex). b.now) o ≡ index_in field r.indexes → o ≡ None → index_in field r.indexes ≡ None
none_index r field o told is = sym told ∙ ap (option_map (λ (b : Bor FieldIndex). b.now)) is

pub lent_dictionary : (r s : Reader) (field : ℕ) (i : FieldIndex) (bytes : List ℕ) (starts : List TermStart) → s ≡ r → bytes ≡ s.sections.terms → starts ≡ i.starts.items → index_in field r.indexes ≡ Some i → ∥ Contents s ∥₁ → ∥ IsKeptTerms bytes i.shape starts ∥₁
lent_dictionary r s field i bytes starts same lent lent_starts found known =
    ∥∥₁_map known (λ contents. subst (λ b. IsKeptTerms b i.shape starts) (sym (lent ∙ ap (λ (x : Reader). x.sections.terms) same)) (subst (λ ss. IsKeptTerms r.sections.terms i.shape ss) (sym lent_starts) (field_kept r field i found (subst Contents same contents))))

pub dictionary_lent : (r s : Reader) (field : ℕ) (i : FieldIndex) (bytes : List ℕ) (terms : List Placed) → s ≡ r → bytes ≡ s.sections.terms → index_in field r.indexes ≡ Some i → terms ≡ placed_terms bytes i.shape → terms ≡ dictionary_in r field
dictionary_lent r s field i bytes terms same lent found is =
    is
    ∙ ap (λ b. placed_terms b i.shape) (lent ∙ ap (λ (x : Reader). x.sections.terms) same)
    ∙ ap (λ (o : Option FieldIndex). option_map_or (λ j. placed_terms r.sections.terms j.shape) o []) (sym found)

pub no_dictionary : (r : Reader) (field : ℕ) (terms : List Placed) → index_in field r.indexes ≡ None → terms ≡ [] → terms ≡ dictionary_in r field
no_dictionary r field terms none is = is ∙ ap (λ (o : Option FieldIndex). option_map_or (λ j. placed_terms r.sections.terms j.shape) o []) (sym none)

-- whether the values of a field that is found are of a kind
pub of_kind : (r : Reader) (field : ℕ) (o : Option (Bor FieldIndex)) (index : Bor FieldIndex) (kind : Kind) (x y : ℕ) → option_map (λ (b : Bor FieldIndex). b.now) o ≡ index_in field r.indexes → o ≡ Some index → type_code (kind_of index.now.kind.value_type) ≡ x ∷ [] → type_code kind ≡ y ∷ [] → (x ≡ y → HasKind r field kind) × (HasKind r field kind → x ≡ y)
of_kind r field o index kind x y told is first second =
    let found = found_index r field o index told is in (
      (λ codes. record { index = index.now; found = found; kind_is = some_same (kind_of index.now.kind.value_type) kind (same_code (kind_of index.now.kind.value_type) kind x y first second codes) }),
      (λ has. code_same (kind_of index.now.kind.value_type) kind x y first second (ap (option_map (λ (i : FieldIndex). kind_of i.kind.value_type)) (sym found ∙ has.found) ∙ ap Some has.kind_is)),
    )

pub no_kind : (r : Reader) (field : ℕ) (o : Option (Bor FieldIndex)) (kind : Kind) → option_map (λ (b : Bor FieldIndex). b.now) o ≡ index_in field r.indexes → o ≡ None → HasKind r field kind → ⊥
no_kind r field o kind told is has =
    let none : ◌≡◌ {A = Option FieldIndex} None (Some has.index) = sym (none_index r field o told is) ∙ has.found in
    absurd cc

-- what is found in the dictionary of a term's field
pub own_info : (o : Option TermInfo) (key : List ℕ) (terms : List Placed) → o ≡ info_in key terms → IfSome o (λ info. info_in key terms ≡ Some info)
own_info None key terms is = tt
own_info (Some info) key terms is = sym is

pub for_some : {P : Type 0} (o : Option TermInfo) → P → IfSome o (λ info. P)
for_some None p = tt
for_some (Some info) p = p

pub info_of_held : (r : Reader) (t : List ℕ) (kind : Kind) (contents : Contents r) (o : Option TermInfo) → t ≡ term_bytes (field_of t) kind (payload_of t) → field_of t < 2 ^ 32 → HasKind r (field_of t) kind → o ≡ info_in (payload_of t) (dictionary_in r (field_of t)) → IsFound r.sections o (term_held contents.schema contents.fields t)
info_of_held r t kind contents o whole small has is =
    let reader = contents.is_reader in
    let held = same_held contents.schema contents.num_docs contents.norms contents.fields r t kind reader whole small has in
    let found = term_found contents.schema contents.num_docs contents.norms contents.fields r.sections (field_of t) (payload_of t) reader.sections in
    subst (λ x. IsFound r.sections o x) (sym held) (subst (λ x. IsFound r.sections x (term_in contents.fields (field_of t) (payload_of t))) (sym (is ∙ ap (info_in (payload_of t)) (dictionary_is r (field_of t) contents))) found)

pub none_found : (r : Reader) (t : List ℕ) (kind : Kind) (contents : Contents r) → t ≡ term_bytes (field_of t) kind (payload_of t) → field_of t < 2 ^ 32 → (HasKind r (field_of t) kind → ⊥) → IsFound r.sections None (term_held contents.schema contents.fields t)
none_found r t kind contents whole small none = subst (IsFound r.sections None) (sym (none_held contents.schema contents.num_docs contents.norms contents.fields r t kind contents.is_reader whole small none)) tt

pub same_term : (r : Reader) (t : List ℕ) (kind : Kind) (contents : Contents r) → t ≡ term_bytes (field_of t) kind (payload_of t) → field_of t < 2 ^ 32 → HasKind r (field_of t) kind → term_held contents.schema contents.fields t ≡ term_in contents.fields (field_of t) (payload_of t)
same_term r t kind contents whole small has = same_held contents.schema contents.num_docs contents.norms contents.fields r t kind contents.is_reader whole small has

pub whole_term : (r : Reader) (t : List ℕ) (kind : Kind) (contents : Contents r) → t ≡ term_bytes (field_of t) kind (payload_of t) → HasKind r (field_of t) kind → term_of_key contents.schema (field_of t) (payload_of t) ≡ t
whole_term r t kind contents whole has = own_bytes contents.schema contents.num_docs contents.norms contents.fields r t kind contents.is_reader whole has
