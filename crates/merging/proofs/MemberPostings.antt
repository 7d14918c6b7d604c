-- The postings of a member's term.
use Rattle.std.proofs.Common.{[], Bool, List, None, Option, Some, ap, append-nil, arith, bytes_eq, false, find, if◌then◌else◌, length, map, refl, subst, sym, true, ◌++◌, ◌<◌, ◌==◌, ◌^◌, ◌≡◌, ◌∙◌, ◌∷◌, ℕ}
use Rattle.std.specs.List.{AllByRecursion}
use Rattle.std.specs.Option.{option_map_or}
use Rattle.std.proofs.Math.Logic.{∥∥₁_elim}
use Rattle.std.proofs.Props.{props}
use Rattle.docsets.specs.Entries.{Entry, from}
use Rattle.definitions.specs.Postings.{Posting}
use Rattle.definitions.specs.Schema.{Schema, with_freqs_and_positions}
use Rattle.segment_reader.proofs.DictionariesPlaced.{term_found}
use Rattle.segment_reader.proofs.ReaderCalls.{dictionary_is}
use Rattle.segment_reader.specs.FieldDictionaries.{IsFound, terms_in}
use Rattle.segment_reader.specs.OpenedTerms.{entry_as}
use Rattle.segment_reader.specs.Readers.{Contents, Reader, dictionary_in, info_in, postings_in, term_in}
use Rattle.layouts.specs.InvertedIndexes.{IndexedField, IndexedTerm, IsField, IsTerm, field_ids, option_of_term, term_of_key}
use Rattle.merging.specs.Members.{IsMember, living_of}
use Rattle.merging.specs.declared.member.Member.{Member}
use Rattle.merging.specs.Living.{living_in, posting_in}
use Rattle.merging.specs.Mappings.{Mapping}
use Rattle.merging.specs.Written.{AreWritten}
use Rattle.postings_writer.specs.FieldWriting.{FieldWriting, IsOpen}
use Rattle.postings_writer.proofs.WrittenTerms.{same_itself}

-- ---- entries as postings

pub as_postings : (ps : List Posting) → map posting_in (map (entry_as with_freqs_and_positions) ps) ≡ ps
as_postings [] = refl
as_postings (p ∷ ps) = ap (λ qs. p ∷ qs) (as_postings ps)

pub living_entries : (m : Mapping) (es : List Entry) (ps : List Posting) → es ≡ map (entry_as with_freqs_and_positions) ps → living_in m es ≡ living_of m ps
living_entries m es ps is = ap (living_in m) is ∙ ap (living_of m) (as_postings ps)

-- ---- what a member holds

abbrev pub contents_of : (schema : Schema) (m : Member) (fields : List IndexedField) → IsMember schema m fields → Contents m.inverted_index.now
contents_of schema m fields is = record { schema = schema; num_docs = length m.doc_ids.flags; norms = is.norms; fields = fields; is_reader = is.is_reader }

-- a term that isn't in the dictionary has no postings
pub none_held : (schema : Schema) (m : Member) (fields : List IndexedField) (field : ℕ) (key : List ℕ) → IsMember schema m fields → info_in key (dictionary_in m.inverted_index.now field) ≡ None → postings_in fields field key ≡ []
none_held schema m fields field key is none = go (term_in fields field key) found
  where
    r : Reader
    r = m.inverted_index.now

    contents : Contents r
    contents = contents_of schema m fields is

    found : IsFound r.sections None (term_in fields field key)
    found = subst (λ o. IsFound r.sections o (term_in fields field key)) (sym (ap (info_in key) (dictionary_is r field contents)) ∙ none) (term_found schema (length m.doc_ids.flags) is.norms fields r.sections field key is.is_reader.sections)

    go : (o : Option IndexedTerm) → IsFound r.sections None o → option_map_or (λ (x : IndexedTerm). x.postings) o [] ≡ []
    go None f = refl
    go (Some t) f = absurd f

-- ---- what holds of a term that is found

all_found : (P : IndexedTerm → Type 0) (ts : List IndexedTerm) (key : List ℕ) → AllByRecursion P ts → (Q : List Posting → Type 0) → Q [] → ((t : IndexedTerm) → P t → Q t.postings) → Q (option_map_or (λ (x : IndexedTerm). x.postings) (find (λ (x : IndexedTerm). bytes_eq x.key key) ts) [])
all_found P [] key all Q none some = none
all_found P (t ∷ ts) key all Q none some = go (bytes_eq t.key key) (all_found P ts key all.1 Q none some)
  where
    go : (b : Bool) → Q (option_map_or (λ (x : IndexedTerm). x.postings) (find (λ (x : IndexedTerm). bytes_eq x.key key) ts) []) → Q (option_map_or (λ (x : IndexedTerm). x.postings) (if b then Some t else find (λ (x : IndexedTerm). bytes_eq x.key key) ts) [])
    go true rest = some t all.0
    go false rest = rest

terms_hold : (schema : Schema) (num_docs : ℕ) (norms : List (ℕ × List ℕ)) (fields : List IndexedField) (field : ℕ) → AllByRecursion (IsField schema num_docs norms) fields → AllByRecursion (λ (t : IndexedTerm). (f : ℕ) × IsTerm (option_of_term schema (term_of_key schema f t.key)) num_docs (field_ids norms f) t) (terms_in field fields)
terms_hold schema num_docs norms [] field all = tt
terms_hold schema num_docs norms (f ∷ fields) field all = go (f.field == field) (terms_hold schema num_docs norms fields field all.1)
  where
    Holds : IndexedTerm → Type 0
    Holds t = (g : ℕ) × IsTerm (option_of_term schema (term_of_key schema g t.key)) num_docs (field_ids norms g) t

    each : (ts : List IndexedTerm) → AllByRecursion (λ t. IsTerm (option_of_term schema (term_of_key schema f.field t.key)) num_docs (field_ids norms f.field) t) ts → AllByRecursion Holds ts
    each [] hold = tt
    each (t ∷ ts) hold = ((f.field, hold.0), each ts hold.1)

    go : (b : Bool) → AllByRecursion Holds (terms_in field fields) → AllByRecursion Holds (if b then f.terms else terms_in field fields)
    go true rest = each f.terms all.0.each_term
    go false rest = rest

-- the counts of a member's postings
pub counts_held : (schema : Schema) (m : Member) (fields : List IndexedField) (field : ℕ) (key : List ℕ) → IsMember schema m fields → AllByRecursion (λ (p : Posting). 0 < p.count) (postings_in fields field key)
counts_held schema m fields field key is =
    all_found (λ (t : IndexedTerm). (f : ℕ) × IsTerm (option_of_term schema (term_of_key schema f t.key)) (length m.doc_ids.flags) (field_ids is.norms f) t) (terms_in field fields) key
    (terms_hold schema (length m.doc_ids.flags) is.norms fields field is.is_reader.sections.each_field)
    (AllByRecursion (λ (p : Posting). 0 < p.count)) tt
    (λ t hold. go t.postings hold.1.postings_are.posted.counts_fit)
  where
    go : (ps : List Posting) → AllByRecursion (λ n. (0 < n) × (n < 2 ^ 32)) (map (λ (p : Posting). p.count) ps) → AllByRecursion (λ (p : Posting). 0 < p.count) ps
    go [] all = tt
    go (p ∷ ps) all = (all.0.0, go ps all.1)

pub entries_counted : (es : List Entry) (ps : List Posting) → es ≡ map (entry_as with_freqs_and_positions) ps → AllByRecursion (λ (p : Posting). 0 < p.count) ps → AllByRecursion (λ (e : Entry). 0 < e.count) es
entries_counted es ps is all = subst (AllByRecursion (λ (e : Entry). 0 < e.count)) (sym is) (go ps all)
  where
    go : (qs : List Posting) → AllByRecursion (λ (p : Posting). 0 < p.count) qs → AllByRecursion (λ (e : Entry). 0 < e.count) (map (entry_as with_freqs_and_positions) qs)
    go [] a = tt
    go (q ∷ qs) a = (a.0, go qs a.1)

-- that no entry stands from a document on is a proposition
pub none_from : (t : ℕ) (es : List Entry) → ∥ from t es ≡ [] ∥₁ → from t es ≡ []
none_from t es none = go (from t es) refl
  where
    go : (fs : List Entry) → from t es ≡ fs → fs ≡ []
    go [] is = refl
    go (f ∷ fs) is = absurd (∥∥₁_elim none (hlevel props) (λ e. (let bad : f ∷ fs ≡ [] = sym is ∙ e in let no : ⊥ = cc in no)))

-- ---- nothing is written

pub nothing_written : (was : FieldWriting) → AreWritten was was []
nothing_written was = record {
  open_is = λ docs counts numbers is. subst (λ ns. IsOpen was (docs ++ []) (counts ++ []) ns) (sym (append-nil numbers)) (subst (λ ns. IsOpen was (docs ++ []) ns numbers) (sym (append-nil counts)) (subst (λ ds. IsOpen was ds counts numbers) (sym (append-nil docs)) is));
  total = omega arith;
  same = same_itself was;
}
