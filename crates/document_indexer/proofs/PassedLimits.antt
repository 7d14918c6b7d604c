-- Limits that are passed by given postings are passed by equal ones.
use Rattle.std.proofs.Common.{List, ap, ap₂, length, refl, subst, sym, ◌+◌, ◌<◌, ◌≡◌, ◌≤◌, ◌∙◌, ◌∷◌, ◌^◌, ◌⊎◌, [], inl, inr, ℕ}
use Rattle.std.proofs.lemmas.List.Sums.{sum_by-cons}
use Rattle.std.specs.List.{AllByRecursion}
use Rattle.std.specs.Prelude.{sum_by}
use Rattle.definitions.specs.Analyzers.{Analyzer}
use Rattle.definitions.specs.Postings.{Posting, postings}
use Rattle.definitions.specs.Schema.{IndexRecordOption, Schema}
use Rattle.definitions.specs.declared.fault.Fault.{Fault}
use Rattle.definitions.specs.Values.{Document}
use Rattle.layouts.specs.InvertedIndexes.{AreGiven, AreSections, IndexedField, field_ids, option_of_term, term_of_key}
use Rattle.postings_writer.specs.Limits.{FieldPasses, IsFieldWithin, IsSerializeRefusal, TermPasses, TooMany}
use Rattle.postings_writer.specs.Occurrences.{Occurrence, postings_at, postings_in}
use Rattle.postings_writer.specs.Writers.{Stands, Writer}
use Rattle.document_indexer.proofs.PostingsOf.{given_are, postings_are}
use Rattle.document_indexer.specs.Indexed.{AreOccurrences, HasWritten}

some_kept : (given others : List ℕ → List Posting) → ((t : List ℕ) → given t ≡ others t) → (keys : List (List ℕ)) → AllByRecursion (λ key. 0 < length (given key)) keys → AllByRecursion (λ key. 0 < length (others key)) keys
some_kept given others same [] all = tt
some_kept given others same (k ∷ ks) all = (subst (λ ps. 0 < length ps) (same k) all.0, some_kept given others same ks all.1)

tokens_kept : (given others : List ℕ → List Posting) → ((t : List ℕ) → given t ≡ others t) → (keys : List (List ℕ)) → sum_by (λ key. sum_by (λ (p : Posting). p.count) (given key)) keys ≡ sum_by (λ key. sum_by (λ (p : Posting). p.count) (others key)) keys
tokens_kept given others same [] = refl
tokens_kept given others same (k ∷ ks) =
    sum_by-cons (λ key. sum_by (λ (p : Posting). p.count) (given key)) k ks
    ∙ ap₂ (λ a b. a + b) (ap (sum_by (λ (p : Posting). p.count)) (same k)) (tokens_kept given others same ks)
    ∙ sym (sum_by-cons (λ key. sum_by (λ (p : Posting). p.count) (others key)) k ks)

too_many : (given others : List ℕ → List Posting) → ((t : List ℕ) → given t ≡ others t) → TooMany given → TooMany others
too_many given others same many = record {
  keys = many.keys;
  ascend = many.ascend;
  each_key = some_kept given others same many.keys many.each_key;
  many = go many.many;
}
  where
    go : (4294967295 < length many.keys) ⊎ (2 ^ 64 ≤ sum_by (λ key. sum_by (λ (p : Posting). p.count) (given key)) many.keys) → (4294967295 < length many.keys) ⊎ (2 ^ 64 ≤ sum_by (λ key. sum_by (λ (p : Posting). p.count) (others key)) many.keys)
    go (inl long) = inl long
    go (inr past) = inr (subst (λ n. 2 ^ 64 ≤ n) (tokens_kept given others same many.keys) past)

field_passes : (option : List ℕ → IndexRecordOption) (ids : List ℕ) (given others : List ℕ → List Posting) → ((t : List ℕ) → given t ≡ others t) → FieldPasses option ids given → FieldPasses option ids others
field_passes option ids given others same (inl (key, passes)) = inl (key, subst (TermPasses (option key) ids) (same key) passes)
field_passes option ids given others same (inr many) = inr (too_many given others same many)

pub refusal_is : (fault : Fault) (schema : Schema) (norms : List (ℕ × List ℕ)) (given others : List ℕ → List Posting) → ((t : List ℕ) → given t ≡ others t) → IsSerializeRefusal fault schema norms given → IsSerializeRefusal fault schema norms others
refusal_is fault schema norms given others same (inl memory) = inl memory
refusal_is fault schema norms given others same (inr (limit, any)) = inr (
  limit,
  record {
    field = any.field;
    indexed = any.indexed;
    passes = field_passes (λ key. option_of_term schema (term_of_key schema any.field key)) (field_ids norms any.field) (λ key. given (term_of_key schema any.field key)) (λ key. others (term_of_key schema any.field key)) (λ key. same (term_of_key schema any.field key)) any.passes;
  },
)

-- ---- of a writer

given_there : (schema : Schema) (analyze : Analyzer) (docs : List Document) (os : List Occurrence) → AreOccurrences schema analyze docs os → (t : List ℕ) → postings_in (option_of_term schema t) t os ≡ postings schema analyze t docs
given_there schema analyze docs os are t = ap (postings_at (option_of_term schema t)) (are t) ∙ postings_are schema analyze t docs

pub sections_given : (schema : Schema) (analyze : Analyzer) (docs : List Document) (norms : List (ℕ × List ℕ)) (w : Writer) (terms ps qs : List ℕ) → HasWritten schema analyze w docs → ((n : ℕ) (os : List Occurrence) → w.num_docs ≤ n → Stands schema w os → (fields : List IndexedField) × AreSections schema n norms fields terms ps qs × AreGiven (λ t. postings_in (option_of_term schema t) t os) schema fields × AllByRecursion (IsFieldWithin schema) fields) → (fields : List IndexedField) × AreSections schema (length docs) norms fields terms ps qs × AreGiven (λ t. postings schema analyze t docs) schema fields × AllByRecursion (IsFieldWithin schema) fields
sections_given schema analyze docs norms w terms ps qs written found =
    let there = found (length docs) written.os written.num_docs_within written.stands in
    (there.0, there.1, given_are schema _ _ there.0 (given_there schema analyze docs written.os written.occurrences_are) there.2, there.3)

pub refusal_given : (fault : Fault) (schema : Schema) (analyze : Analyzer) (docs : List Document) (norms : List (ℕ × List ℕ)) (w : Writer) → HasWritten schema analyze w docs → ((os : List Occurrence) → Stands schema w os → IsSerializeRefusal fault schema norms (λ t. postings_in (option_of_term schema t) t os)) → IsSerializeRefusal fault schema norms (λ t. postings schema analyze t docs)
refusal_given fault schema analyze docs norms w written found =
    refusal_is fault schema norms _ _ (given_there schema analyze docs written.os written.occurrences_are) (found written.os written.stands)
