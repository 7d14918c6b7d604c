-- The length ids of documents, as the fields keep them.
use Rattle.std.proofs.Common.{[], Bool, List, None, Option, Some, ap, arith, cond, false, filter, find, map, option_map, refl, true, zero, suc, ◌+◌, ◌<◌, ◌==◌, ◌≡◌, ◌∙◌, ◌∷◌, ℕ, slice_get}
use Rattle.std.proofs.lemmas.Bool.Decides.{nat_tests}
use Rattle.std.specs.List.{enumerate_from}
use Rattle.std.specs.Option.{option_map_or}
use Rattle.std.specs.Prelude.{slice_index_or}
use Rattle.definitions.specs.Analyzers.{Analyzer}
use Rattle.definitions.specs.KeptLengths.{length_ids, norms_of}
use Rattle.definitions.specs.Lengths.{fieldnorm_to_id, len_of}
use Rattle.definitions.specs.Postings.{Posting, postings}
use Rattle.definitions.specs.Schema.{Entry, IndexRecordOption, Schema, field_has, keeps_length}
use Rattle.definitions.specs.Scoring.{length_id}
use Rattle.definitions.specs.Terms.{field_of}
use Rattle.definitions.specs.Values.{Document}
use Rattle.layouts.proofs.DocumentEntries.{bounds_told}
use Rattle.layouts.specs.FieldNorms.{ids_of}
use Rattle.layouts.specs.InvertedIndexes.{field_ids}
use Rattle.layouts.specs.TermPostings.{bound_in, id_of}
use Rattle.segment_reader.specs.OpenedTerms.{entries_of_postings}
use Rattle.segment_reader.specs.Readers.{full_bounds}

-- ---- of fields that keep lengths, from a number on

module _ (of : ℕ → List ℕ) where
  abbrev pairs : List (ℕ × Entry) → List (ℕ × List ℕ)
  pairs es = map (λ f. (f, of f)) (map (λ (p : ℕ × Entry). p.0) es)

  abbrev kept : ℕ → Schema → List (ℕ × Entry)
  kept k es = filter (λ (p : ℕ × Entry). keeps_length p.1) (enumerate_from k es)

  none_before : (k : ℕ) (es : Schema) (field : ℕ) → field < k → ids_of field (pairs (kept k es)) ≡ None
  none_before k [] field low = refl
  none_before k (e ∷ es) field low = go (keeps_length e) (none_before (k + 1) es field (omega (arith, low)))
    where
      other : (k == field) ≡ false
      other = grind (arith, nat_tests)

      go : (b : Bool) → ids_of field (pairs (kept (k + 1) es)) ≡ None → ids_of field (pairs (cond b ((k, e) ∷ kept (k + 1) es) (kept (k + 1) es))) ≡ None
      go true rest = ap (λ b. option_map (λ (p : ℕ × List ℕ). p.1) (cond b (Some (k, of k)) (find (λ (p : ℕ × List ℕ). p.0 == field) (pairs (kept (k + 1) es))))) other ∙ rest
      go false rest = rest

  ids_kept : (k : ℕ) (es : Schema) (i field : ℕ) → field ≡ k + i → ids_of field (pairs (kept k es)) ≡ cond (field_has keeps_length es i) (Some (of field)) None
  ids_kept k [] zero field at = refl
  ids_kept k [] (suc i) field at = refl
  ids_kept k (e ∷ es) zero field at = go (keeps_length e) (none_before (k + 1) es field (omega (arith, at)))
    where
      here : k ≡ field
      here = omega (arith, at)

      same : (k == field) ≡ true
      same = grind (arith, nat_tests, here)

      go : (b : Bool) → ids_of field (pairs (kept (k + 1) es)) ≡ None → ids_of field (pairs (cond b ((k, e) ∷ kept (k + 1) es) (kept (k + 1) es))) ≡ cond b (Some (of field)) None
      go true none = ap (λ b. option_map (λ (p : ℕ × List ℕ). p.1) (cond b (Some (k, of k)) (find (λ (p : ℕ × List ℕ). p.0 == field) (pairs (kept (k + 1) es))))) same ∙ ap (λ n. Some (of n)) here
      go false none = none
  ids_kept k (e ∷ es) (suc i) field at = go (keeps_length e) (ids_kept (k + 1) es i field (omega (arith, at)))
    where
      other : (k == field) ≡ false
      other = grind (arith, nat_tests, at)

      go : (b : Bool) → ids_of field (pairs (kept (k + 1) es)) ≡ cond (field_has keeps_length es i) (Some (of field)) None → ids_of field (pairs (cond b ((k, e) ∷ kept (k + 1) es) (kept (k + 1) es))) ≡ cond (field_has keeps_length es i) (Some (of field)) None
      go true rest = ap (λ b. option_map (λ (p : ℕ × List ℕ). p.1) (cond b (Some (k, of k)) (find (λ (p : ℕ × List ℕ). p.0 == field) (pairs (kept (k + 1) es))))) other ∙ rest
      go false rest = rest

-- ---- of documents

id_there : (f : Document → ℕ) (docs : List Document) (index : ℕ) (doc : Document) → slice_get docs index ≡ Some doc → slice_index_or (map f docs) index 1 ≡ f doc
id_there f [] zero doc is = cc
id_there f [] (suc index) doc is = cc
id_there f (d ∷ ds) zero doc is = ap f (ap (λ (o : Option Document). option_map_or (λ x. x) o d) is)
id_there f (d ∷ ds) (suc index) doc is = id_there f ds index doc is

pub none_there : (index : ℕ) → id_of [] index ≡ 1
none_there zero = refl
none_there (suc index) = refl

-- each is the length id of its document, and 1 where the field keeps no lengths
pub ids_are : (schema : Schema) (analyze : Analyzer) (docs : List Document) (field index : ℕ) (doc : Document) → slice_get docs index ≡ Some doc → id_of (field_ids (norms_of schema analyze docs) field) index ≡ length_id schema analyze field doc
ids_are schema analyze docs field index doc is =
    ap (λ (o : Option (List ℕ)). id_of (option_map_or (λ ids. ids) o []) index) (ids_kept (length_ids schema analyze docs) 0 schema field field (omega arith))
    ∙ go (field_has keeps_length schema field) (id_there (length_id schema analyze field) docs index doc is)
  where
    go : (b : Bool) → slice_index_or (length_ids schema analyze docs field) index 1 ≡ cond b (fieldnorm_to_id (len_of schema analyze field doc)) 1 → id_of (option_map_or (λ ids. ids) (cond b (Some (length_ids schema analyze docs field)) None) []) index ≡ cond b (fieldnorm_to_id (len_of schema analyze field doc)) 1
    go true there = there
    go false there = none_there index

-- so skip entries tell the bounds of the documents' blocks
pub bounds_are : (schema : Schema) (analyze : Analyzer) (option : IndexRecordOption) (t : List ℕ) (docs : List Document) (norms : List (ℕ × List ℕ)) (ps : List Posting) → norms ≡ norms_of schema analyze docs → ps ≡ postings schema analyze t docs → map bound_in (entries_of_postings option (field_ids norms (field_of t)) ps) ≡ full_bounds schema analyze t docs
bounds_are schema analyze option t docs norms ps norms_are are =
    ap (λ ns. map bound_in (entries_of_postings option (field_ids ns (field_of t)) ps)) norms_are
    ∙ ap (λ xs. map bound_in (entries_of_postings option (field_ids (norms_of schema analyze docs) (field_of t)) xs)) are
    ∙ bounds_told schema analyze option (field_ids (norms_of schema analyze docs) (field_of t)) t docs (λ index doc is. ids_are schema analyze docs (field_of t) index doc is)
