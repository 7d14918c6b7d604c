-- How many living documents match.
use Rattle.std.proofs.Common.{[], Bool, List, None, Some, ap, arith, count_by, false, if◌then◌else◌, length, map, refl, slice_index_or, sym, true, ◌+◌, ◌<◌, ◌∙◌, ◌≡◌, ◌≤◌, ℕ}
use Rattle.common.specs.BitSets.{count_set}
use Rattle.docsets.specs.Entries.{Entry}
use Rattle.definitions.specs.Alive.{Segment}
use Rattle.definitions.specs.Analyzers.{Analyzer}
use Rattle.definitions.specs.Answers.{living_count}
use Rattle.definitions.specs.Matching.{matches}
use Rattle.definitions.specs.Merging.{documents_in, flags_of}
use Rattle.definitions.specs.Postings.{posting_of, postings}
use Rattle.definitions.specs.Query.{Query, all, term}
use Rattle.definitions.specs.Recorded.{count_of, holds, positions_of}
use Rattle.definitions.specs.Refusing.{tree_fault}
use Rattle.definitions.specs.Schema.{IndexRecordOption, Schema}
use Rattle.segment_reader.specs.OpenedTerms.{entry_as}
use Rattle.scorer_answers.proofs.AliveRows.{TellAlive, as_many_alive, by_flags, by_none}
use Rattle.scorer_answers.proofs.CountedRows.{count_picked}
use Rattle.scorer_answers.proofs.EntryCounts.{count-all, count-map}
use Rattle.scorer_answers.proofs.FlagCounts.{all_rows}
use Rattle.scorer_answers.specs.Matching.{Matches}
use Rattle.scorer_answers.specs.Rows.{HasRows}
use Rattle.segment_reader.specs.SegmentReaders.{alive_in, max_doc_of, num_alive}
use Rattle.segment_reader.specs.declared.segment_reader.SegmentReader.{SegmentReader}

module _ (schema : Schema) (analyze : Analyzer) (rows : Segment) (r : SegmentReader) (has : HasRows schema analyze rows r) where
  abbrev Tell : (ℕ → Bool) → Type 0
  Tell f = TellAlive schema analyze rows r has f

  from_zero : (f : ℕ → Bool) → Tell f → (i : ℕ) → i < length rows → f (0 + i) ≡ slice_index_or (flags_of rows) i false
  from_zero f tell i l = ap f (let same : 0 + i ≡ i = omega arith in same) ∙ tell i l

  -- ---- by the documents that match

  module _ (weight : List ℕ → ℕ) (b : ℕ) (q : Query) (es : List Entry) (passes : tree_fault schema weight b q ≡ None) (are : Matches weight b q r es) where
    counted : (f : ℕ → Bool) → Tell f → count_by (λ e. f e.doc) es ≡ living_count schema analyze q rows
    counted f tell =
        count-map f (λ e. e.doc) es
        ∙ (ap (count_by f) (are.documents_are schema analyze (documents_in rows) has.stands passes)
        ∙ count_picked (λ doc. matches schema analyze doc q) (λ p. if matches schema analyze p.1 q then Some p.0 else None) (λ n doc. n) (λ n. n) (λ n doc. refl) (λ n doc. refl) f 0 rows (from_zero f tell))

    pub alive_counted : (flags : List Bool) → alive_in r ≡ Some flags → count_by (λ e. slice_index_or flags e.doc false) es ≡ living_count schema analyze q rows
    alive_counted flags is = counted (λ d. slice_index_or flags d false) (by_flags schema analyze rows r has flags is)

    pub each_counted : max_doc_of r ≤ num_alive r → length es ≡ living_count schema analyze q rows
    each_counted none = sym (count-all es) ∙ counted (λ d. true) (by_none schema analyze rows r has none)

  -- ---- of all documents

  pub all_counted : num_alive r ≡ living_count schema analyze all rows
  all_counted = sym (ap count_set has.flags_are ∙ as_many_alive r) ∙ all_rows rows

  -- ---- by the postings of a term

  module _ (t : List ℕ) (option : IndexRecordOption) where
    held_counted : (f : ℕ → Bool) → Tell f → count_by (λ p. f p.doc) (postings schema analyze t (documents_in rows)) ≡ living_count schema analyze (term t option) rows
    held_counted f tell =
        count_picked (λ doc. holds schema analyze t doc) (posting_of schema analyze t) (λ n doc. record { doc = n; count = count_of schema analyze t doc; positions = positions_of schema analyze t doc }) (λ p. p.doc) (λ n doc. refl) (λ n doc. refl) f 0 rows (from_zero f tell)

    pub term_alive : (asked : IndexRecordOption) (es : List Entry) (flags : List Bool) → alive_in r ≡ Some flags → es ≡ map (entry_as asked) (postings schema analyze t (documents_in rows))
        → count_by (λ e. slice_index_or flags e.doc false) es ≡ living_count schema analyze (term t option) rows
    term_alive asked es flags is are =
        ap (count_by (λ e. slice_index_or flags e.doc false)) are
        ∙ (sym (count-map (λ e. slice_index_or flags e.doc false) (entry_as asked) (postings schema analyze t (documents_in rows)))
        ∙ held_counted (λ d. slice_index_or flags d false) (by_flags schema analyze rows r has flags is))

    pub term_none : (flags : List Bool) → alive_in r ≡ Some flags → postings schema analyze t (documents_in rows) ≡ [] → 0 ≡ living_count schema analyze (term t option) rows
    term_none flags is none =
        ap (count_by (λ p. slice_index_or flags p.doc false)) (sym none)
        ∙ held_counted (λ d. slice_index_or flags d false) (by_flags schema analyze rows r has flags is)

    pub term_each : max_doc_of r ≤ num_alive r → length (postings schema analyze t (documents_in rows)) ≡ living_count schema analyze (term t option) rows
    term_each none = sym (count-all (postings schema analyze t (documents_in rows))) ∙ held_counted (λ d. true) (by_none schema analyze rows r has none)
