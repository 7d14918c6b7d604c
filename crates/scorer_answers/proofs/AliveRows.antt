-- Rows of which a segment has alive what its set tells.
use Rattle.std.proofs.Common.{Bool, List, None, Option, Some, ap, arith, false, length, refl, slice_index_or, sym, true, ◌<◌, ◌∙◌, ◌≡◌, ◌≤◌, ℕ}
use Rattle.std.proofs.lemmas.List.{length-map}
use Rattle.std.specs.Option.{option_map_or}
use Rattle.std.specs.Prelude.{replicate}
use Rattle.common.specs.BitSets.{count_set}
use Rattle.definitions.specs.Alive.{Segment}
use Rattle.definitions.specs.Analyzers.{Analyzer}
use Rattle.definitions.specs.Merging.{flags_of}
use Rattle.definitions.specs.Schema.{Schema}
use Rattle.segment_reader.specs.SegmentReaders.{alive_in, max_doc_of, num_alive}
use Rattle.segment_reader.specs.declared.segment_reader.SegmentReader.{SegmentReader}
use Rattle.scorer_answers.proofs.FlagCounts.{all_set, count-replicate}
use Rattle.scorer_answers.specs.Rows.{HasRows, flags_in}

-- as many flags are set as documents are alive
pub as_many_alive : (r : SegmentReader) → count_set (flags_in r) ≡ num_alive r
as_many_alive r = go (max_doc_of r) (alive_in r) where
  go : (n : ℕ) (o : Option (List Bool)) → count_set (option_map_or (λ flags. flags) o (replicate n true)) ≡ option_map_or count_set o n
  go n None = count-replicate n
  go n (Some flags) = refl

module _ (schema : Schema) (analyze : Analyzer) (rows : Segment) (r : SegmentReader) (has : HasRows schema analyze rows r) where
  -- flags that tell of each row whether it is alive
  abbrev pub TellAlive : (ℕ → Bool) → Type 0
  TellAlive f = (i : ℕ) → i < length rows → f i ≡ slice_index_or (flags_of rows) i false

  -- those of the alive set do
  pub by_flags : (flags : List Bool) → alive_in r ≡ Some flags → TellAlive (λ i. slice_index_or flags i false)
  by_flags flags is i l =
      ap (λ fs. slice_index_or fs i false)
      (sym (has.flags_are ∙ ap (λ o. option_map_or (λ fs. fs) o (replicate (max_doc_of r) true)) is))

  -- and where no document is dead, any that are set
  pub by_none : max_doc_of r ≤ num_alive r → TellAlive (λ i. true)
  by_none none i l =
      let flags = length-map rows (λ row. row.1) in
      let docs = length-map rows (λ row. row.0) in
      let many = has.stands.many in
      let set = ap count_set has.flags_are ∙ as_many_alive r in
      sym (all_set (flags_of rows) (omega (arith, flags, docs, many, set, none)) i (omega (arith, flags, l)))
