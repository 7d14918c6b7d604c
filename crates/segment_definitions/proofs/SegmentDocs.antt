-- A segment of documents is a segment.
use Rattle.std.proofs.Common.{[], ◌∷◌, ◌∙◌, ◌≡◌, List, ap, arith, length, length-append, sym, ℕ}
use Rattle.std.specs.List.{sum_by}
use Rattle.definitions.specs.Analyzers.{Analyzer}
use Rattle.definitions.specs.KeptLengths.{norms_of}
use Rattle.definitions.specs.Schema.{Schema}
use Rattle.definitions.specs.Values.{Document}
use Rattle.layouts.specs.Stores.{Block, Hold}
use Rattle.segment_definitions.specs.Segments.{IsSegment, IsSegmentOf}
use Rattle.segment_definitions.specs.Slots.{slot, slots}
use Rattle.std.proofs.lemmas.List.{length-map}
use Rattle.std.proofs.lemmas.List.Sums.{sum_by-cons}

-- as many documents as slots
counted : (blocks : List Block) (docs : List (List ℕ)) → Hold blocks docs → sum_by (λ (b : Block). b.count) blocks ≡ length docs
counted [] docs e = ap length (sym e)
counted (b ∷ blocks) docs (here, rest, all, many, block, more) =
    let left = counted blocks rest more in
    omega (arith, left, many, ap length all, length-append here rest, sum_by-cons (λ (x : Block). x.count) b blocks)

pub segment_alone : (schema : Schema) (analyze : Analyzer) (docs : List Document) (bytes : List ℕ) → IsSegmentOf schema analyze docs bytes → IsSegment schema (length docs) bytes
segment_alone schema analyze docs bytes s = record {
  sections = s.sections;
  norms = norms_of schema analyze docs;
  fields = s.fields;
  blocks = s.store_is.0;
  written = s.written;
  terms_are = s.terms_are;
  keyed = s.keyed;
  norms_are = s.norms_are;
  store_is = s.store_is.3;
  blocks_are = s.store_is.1;
  counted = counted s.store_is.0 (slots schema docs) s.store_is.2 ∙ length-map docs (slot schema);
}
