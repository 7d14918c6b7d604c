-- The least segment: one document without a value, in a schema without a field.
use Rattle.std.proofs.Common.{[], false, arith, refl, slice_index, suc, zero, ◌<◌, ◌^◌, ◌∷◌, ℕ}
use Rattle.std.specs.List.{All}
use Rattle.definitions.specs.Analyzers.{raw_and_default}
use Rattle.definitions.specs.NumberCodes.{vint_bytes}
use Rattle.layouts.specs.Stores.{Block}
use Rattle.segment_definitions.specs.SegmentExamples.{bare_sections, block_of}
use Rattle.segment_definitions.specs.Segments.{IsSegmentOf, segment_bytes}

-- the only block has a document
one_block : All (λ (b : Block). 0 < b.count) (block_of ((0x80 ∷ []) ∷ []) ∷ [])
one_block zero d l = omega arith
one_block (suc k) d l = absurd (omega (arith, l))

-- its document starts at 0
one_start : (i : ℕ) → slice_index (0 ∷ []) i < 2 ^ 32
one_start zero = omega arith
one_start (suc i) = omega arith

pub least_segment : IsSegmentOf [] raw_and_default ([] ∷ []) (segment_bytes 1 bare_sections)
unfolding vint_bytes
least_segment = record {
  sections = bare_sections;
  fields = [];
  taken = ((tt, refl), tt);
  written = record { has_documents = omega arith; num_docs_fit = omega arith; short = omega arith; bytes_are = refl };
  terms_are = record { names = refl; each_field = tt; terms_are = (false, refl); postings_are = refl; positions_are = refl };
  keyed = tt;
  indexed = record { each_field = tt; all = λ t some. absurd (omega (arith, some)) };
  norms_are = record { names = refl; counts = tt; spelled = refl };
  store_is = (block_of ((0x80 ∷ []) ∷ []) ∷ [], record { nonempty = one_block; docs = omega arith }, ((0x80 ∷ []) ∷ [], [], refl, refl, record { bytes_are = refl; starts_fit = one_start; count_fits = omega arith }, refl), refl);
}
