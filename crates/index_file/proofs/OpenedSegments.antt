-- A segment that is opened is one, of the number of documents that it tells, and of no other.
use Rattle.std.proofs.Common.{◌++◌, ◌<◌, ◌≡◌, ◌≤◌, ◌∙◌, ◌^◌, List, Some, ap, arith, sym, ℕ}
use Rattle.definitions.specs.NumberCodes.{take_u32}
use Rattle.definitions.specs.Schema.{Schema}
use Rattle.common.proofs.AliveSetBytes.{u32_back}
use Rattle.common.proofs.Many.{parts_are}
use Rattle.layouts.specs.Stores.{max_docs}
use Rattle.segment.specs.Opened.{IsOpened, blocks_of, bytes_of, num_docs_of}
use Rattle.segment.specs.declared.segment.Segment.{Segment}
use Rattle.segment_definitions.specs.Segments.{IsSegment, section_bytes}

pub opened_is : (schema : Schema) (s : Segment) → IsOpened schema s → IsSegment schema (num_docs_of s) (bytes_of s)
opened_is schema s o = record {
  sections = o.sections;
  norms = o.norms;
  fields = o.fields;
  blocks = blocks_of s;
  written = o.written;
  terms_are = o.terms_are;
  keyed = o.keyed;
  norms_are = o.norms_are;
  store_is = o.store_is;
  blocks_are = o.blocks_are;
  counted = o.counted;
}

few_docs : (n : ℕ) → n ≤ max_docs → n < 2 ^ 32
few_docs n few = omega (arith, few)

pub opened_few : (schema : Schema) (s : Segment) → IsOpened schema s → num_docs_of s < 2 ^ 32
opened_few schema s o = few_docs (num_docs_of s) (opened_is schema s o).written.num_docs_fit

number_told : (schema : Schema) (n : ℕ) (bytes : List ℕ) → IsSegment schema n bytes → (rest : List ℕ) × (take_u32 bytes ≡ Some (n, rest))
number_told schema n bytes is =
    let s = is.sections in
    let rest = section_bytes s.terms ++ section_bytes s.postings ++ section_bytes s.positions ++ section_bytes s.norms ++ section_bytes s.store in
    (rest, ap take_u32 is.written.bytes_are ∙ u32_back n rest (few_docs n is.written.num_docs_fit))

pub one_number : (schema : Schema) (m n : ℕ) (bytes : List ℕ) → IsSegment schema m bytes → IsSegment schema n bytes → m ≡ n
one_number schema m n bytes a b =
    let x = number_told schema m bytes a in
    let y = number_told schema n bytes b in
    (parts_are (m, x.0) n y.0 (sym x.1 ∙ y.1)).0
