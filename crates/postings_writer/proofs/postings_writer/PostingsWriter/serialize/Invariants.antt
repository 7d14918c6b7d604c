use Rattle.std.proofs.Common.{List, Some, slice_get, ◌≡◌, ℕ}
use Rattle.std.specs.List.{AllByRecursion, enumerate_from}
use Rattle.definitions.specs.Schema.{Entry}
use Rattle.postings_writer.specs.Occurrences.{Occurrence}
use Rattle.postings_writer.specs.Writers.{Stands}
use Rattle.postings_writer.proofs.WrittenSections.{AreWrittenOf}
use Rattle.postings_writer.proofs.postings_writer.PostingsWriter.serialize.Given as goal

-- the fields so far were written, and each that is left stands at its number
abbrev pub invariant-loop-field : goal.invariant-loop-field
invariant-loop-field l = record {
  written : (os : List Occurrence) → Stands l.schema l.self os → AreWrittenOf l.schema l.fieldnorm_readers os l.fn.serializer l.serializer (enumerate_from 0 l.schema) l.field-iterator;
  left : AllByRecursion (λ (p : ℕ × Entry). slice_get l.schema p.0 ≡ Some p.1) l.field-iterator;
}
