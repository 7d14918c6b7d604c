-- No record so far has the segment as a new one.
use Rattle.std.proofs.Common.{◌<◌, ◌≡◌, Some, ℕ}
use Rattle.std.specs.Prelude.{slice_get}
use Rattle.inspect.specs.Documents.{IsNewIn}
use Rattle.inspect.specs.declared.records.Record.{Record}
use Rattle.inspect.proofs.document_damage.record_of.Given as goal

abbrev pub invariant-loop-number : goal.invariant-loop-number
invariant-loop-number l = (number : ℕ) → number < l.number → (listed : Record) → slice_get l.records number ≡ Some listed → ¬ IsNewIn listed.body.now l.segment
