use Rattle.std.proofs.Common.{◌≡◌, drop, length, take}
use Rattle.postings_writer.specs.OccurrenceBytes.{occurrence_bytes}
use Rattle.postings_writer.proofs.position_recorder.TfAndPositionRecorder.copy_places.Given as goal

-- the occurrences so far were copied, and the bytes of those that are left follow
abbrev pub invariant-loop : goal.invariant-loop
invariant-loop l = record {
  copied : l.output.items ≡ take l.counter l.self;
  left : l.rest ≡ occurrence_bytes l.doc (drop l.counter l.self);
  end : l.end ≡ length l.self;
}
