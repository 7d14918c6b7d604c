use Rattle.std.proofs.Common.{List, take, ◌≡◌, ◌≤◌, ℕ}
use Rattle.definitions.specs.Schema.{Schema}
use Rattle.layouts.specs.InvertedIndexes.{IndexedField}
use Rattle.merging.specs.Members.{AreMembers, end_after, merged_in}
use Rattle.merging.specs.Living.{has_some}
use Rattle.merging.specs.Written.{AreWritten}
use Rattle.postings_writer.specs.FieldWriting.{AreKept}
use Rattle.merging.proofs.merged_term.write_members.Given as goal

-- the members so far were written
abbrev pub invariant-loop-number : goal.invariant-loop-number
invariant-loop-number l = record {
  written : (schema : Schema) (num_docs : ℕ) (all : List (List IndexedField)) → AreMembers schema 0 num_docs l.members all → AreWritten l.fn.serializer l.serializer (merged_in l.field l.key (take l.number l.members) (take l.number all));
  some : (schema : Schema) (num_docs : ℕ) (all : List (List IndexedField)) → AreMembers schema 0 num_docs l.members all → l.some ≡ has_some (merged_in l.field l.key (take l.number l.members) (take l.number all));
  next : l.serializer.writing.next ≤ end_after 0 l.number l.members;
  kept : AreKept l.fn.serializer l.serializer;
}
