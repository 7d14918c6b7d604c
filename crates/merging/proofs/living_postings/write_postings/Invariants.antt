use Rattle.std.proofs.Common.{[], length, ◌<◌, ◌||◌, ◌≡◌, ◌≤◌}
use Rattle.std.specs.List.{AllByRecursion}
use Rattle.docsets.specs.Entries.{first, from}
use Rattle.merging.specs.Living.{has_some, living_in}
use Rattle.merging.specs.Mappings.{end_of}
use Rattle.postings_writer.proofs.WrittenTerms.{Written}
use Rattle.segment_postings.specs.Cursors.{entries_left}
use Rattle.merging.proofs.living_postings.write_postings.Given as goal

-- the living documents so far were written
abbrev pub invariant-loop-doc : goal.invariant-loop-doc
invariant-loop-doc l = record {
  written : Written l.fn.serializer l.serializer (living_in l.mapping (entries_left l.fn.postings)) (living_in l.mapping (entries_left l.postings));
  some : (l.some || has_some (living_in l.mapping (entries_left l.postings))) ≡ has_some (living_in l.mapping (entries_left l.fn.postings));
  within : from (length l.mapping.flags) (entries_left l.postings) ≡ [];
  counted : AllByRecursion (λ e. 0 < e.count) (entries_left l.postings);
  at : l.doc ≡ first (entries_left l.postings);
  next : l.serializer.writing.next ≤ end_of l.mapping;
}

abbrev pub decreases-loop-doc : goal.decreases-loop-doc
decreases-loop-doc l = length (entries_left l.postings)
