use Rattle.std.proofs.Common.{List, take, ◌≡◌, ℕ}
use Rattle.merging.specs.MemberStores.{AreHeld, living_count, merged_slots}
use Rattle.store.specs.Writing.{HoldsSlots, docs_of}
use Rattle.merging.proofs.member_stores.merge_stores.Given as goal

-- the slots of the members so far
abbrev pub invariant-loop-member : goal.invariant-loop-member
invariant-loop-member l = record {
  held : (all : List (List (List ℕ))) → AreHeld l.members all → HoldsSlots l.writer (merged_slots (take l.member-index l.members) (take l.member-index all));
  docs : docs_of l.writer ≡ living_count (take l.member-index l.members);
  size : l.writer.block_size ≡ l.block_size;
}
