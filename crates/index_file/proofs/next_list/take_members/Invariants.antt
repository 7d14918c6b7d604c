-- The members so far, and the parts and the alive sets that are left.
use Rattle.std.proofs.Common.{◌≡◌, List, drop, length, map, ℕ}
use Rattle.std.specs.List.{AllByRecursion}
use Rattle.index_file.specs.Parts.{part_of}
use Rattle.index_file.specs.Lists.{IsListed, member_of}
use Rattle.index_file.specs.Reading.{IsLeft}
use Rattle.index_file.proofs.ListsMade.{AreSoFar}
use Rattle.index_file.proofs.next_list.take_members.Given as goal

abbrev pub invariant-loop-part : goal.invariant-loop-part
invariant-loop-part l = record {
  left : (more : List ℕ) × IsLeft l.fn.before.items (map part_of (drop l.part-index l.parts)) more l.reader;
  so_far : AreSoFar l.opener.schema.now (map member_of l.fn.before.items) (map part_of l.parts) l.fn.alive.items (map part_of (drop l.part-index l.parts)) l.alive.items (map member_of l.members.items);
  listed : AllByRecursion (IsListed l.opener.schema.now) l.members.items;
  each : length l.alive.items ≡ length (drop l.part-index l.parts);
  opener : l.reader.opener ≡ l.opener;
}
