-- What was read so far, whatever the file is of which this is the rest.
use Rattle.std.proofs.Common.{[], List, length, map, ◌<◌, ◌≡◌, ◌≤◌, ℕ}
use Rattle.std.specs.List.{AllByRecursion}
use Rattle.definitions.specs.Settings.{Settings}
use Rattle.index_file.specs.Lists.{IsListed, member_of}
use Rattle.index_file.specs.Reading.{IsReadUpTo}
use Rattle.index_file.proofs.index_file.last_list.Given as goal

abbrev pub invariant-loop-rest : goal.invariant-loop-rest
invariant-loop-rest l = record {
  read : (settings : Settings) (bytes : List ℕ) → length bytes ≡ l.num_bytes → IsReadUpTo l.opener.schema.now settings bytes l.fn.rest [] → IsReadUpTo l.opener.schema.now settings bytes l.rest (map member_of l.members.items);
  listed : AllByRecursion (IsListed l.opener.schema.now) l.members.items;
  some : 0 < length l.rest;
  inside : length l.rest ≤ l.num_bytes;
}

abbrev pub decreases-loop-rest : goal.decreases-loop-rest
decreases-loop-rest l = length l.rest
