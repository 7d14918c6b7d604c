use Rattle.std.proofs.Common.{map, take, ◌≡◌}
use Rattle.segment.specs.Members.{living_count, member_of, numbered}
use Rattle.segment.proofs.merged_terms.numbered_members.Given as goal

-- the members so far, and the number that comes next
abbrev pub invariant-loop-member : goal.invariant-loop-member
invariant-loop-member l = record {
  members : map (λ m. (m.inverted_index.now, m.doc_ids)) l.numbered.items ≡ numbered 0 (take l.member-index (map member_of l.members));
  base : l.base ≡ living_count (take l.member-index (map member_of l.members));
}
