-- What a member of a list that was opened consists of.
use Rattle.std.specs.Prelude.{Bool, List}
use Rattle.segment.specs.declared.segment.Segment.{Segment}
use Rattle.index_file.specs.declared.member.Member.{Member}

-- its segment
abbrev pub segment_in : Member → Segment
segment_in m = m.segment

-- which of its documents are alive
abbrev pub flags_in : Member → List Bool
flags_in m = m.alive
