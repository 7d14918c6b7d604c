use Rattle.std.proofs.Common.{◌+◌, ◌<◌, ◌≤◌}
use Rattle.segment_postings.specs.Reading.{below}
use Rattle.segment_postings.proofs.block_segment_postings.first_from.Given as goal

-- the index that is sought is among `len` from `index` on
abbrev pub invariant-loop-len : goal.invariant-loop-len
invariant-loop-len l = (l.index ≤ below l.fn.target l.fn.docs) × (below l.fn.target l.fn.docs < l.index + l.len) × (l.index + l.len ≤ 128)

abbrev pub decreases-loop-len : goal.decreases-loop-len
decreases-loop-len l = l.len
