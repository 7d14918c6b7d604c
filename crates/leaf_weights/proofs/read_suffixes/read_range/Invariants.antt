use Rattle.std.proofs.Common.{Some, length, map, take, ◌++◌, ◌+◌, ◌≡◌}
use Rattle.std.specs.List.{AllByRecursion}
use Rattle.segment_reader.specs.Readers.{Contents, dictionary_in, info_in}
use Rattle.leaf_weights.specs.Suffixes.{HaveBytes, read_places}
use Rattle.segment_postings.specs.Cursors.{entries_left}
use Rattle.leaf_weights.proofs.read_suffixes.read_range.Given as goal

-- what was read and what is left to read make all
abbrev pub invariant-loop-left : goal.invariant-loop-left
invariant-loop-left l =
    ((contents : Contents l.fn.index) → map entries_left l.read.items ++ read_places contents.fields l.fn.field (take l.left l.range.rest) ≡ read_places contents.fields l.fn.field (take l.fn.max_expansions l.fn.range.rest))
    × (HaveBytes (take l.left l.range.rest) → HaveBytes (take l.fn.max_expansions l.fn.range.rest))
    × AllByRecursion (λ d. info_in d.0 (dictionary_in l.fn.index l.fn.field) ≡ Some d.1) l.range.rest
    × (length l.read.items + l.left ≡ l.fn.max_expansions)

abbrev pub decreases-loop-left : goal.decreases-loop-left
decreases-loop-left l = l.left
