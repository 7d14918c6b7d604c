-- Groups of the code, as the definitions have them.
use Rattle.std.specs.Prelude.{map, reverse}
use Rattle.query_text.specs.Reading as reading
use Rattle.query_text.specs.declared.alternative.Alternative.{Alternative}
use Rattle.query_text.specs.declared.query_reader.Group.{Group}
use Rattle.query_text.specs.declared.query_reader.Reading.{Reading}
use Rattle.query_trees.specs.Queries.{occur_of, query_of}

-- clauses side by side
abbrev pub alternative_of : Alternative → reading.Alternative
alternative_of a = record { required = map query_of a.required.items; unmarked = map query_of a.unmarked.items; excluded = map query_of a.excluded.items }

-- a group that is open
abbrev pub group_of : Group → reading.Group
group_of g = record { offset = g.offset; mark = occur_of g.occur; is_excluded = g.is_excluded; before = map query_of g.before.items; last = alternative_of g.last }

-- a reading
abbrev pub reading_of : Reading → reading.Reading
reading_of r = record { group = group_of r.group; outer = map group_of (reverse r.outer.items); waiting = r.waiting }
