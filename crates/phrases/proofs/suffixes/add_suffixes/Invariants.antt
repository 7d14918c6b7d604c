use Rattle.std.proofs.Common.{drop, map, take, vec_capacity, ◌++◌, ◌*◌, ◌≡◌, ◌≤◌}
use Rattle.docsets.specs.Entries.{from}
use Rattle.phrases.specs.Rows.{AreRows, added, docs_of, end_of, most_count}
use Rattle.phrases.proofs.suffixes.add_suffixes.Given as goal

-- with what the other suffixes add, rows are what they were with all; the suffixes so far are behind all rows
abbrev pub invariant-loop-i : goal.invariant-loop-i
invariant-loop-i g l = record {
  lists : map g.P.DocSet.entries l.suffixes.items ≡ map (from (end_of (docs_of l.fn.rows.items))) (take l.i (map g.P.DocSet.entries l.fn.suffixes.items)) ++ drop l.i (map g.P.DocSet.entries l.fn.suffixes.items);
  added : map (added l.moved l.places (drop l.i (map g.P.DocSet.entries l.fn.suffixes.items))) l.rows.items ≡ map (added l.moved l.places (map g.P.DocSet.entries l.fn.suffixes.items)) l.fn.rows.items;
  docs : docs_of l.rows.items ≡ docs_of l.fn.rows.items;
  rows : AreRows l.places l.rows.items;
  few : most_count l.rows.items ≤ l.i * 4294967295;
  room : vec_capacity l.fn.positions ≤ vec_capacity l.positions;
  rows_room : vec_capacity l.rows ≡ vec_capacity l.fn.rows;
}
