use Rattle.std.proofs.Common.{length, map, slice_index, vec_capacity, ◌-◌, ◌<◌, ◌≡◌, ◌≤◌, ℕ}
use Rattle.docsets.specs.Entries.{first, from, most_positions}
use Rattle.definitions.specs.Postings.{terminated}
use Rattle.phrases.specs.Rows.{AreRows, added_one, docs_of, end_of}
use Rattle.phrases.proofs.suffixes.add_suffix.Given as goal

-- with what the suffix is to add, rows are what they were with all that it adds; those that were passed are behind it
abbrev pub invariant-loop-index : goal.invariant-loop-index
invariant-loop-index g l = record {
  at : l.doc ≡ first (g.P.DocSet.entries l.suffix);
  added : map (added_one l.moved l.places (g.P.DocSet.entries l.suffix)) l.rows.items ≡ map (added_one l.moved l.places (g.P.DocSet.entries l.fn.suffix)) l.fn.rows.items;
  docs : docs_of l.rows.items ≡ docs_of l.fn.rows.items;
  rows : AreRows l.places l.rows.items;
  rest : from (end_of (docs_of l.fn.rows.items)) (g.P.DocSet.entries l.suffix) ≡ from (end_of (docs_of l.fn.rows.items)) (g.P.DocSet.entries l.fn.suffix);
  most : most_positions (g.P.DocSet.entries l.suffix) ≤ most_positions (g.P.DocSet.entries l.fn.suffix);
  within : l.index ≤ length l.rows.items;
  passed : (k : ℕ) → k < l.index → slice_index (docs_of l.rows.items) k < l.doc;
  found : l.index < length l.rows.items → l.doc ≤ slice_index (docs_of l.rows.items) l.index;
  room : vec_capacity l.fn.positions ≤ vec_capacity l.positions;
  rows_room : vec_capacity l.rows ≡ vec_capacity l.fn.rows;
}

abbrev pub decreases-loop-index : goal.decreases-loop-index
decreases-loop-index g l = terminated - l.doc
