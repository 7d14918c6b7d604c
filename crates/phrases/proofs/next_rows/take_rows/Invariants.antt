use Rattle.std.proofs.Common.{length, map, vec_capacity, ◌++◌, ◌-◌, ◌≡◌, ◌≤◌}
use Rattle.docsets.specs.Entries.{IsRest, first}
use Rattle.definitions.specs.Postings.{terminated}
use Rattle.phrases.specs.Rows.{AreRows, most_count, row_entries, uncounted}
use Rattle.phrases.proofs.next_rows.take_rows.Given as goal

-- the rows and what is left of the phrase are all
abbrev pub invariant-loop-doc : goal.invariant-loop-doc
invariant-loop-doc g l = record {
  at : l.doc ≡ first (g.W.DocSet.entries l.phrase);
  taken : map uncounted (g.W.DocSet.entries l.fn.phrase) ≡ row_entries l.places.items l.rows.items ++ map uncounted (g.W.DocSet.entries l.phrase);
  rest : IsRest (g.W.DocSet.entries l.phrase) (g.W.DocSet.entries l.fn.phrase);
  rows : AreRows l.places.items l.rows.items;
  fresh : most_count l.rows.items ≡ 0;
  few : length l.rows.items ≤ l.limit;
  some : length l.rows.items ≡ 0 → l.doc ≡ first (g.W.DocSet.entries l.fn.phrase);
  none : length l.rows.items ≡ 0 → length l.places.items ≡ 0;
  rows_room : vec_capacity l.rows ≡ vec_capacity l.fn.rows;
  places_room : vec_capacity l.places ≡ vec_capacity l.fn.places;
  here_room : vec_capacity l.fn.here ≤ vec_capacity l.here;
}

abbrev pub decreases-loop-doc : goal.decreases-loop-doc
decreases-loop-doc g l = terminated - l.doc
