use Rattle.std.proofs.Common.{length, map, ◌++◌, ◌-◌, ◌≡◌, ◌≤◌, ℕ}
use Rattle.docsets.specs.Entries.{IsRest, first}
use Rattle.definitions.specs.Postings.{terminated}
use Rattle.phrases.specs.PrefixEntries.{most_suffix_positions, prefixed}
use Rattle.phrases.specs.Windows.{IsWindow, left_in}
use Rattle.phrases.proofs.suffix_windows.refill.Given as goal

-- the rows that are left and what the phrase will give are all
abbrev pub invariant-loop-doc : goal.invariant-loop-doc
invariant-loop-doc g l = record {
  at : l.doc ≡ first (left_in l.window);
  same : left_in l.window ++ prefixed l.moved (map g.P.DocSet.entries l.suffixes.items) (g.W.DocSet.entries l.phrase) ≡ left_in l.fn.window ++ prefixed l.moved (map g.P.DocSet.entries l.fn.suffixes.items) (g.W.DocSet.entries l.fn.phrase);
  rest : IsRest (g.W.DocSet.entries l.phrase) (g.W.DocSet.entries l.fn.phrase);
  most : most_suffix_positions (map g.P.DocSet.entries l.suffixes.items) ≤ most_suffix_positions (map g.P.DocSet.entries l.fn.suffixes.items);
  long : length l.suffixes.items ≡ length l.fn.suffixes.items;
  window : (n m : ℕ) → IsWindow l.fn.window n m → IsWindow l.window n m;
}

abbrev pub decreases-loop-doc : goal.decreases-loop-doc
decreases-loop-doc g l = terminated - first (g.W.DocSet.entries l.phrase)
