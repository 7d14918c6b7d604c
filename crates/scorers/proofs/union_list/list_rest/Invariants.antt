use Rattle.std.proofs.Common.{length, map, ◌++◌, ◌≡◌}
use Rattle.scorers.specs.Signed.{signed}
use Rattle.scorers.specs.Windows.{StandsAt, windowed}
use Rattle.scorers.proofs.union_list.list_rest.Given as goal

-- the documents so far and those that are left make all
abbrev pub invariant-loop-doc : goal.invariant-loop-doc
invariant-loop-doc g l = record {
  stands : StandsAt g.C.ScoreCombiner.answer g.C.ScoreCombiner.total l.present l.slots.items l.fresh l.start (map g.S.DocSet.entries l.docsets.items) l.doc l.bucket;
  all : l.pairs.items ++ signed (windowed g.C.ScoreCombiner.answer l.present l.slots.items l.fresh l.start (map g.S.DocSet.entries l.docsets.items) l.doc) ≡ signed (windowed g.C.ScoreCombiner.answer l.fn.present l.fn.slots.items l.fresh l.fn.start (map g.S.DocSet.entries l.fn.docsets.items) l.fn.doc);
}

abbrev pub decreases-loop-doc : goal.decreases-loop-doc
decreases-loop-doc g l = length (windowed g.C.ScoreCombiner.answer l.present l.slots.items l.fresh l.start (map g.S.DocSet.entries l.docsets.items) l.doc)
