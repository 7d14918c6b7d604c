use Rattle.std.proofs.Common.{length, map, reverse, ◌++◌, ◌-◌, ◌≡◌}
use Rattle.phrases.specs.PhraseEntries.{placed}
use Rattle.phrases.proofs.adjusted_terms.adjusted.Given as goal

-- those that are moved and those that are left are all
abbrev pub invariant-loop-offset : goal.invariant-loop-offset
invariant-loop-offset g l = map (λ s. placed s.offset (g.P.DocSet.entries s.postings)) l.docsets.items ++ map (λ t. placed (l.greatest - t.0) (g.P.DocSet.entries t.1)) (reverse l.left.items) ≡ map (λ t. placed (l.greatest - t.0) (g.P.DocSet.entries t.1)) l.fn.term_postings.items

abbrev pub decreases-loop-offset : goal.decreases-loop-offset
decreases-loop-offset g l = length l.left.items
