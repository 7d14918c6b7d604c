-- The sets so far and those left make all.
use Rattle.std.proofs.Common.{drop, map, replicate, true, ◌++◌, ◌≡◌}
use Rattle.index_state.specs.declared.new_segments.NewSegment.{NewSegment}
use Rattle.index_state.proofs.commit_record.sets_with_new.Given as goal

abbrev pub invariant-loop-new : goal.invariant-loop-new
invariant-loop-new l = l.sets.items ++ map (λ (n : NewSegment). replicate n.num_docs true) (drop l.new-index l.news) ≡ l.fn.alive ++ map (λ (n : NewSegment). replicate n.num_docs true) l.news
