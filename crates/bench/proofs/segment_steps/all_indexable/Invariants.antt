use Rattle.std.proofs.Common.{take}
use Rattle.std.specs.List.{AllByRecursion}
use Rattle.document.specs.Shallow.{IsShallow}
use Rattle.bench.proofs.segment_steps.all_indexable.Given as goal

-- those before can be indexed
abbrev pub invariant-loop-doc : goal.invariant-loop-doc
invariant-loop-doc l = AllByRecursion IsShallow (take l.doc-index l.docs)
