use Rattle.std.proofs.Common.{List, take, ◌++◌, ◌+◌, ◌≡◌, ℕ}
use Rattle.std.specs.List.{items_where_true}
use Rattle.common.specs.BitSets.{count_set}
use Rattle.layouts.specs.Stores.{Hold}
use Rattle.store.specs.Writing.{HoldsSlots, docs_of}
use Rattle.merging.proofs.living_slots.append_slots.Given as goal

-- the slots of the documents so far
abbrev pub invariant-loop-doc : goal.invariant-loop-doc
invariant-loop-doc l = record {
  held : (held slots : List (List ℕ)) → HoldsSlots l.fn.writer held → Hold l.store.blocks slots → HoldsSlots l.writer (held ++ items_where_true (take l.doc l.alive) (take l.doc slots));
  docs : docs_of l.writer ≡ docs_of l.fn.writer + count_set (take l.doc l.alive);
  size : l.writer.block_size ≡ l.fn.writer.block_size;
}
