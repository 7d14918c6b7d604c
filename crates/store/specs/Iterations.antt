-- Where an iteration over a store stands.
use Rattle.std.specs.Prelude.{Bool, List, Option, option_map, ℕ}
use Rattle.store.specs.Slots.{Reader}
use Rattle.store.specs.declared.store_iter.StoreIter.{StoreIter}

-- the reader that it goes over
abbrev pub reader_of : StoreIter → Reader
reader_of iteration = iteration.reader.now

-- which documents are alive, where it gives only these
abbrev pub flags_of : StoreIter → Option (List Bool)
flags_of iteration = option_map (λ alive. alive.now) iteration.alive

-- the least document that it may still give
abbrev pub doc_of : StoreIter → ℕ
doc_of iteration = iteration.doc
