use Rattle.std.proofs.Common.{take, ◌+◌, ◌≡◌}
use Rattle.definitions.specs.Merging.{num_living}
use Rattle.merging.specs.Mappings.{new_docs}
use Rattle.merging.proofs.doc_id_mapping.DocIdMapping.new.Given as goal

-- the numbers of the documents so far
abbrev pub invariant-loop-doc : goal.invariant-loop-doc
invariant-loop-doc l = record {
  docs : l.new_doc_ids.items ≡ new_docs l.base (take l.doc l.alive);
  end : l.end ≡ l.base + num_living (take l.doc l.alive);
}
