use Rattle.docsets.proofs.ScoredEntryLaws.{Rising-scored}
use Rattle.definitions.specs.ScoredLists.{each_scoring}
use Rattle.docsets.proofs.vec_doc_set.VecDocSet.from.Goals as goal

pub invariant_of-result : goal.invariant_of-result
invariant_of-result c = record { ascends = Rising-scored 0 (each_scoring 0 c.args.doc_ids.items) c.requires }
