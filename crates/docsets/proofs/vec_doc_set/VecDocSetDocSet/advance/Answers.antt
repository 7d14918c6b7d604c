use Rattle.std.proofs.Common.{drop, subst, sym}
use Rattle.docsets.specs.Entries.{Rising}
use Rattle.docsets.proofs.EntryLaws.{Rising-drop}
use Rattle.definitions.specs.ScoredLists.{each_scoring}
use Rattle.docsets.specs.ScoredEntries.{scored}
use Rattle.docsets.proofs.ScoredEntryLaws.{scored-next}
use Rattle.docsets.proofs.vec_doc_set.VecDocSetDocSet.advance.Goals as goal

pub invariant_of-self : goal.invariant_of-self
invariant_of-self c =
    let s = c.args.self.now in
    record { ascends = subst (Rising 0) (sym (scored-next (λ doc. (doc, 0)) s.doc_ids.items s.cursor)) (Rising-drop 1 0 (scored (each_scoring 0 (drop s.cursor s.doc_ids.items))) s.ascends) }

pub returns-clause-rest : goal.returns-clause-rest
returns-clause-rest c = scored-next (λ doc. (doc, 0)) c.args.self.now.doc_ids.items c.args.self.now.cursor
