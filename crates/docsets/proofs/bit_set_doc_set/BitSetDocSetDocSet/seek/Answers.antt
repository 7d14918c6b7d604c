use Rattle.std.proofs.Common.{arith, sym, ◌∙◌, ◌≤◌}
use Rattle.docsets.proofs.EntryLaws.{from-from}
use Rattle.docsets.specs.SetEntries.{set_entries}
use Rattle.docsets.proofs.bit_set_doc_set.BitSetDocSetDocSet.seek.Goals as goal

pub returns-clause-rest : goal.returns-clause-rest
returns-clause-rest c =
    let at = c.args.self.now.at in
    let le : c.args.self.now.doc ≤ c.args.target = omega (arith, at, c.requires.ahead) in
    c.first_document-self.ensures.same ∙ sym (from-from c.args.self.now.doc c.args.target (set_entries c.args.self.now.docs) le)
