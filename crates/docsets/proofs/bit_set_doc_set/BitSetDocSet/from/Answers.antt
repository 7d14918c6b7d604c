use Rattle.std.proofs.Common.{arith, ◌∙◌}
use Rattle.docsets.proofs.EntryLaws.{from-first}
use Rattle.docsets.specs.SetEntries.{set_entries}
use Rattle.docsets.specs.SetEntryLaws.{Rising-flags}
use Rattle.docsets.proofs.bit_set_doc_set.BitSetDocSet.from.Goals as goal

pub returns : goal.returns
returns c = c.first_document-doc.ensures.same ∙ from-first 0 0 (set_entries c.args.docs) (omega arith) (Rising-flags 0 c.args.docs (omega (arith, c.requires)))
