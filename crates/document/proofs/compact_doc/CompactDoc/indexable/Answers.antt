use Rattle.std.proofs.Common.{rules, true, ◌≡◌}
use Rattle.definitions.specs.Indexable.{is_indexable}
use Rattle.document.proofs.Shallow.{indexable_shallow}
use Rattle.document.proofs.compact_doc.CompactDoc.indexable.Goals as goal

-- src/indexable.rt:21:5
pub returns-clause-nests : goal.returns-clause-nests
returns-clause-nests c told =
    let all : is_indexable c.args.schema.now c.args.self.now ≡ true = search rules in
    indexable_shallow c.args.schema.now c.args.self.now all
