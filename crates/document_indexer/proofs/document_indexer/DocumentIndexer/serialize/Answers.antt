use Rattle.std.proofs.Common.{ap, rules, ◌∙◌, ◌≡◌}
use Rattle.layouts.specs.FieldNorms.{norms_bytes}
use Rattle.document_indexer.proofs.KeptLengths.{lengths_written}
use Rattle.document_indexer.proofs.document_indexer.DocumentIndexer.serialize.Goals as goal

pub returns-clause-lengths : goal.returns-clause-lengths
returns-clause-lengths c analyze docs h =
    let spelled : c.in_ok-norms.norms.items ≡ norms_bytes c.args.self.now.norms = search rules in
    lengths_written c.args.schema.now analyze docs c.in_ok-norms.norms.items (spelled ∙ ap norms_bytes h.norms_are)
