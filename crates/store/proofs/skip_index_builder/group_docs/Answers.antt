use Rattle.store.proofs.Layering.{docs_read}
use Rattle.store.proofs.skip_index_builder.group_docs.Goals as goal

pub returns : goal.returns
returns c = docs_read c.args.group.now _ _ c.requires
