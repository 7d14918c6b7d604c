use Rattle.merging.proofs.MembersWritten.{as_defined}
use Rattle.merging.proofs.merge_laws.postings_are_merged.Goals as goal

pub returns : goal.returns
returns c schema num_docs members all field key are = as_defined schema 0 num_docs members all field key are
