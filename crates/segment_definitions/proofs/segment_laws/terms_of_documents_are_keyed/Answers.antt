use Rattle.segment_definitions.proofs.DocumentKeys.{indexed_keyed}
use Rattle.segment_definitions.proofs.segment_laws.terms_of_documents_are_keyed.Goals as goal

pub returns : goal.returns
returns c = indexed_keyed
