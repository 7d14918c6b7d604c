use Rattle.document.proofs.SameDocuments.{same_decides}
use Rattle.document.proofs.document_laws.equal_documents_have_equal_pairs.Goals as goal

pub returns : goal.returns
returns c = same_decides
