use Rattle.document.proofs.BinaryForm.{document_put, value_put}
use Rattle.document.proofs.document_laws.what_is_taken_was_put.Goals as goal

pub returns-clause-value : goal.returns-clause-value
returns-clause-value c = value_put

pub returns-clause-document : goal.returns-clause-document
returns-clause-document c = document_put
