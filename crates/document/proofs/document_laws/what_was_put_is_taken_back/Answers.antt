use Rattle.document.proofs.BinaryForm.{document_back, value_back}
use Rattle.document.proofs.document_laws.what_was_put_is_taken_back.Goals as goal

pub returns-clause-value : goal.returns-clause-value
returns-clause-value c = value_back

pub returns-clause-document : goal.returns-clause-document
returns-clause-document c = document_back
