use Rattle.definitions.proofs.DocumentBounds.{blocks_of_documents, documents_below_bounds}
use Rattle.definitions.proofs.score_laws.no_document_scores_above_its_bound.Goals as goal

pub returns-clause-blocks : goal.returns-clause-blocks
returns-clause-blocks c = blocks_of_documents

pub returns-clause-below : goal.returns-clause-below
returns-clause-below c = documents_below_bounds
