use Rattle.definitions.proofs.HitsOfScans.{scan-of_its_document, scan-of_one_document}
use Rattle.definitions.proofs.scan_laws.a_hit_is_its_documents_alone.Goals as goal

pub returns-clause-of_one : goal.returns-clause-of_one
returns-clause-of_one c = scan-of_one_document

pub returns-clause-at_its_place : goal.returns-clause-at_its_place
returns-clause-at_its_place c = scan-of_its_document
