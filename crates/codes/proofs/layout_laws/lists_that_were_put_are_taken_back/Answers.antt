use Rattle.codes.proofs.VintListLaws.{all_back, documents_back, numbers_back}
use Rattle.codes.proofs.layout_laws.lists_that_were_put_are_taken_back.Goals as goal

pub returns-clause-numbers : goal.returns-clause-numbers
returns-clause-numbers c = λ ns rest. numbers_back ns rest

pub returns-clause-documents : goal.returns-clause-documents
returns-clause-documents c = λ offset ds rest. documents_back offset ds rest

pub returns-clause-all : goal.returns-clause-all
returns-clause-all c = λ room ns. all_back room ns
