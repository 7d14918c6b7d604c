use Rattle.codes.proofs.VintListLaws.{all_stood, documents_stood, numbers_stood}
use Rattle.codes.proofs.layout_laws.lists_that_are_taken_were_put.Goals as goal

pub returns-clause-numbers : goal.returns-clause-numbers
returns-clause-numbers c = λ n bs ns rest. numbers_stood n bs ns rest

pub returns-clause-documents : goal.returns-clause-documents
returns-clause-documents c = λ offset n bs ds rest. documents_stood offset n bs ds rest

pub returns-clause-all : goal.returns-clause-all
returns-clause-all c = λ room bs ns. all_stood room bs ns
