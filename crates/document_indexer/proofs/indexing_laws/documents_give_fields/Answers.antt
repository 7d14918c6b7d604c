use Rattle.std.proofs.Common.{◌∙◌, ap}
use Rattle.layouts.specs.InvertedIndexes.{option_of_term}
use Rattle.postings_writer.specs.Occurrences.{postings_at}
use Rattle.document_indexer.proofs.PostingsOf.{given_are, postings_are}
use Rattle.document_indexer.proofs.indexing_laws.documents_give_fields.Goals as goal

pub returns : goal.returns
returns c schema analyze docs os fields are given = given_are schema _ _ fields (λ t. ap (postings_at (option_of_term schema t)) (are t) ∙ postings_are schema analyze t docs) given
