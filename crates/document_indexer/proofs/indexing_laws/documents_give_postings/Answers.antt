use Rattle.std.proofs.Common.{◌∙◌, ap}
use Rattle.layouts.specs.InvertedIndexes.{option_of_term}
use Rattle.postings_writer.specs.Occurrences.{postings_at}
use Rattle.document_indexer.proofs.PostingsOf.{postings_are}
use Rattle.document_indexer.proofs.indexing_laws.documents_give_postings.Goals as goal

pub returns : goal.returns
returns c schema analyze docs os are t = ap (postings_at (option_of_term schema t)) (are t) ∙ postings_are schema analyze t docs
