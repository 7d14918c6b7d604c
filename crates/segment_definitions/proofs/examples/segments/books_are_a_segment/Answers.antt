use Rattle.segment_definitions.proofs.BookSegment.{book_segment}
use Rattle.segment_definitions.proofs.examples.segments.books_are_a_segment.Goals as goal

pub returns-clause-of_documents : goal.returns-clause-of_documents
returns-clause-of_documents c = book_segment
