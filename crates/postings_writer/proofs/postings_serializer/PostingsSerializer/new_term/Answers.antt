use Rattle.postings_writer.proofs.WrittenPostings.{nothing_stands}
use Rattle.postings_writer.proofs.postings_serializer.PostingsSerializer.new_term.Goals as goal

pub returns-clause-nothing : goal.returns-clause-nothing
returns-clause-nothing c = nothing_stands c.clear.new.self _ _ _ c.clear.ensures
