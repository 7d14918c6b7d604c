use Rattle.layouts.proofs.DocumentEntries.{bounds_told}
use Rattle.layouts.proofs.term_postings_laws.entries_tell_the_bounds_of_documents.Goals as goal

pub returns : goal.returns
returns c = bounds_told
