use Rattle.layouts.proofs.EntryBounds.{entry_tells}
use Rattle.layouts.proofs.term_postings_laws.entries_tell_the_bounds_of_blocks.Goals as goal

pub returns : goal.returns
returns c = entry_tells
