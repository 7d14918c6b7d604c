use Rattle.segment_definitions.proofs.Deletings.{left_end, left_next}
use Rattle.segment_definitions.proofs.RowsLeft.{living_left}
use Rattle.segment_definitions.proofs.laws.deletions_filter_the_living.Goals as goal

pub returns-clause-filters : goal.returns-clause-filters
returns-clause-filters c = living_left

pub returns-clause-next : goal.returns-clause-next
returns-clause-next c = left_next

pub returns-clause-none : goal.returns-clause-none
returns-clause-none c = left_end
