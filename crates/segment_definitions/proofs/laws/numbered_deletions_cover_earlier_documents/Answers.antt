use Rattle.segment_definitions.proofs.Deletings.{cut_rows, struck_end, struck_next, struck_none, struck_whole}
use Rattle.segment_definitions.proofs.laws.numbered_deletions_cover_earlier_documents.Goals as goal

pub returns-clause-next : goal.returns-clause-next
returns-clause-next c = struck_next

pub returns-clause-none : goal.returns-clause-none
returns-clause-none c = struck_end

pub returns-clause-before : goal.returns-clause-before
returns-clause-before c = struck_whole

pub returns-clause-behind : goal.returns-clause-behind
returns-clause-behind c = struck_none

pub returns-clause-cut : goal.returns-clause-cut
returns-clause-cut c = cut_rows
