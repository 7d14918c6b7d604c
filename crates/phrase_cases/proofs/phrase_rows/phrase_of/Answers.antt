use Rattle.segment_postings.specs.Cursors.{entries_left}
use Rattle.segment_postings.specs.CursorsLaws.{rising_left}
use Rattle.phrase_cases.proofs.Covered.{all-covered}
use Rattle.phrase_cases.proofs.phrase_rows.phrase_of.Goals as goal

pub new-requires-clause-covered : goal.new-requires-clause-covered
new-requires-clause-covered c = all-covered entries_left rising_left _ _ c.one_length-lengths.ensures
