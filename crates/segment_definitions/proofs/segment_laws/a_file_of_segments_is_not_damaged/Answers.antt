use Rattle.layouts.proofs.FilesOfRecords.{one_damage}
use Rattle.segment_definitions.specs.IndexFiles.{TakesSegments}
use Rattle.segment_definitions.proofs.OneList.{bodies_taken, undamaged}
use Rattle.segment_definitions.proofs.segment_laws.a_file_of_segments_is_not_damaged.Goals as goal

pub returns-clause-taken : goal.returns-clause-taken
returns-clause-taken c = bodies_taken

pub returns-clause-undamaged : goal.returns-clause-undamaged
returns-clause-undamaged c = undamaged

pub returns-clause-one_offset : goal.returns-clause-one_offset
returns-clause-one_offset c = one_damage TakesSegments
