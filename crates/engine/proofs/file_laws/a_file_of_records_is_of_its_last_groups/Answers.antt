use Rattle.engine.proofs.FileSayings.{last_groups}
use Rattle.engine.proofs.file_laws.a_file_of_records_is_of_its_last_groups.Goals as goal

pub returns : goal.returns
returns c schema settings analyze groups bytes leaves = last_groups schema settings analyze groups bytes leaves
