use Rattle.engine.proofs.FileSayings.{of_its_groups}
use Rattle.engine.proofs.file_laws.what_a_file_leaves_is_of_its_groups.Goals as goal

pub returns : goal.returns
returns c schema fields settings numbers analyze members groups bytes leaves file = of_its_groups schema fields settings numbers analyze members groups bytes leaves file
