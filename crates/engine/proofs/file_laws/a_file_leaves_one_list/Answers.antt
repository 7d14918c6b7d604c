use Rattle.engine.proofs.FileSayings.{one_list}
use Rattle.engine.proofs.file_laws.a_file_leaves_one_list.Goals as goal

pub returns : goal.returns
returns c schema fields settings numbers members others bytes first second = one_list schema fields settings numbers members others bytes first second
