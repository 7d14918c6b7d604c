use Rattle.layouts.proofs.FilesOfRecords.{one_reading}
use Rattle.layouts.proofs.record_file_laws.a_file_has_one_list_of_bodies.Goals as goal

pub returns : goal.returns
returns c = one_reading
