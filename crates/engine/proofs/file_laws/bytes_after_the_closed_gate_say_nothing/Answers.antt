use Rattle.std.proofs.Common.{length, refl}
use Rattle.layouts.specs.RecordFiles.{records}
use Rattle.layouts.proofs.FilesOfRecords.{any_rest}
use Rattle.engine.proofs.file_laws.bytes_after_the_closed_gate_say_nothing.Goals as goal

pub returns : goal.returns
returns c schema settings analyze groups bytes more (bodies, file, says) = (bodies, (any_rest bodies bytes more (length (records bodies)) (record { file = file; place = refl })).file, says)
