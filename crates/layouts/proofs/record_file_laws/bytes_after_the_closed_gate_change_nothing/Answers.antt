use Rattle.layouts.proofs.FilesOfRecords.{any_rest, cut_at_rest, ends_at_rest}
use Rattle.layouts.proofs.record_file_laws.bytes_after_the_closed_gate_change_nothing.Goals as goal

pub returns-clause-added : goal.returns-clause-added
returns-clause-added c = λ content more gate bodies rest. any_rest bodies content more gate (ends_at_rest bodies content gate rest)

pub returns-clause-cut : goal.returns-clause-cut
returns-clause-cut c = λ content gate bodies ends. cut_at_rest bodies content gate ends
