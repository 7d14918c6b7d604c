use Rattle.index_file.proofs.FilesCut.{lists_cut, lists_followed}
use Rattle.index_file.proofs.file_laws.bytes_behind_the_closed_gate_change_no_list.Goals as goal

pub returns-clause-cut : goal.returns-clause-cut
returns-clause-cut c = lists_cut

pub returns-clause-added : goal.returns-clause-added
returns-clause-added c = lists_followed
