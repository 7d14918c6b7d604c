use Rattle.definitions.proofs.Histories.{history-same_list}
use Rattle.definitions.proofs.history_laws.merges_and_segment_sizes_do_not_matter.Goals as goal

pub returns : goal.returns
returns c = history-same_list
