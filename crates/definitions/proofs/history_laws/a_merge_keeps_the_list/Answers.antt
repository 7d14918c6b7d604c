use Rattle.definitions.proofs.Histories.{committed-merge, num_segments-merge, num_segments-merge_nothing}
use Rattle.definitions.proofs.history_laws.a_merge_keeps_the_list.Goals as goal

pub returns-clause-list : goal.returns-clause-list
returns-clause-list c = committed-merge

pub returns-clause-one_group : goal.returns-clause-one_group
returns-clause-one_group c = num_segments-merge

pub returns-clause-no_group : goal.returns-clause-no_group
returns-clause-no_group c = num_segments-merge_nothing
