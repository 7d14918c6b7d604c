use Rattle.segment_definitions.proofs.BareFile.{a_flag_each, none_dead, none_left_out}
use Rattle.segment_definitions.proofs.examples.index_files.groups_are_of_the_living.Goals as goal

pub returns-clause-dead : goal.returns-clause-dead
returns-clause-dead c = none_dead

pub returns-clause-alive : goal.returns-clause-alive
returns-clause-alive c = none_left_out

pub returns-clause-flags : goal.returns-clause-flags
returns-clause-flags c = a_flag_each
