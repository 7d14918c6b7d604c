use Rattle.definitions.proofs.ApartLists.{no_two_meet}
use Rattle.definitions.proofs.examples.scored_lists.enough_lists_have_a_document.Goals as goal

pub returns-clause-one_each : goal.returns-clause-one_each
returns-clause-one_each c = no_two_meet 1 9999
