use Rattle.std.proofs.Common.{refl}
use Rattle.definitions.proofs.CallAnswers.{left_answered, left_by_closed_writer, left_by_reading, left_closed, left_closing_writer, left_damaged, left_device, left_limit, left_refused, left_state, left_without_memory, left_without_room, left_writer_closed}
use Rattle.definitions.proofs.call_laws.what_a_call_leaves.Goals as goal

pub returns-clause-answered : goal.returns-clause-answered
returns-clause-answered g c x y call left = left_answered c x call left refl

pub returns-clause-refused : goal.returns-clause-refused
returns-clause-refused g c x y call fault left = left_refused c x call fault left refl

pub returns-clause-device : goal.returns-clause-device
returns-clause-device g c x y call left = left_device c x call left refl

pub returns-clause-damaged : goal.returns-clause-damaged
returns-clause-damaged g c x y call left = left_damaged c x call left refl

pub returns-clause-limit : goal.returns-clause-limit
returns-clause-limit g c x y call left = left_limit c x call left refl

pub returns-clause-memory_in_a_commit : goal.returns-clause-memory_in_a_commit
returns-clause-memory_in_a_commit g c x y left = left_without_memory c x left refl

pub returns-clause-state : goal.returns-clause-state
returns-clause-state g c x y call fault left = left_state c x call fault left refl

pub returns-clause-reads : goal.returns-clause-reads
returns-clause-reads g c x y call answer left = left_by_reading c x call left

pub returns-clause-closed : goal.returns-clause-closed
returns-clause-closed g c x y call answer left = left_closed c x call left

pub returns-clause-no_room : goal.returns-clause-no_room
returns-clause-no_room g c x y call left = left_without_room c x call left refl

pub returns-clause-writer_closed : goal.returns-clause-writer_closed
returns-clause-writer_closed g c x y call left = left_writer_closed c x call left refl

pub returns-clause-by_a_closed_writer : goal.returns-clause-by_a_closed_writer
returns-clause-by_a_closed_writer g c x y call answer left = left_by_closed_writer c x call left

pub returns-clause-closing_the_writer : goal.returns-clause-closing_the_writer
returns-clause-closing_the_writer g c x y call answer left = left_closing_writer c x call left
