use Rattle.std.proofs.Common.{true≢false}
use Rattle.definitions.specs.declared.fault.Fault.TheVariants as faults
use Rattle.definitions.proofs.OwnFaults.{refused_by_no_failure}
use Rattle.definitions.proofs.call_laws.no_call_is_refused_by_a_failure.Goals as goal

pub returns-clause-memory : goal.returns-clause-memory
returns-clause-memory g c x call is = true≢false (refused_by_no_failure c x call faults.OutOfMemory is)

pub returns-clause-limit : goal.returns-clause-limit
returns-clause-limit g c x call is = true≢false (refused_by_no_failure c x call faults.Limit is)

pub returns-clause-device : goal.returns-clause-device
returns-clause-device g c x call is = true≢false (refused_by_no_failure c x call faults.Device is)

pub returns-clause-damaged : goal.returns-clause-damaged
returns-clause-damaged g c x call gate is = true≢false (refused_by_no_failure c x call (faults.Damaged gate) is)
