use Rattle.definitions.proofs.HitsOfScans.{scan-in_order, scan-without_places}
use Rattle.definitions.proofs.scan_laws.equal_scores_stand_in_order.Goals as goal

pub returns-clause-without_places : goal.returns-clause-without_places
returns-clause-without_places c = scan-without_places

pub returns-clause-in_order : goal.returns-clause-in_order
returns-clause-in_order c = scan-in_order
