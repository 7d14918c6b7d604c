use Rattle.definitions.proofs.HitsOfScans.{scan-never_rises}
use Rattle.definitions.proofs.scan_laws.scores_never_rise.Goals as goal

pub returns : goal.returns
returns c = scan-never_rises
