use Rattle.definitions.proofs.HitsOfScans.{length-scan, scan-all}
use Rattle.definitions.proofs.scan_laws.all_that_match_are_hits.Goals as goal

pub returns-clause-up_to_the_limit : goal.returns-clause-up_to_the_limit
returns-clause-up_to_the_limit c = length-scan

pub returns-clause-all : goal.returns-clause-all
returns-clause-all c = scan-all
