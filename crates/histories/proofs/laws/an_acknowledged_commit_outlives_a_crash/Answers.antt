use Rattle.histories.proofs.Scans.{commit_outlives}
use Rattle.histories.proofs.laws.an_acknowledged_commit_outlives_a_crash.Goals as goal

pub returns : goal.returns
returns c k s t call commit merge leads = commit_outlives k s t call commit merge leads
