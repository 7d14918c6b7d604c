use Rattle.definitions.proofs.Histories.{commit-nothing}
use Rattle.definitions.proofs.history_laws.a_commit_without_pending_calls_changes_nothing.Goals as goal

pub returns : goal.returns
returns c = commit-nothing
