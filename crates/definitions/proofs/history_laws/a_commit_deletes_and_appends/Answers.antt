use Rattle.definitions.proofs.Histories.{committed-commit}
use Rattle.definitions.proofs.history_laws.a_commit_deletes_and_appends.Goals as goal

pub returns : goal.returns
returns c schema analyze n s l = committed-commit schema analyze n s l
