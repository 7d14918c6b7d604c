use Rattle.segment_definitions.proofs.Commits.{commit_groups}
use Rattle.segment_definitions.proofs.laws.a_commit_leaves_rows.Goals as goal

pub returns : goal.returns
returns c = λ schema analyze n s rows full last dels seen waits. commit_groups schema analyze n s rows full last dels seen waits.docs waits.long waits.short waits.deletions
