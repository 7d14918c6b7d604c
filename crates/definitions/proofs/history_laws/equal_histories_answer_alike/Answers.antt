use Rattle.definitions.proofs.Histories.{SameList-add, SameList-commit, SameList-delete, SameList-merge, SameList-sym}
use Rattle.definitions.specs.State.{after_merge}
use Rattle.definitions.proofs.history_laws.equal_histories_answer_alike.Goals as goal

pub returns-clause-add : goal.returns-clause-add
returns-clause-add c = SameList-add

pub returns-clause-delete : goal.returns-clause-delete
returns-clause-delete c = SameList-delete

pub returns-clause-commit : goal.returns-clause-commit
returns-clause-commit c = SameList-commit

pub returns-clause-merge : goal.returns-clause-merge
returns-clause-merge c = SameList-merge

pub returns-clause-other_merge : goal.returns-clause-other_merge
returns-clause-other_merge c from to s t l same = SameList-sym (after_merge from to t) s (SameList-merge from to t s l (SameList-sym s t same))
