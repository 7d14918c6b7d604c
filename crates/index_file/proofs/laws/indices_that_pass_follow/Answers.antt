use Rattle.index_file.proofs.PlacesFollow.{follow-rise, rise-ascend, rise-below}
use Rattle.index_file.proofs.laws.indices_that_pass_follow.Goals as goal

pub returns-clause-passed : goal.returns-clause-passed
returns-clause-passed c = λ len parts rise. record { ascend = rise-ascend 0 len parts rise; below = rise-below 0 len parts rise }

pub returns-clause-all : goal.returns-clause-all
returns-clause-all c = λ len parts follow. follow-rise 0 len parts follow.ascend follow.below
