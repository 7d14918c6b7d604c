use Rattle.definitions.proofs.Histories.{SameList-commit}
use Rattle.definitions.proofs.history_laws.segment_sizes_do_not_matter.Goals as goal

pub returns : goal.returns
returns c schema analyze m n s t l k same = (SameList-commit schema analyze m n s t l k same).0
