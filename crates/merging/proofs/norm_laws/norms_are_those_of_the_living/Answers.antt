use Rattle.merging.proofs.NormsOfLiving.{norms_living}
use Rattle.merging.proofs.norm_laws.norms_are_those_of_the_living.Goals as goal

pub returns : goal.returns
returns c schema analyze members segments are = norms_living schema analyze members segments are
