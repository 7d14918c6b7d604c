use Rattle.index_file.proofs.BodiesBack.{one_body}
use Rattle.index_file.proofs.laws.a_body_says_one_list.Goals as goal

pub returns-clause-parts : goal.returns-clause-parts
returns-clause-parts c = λ p q a b body pa qb. (one_body p q a b body pa qb).0

pub returns-clause-sets : goal.returns-clause-sets
returns-clause-sets c = λ p q a b body pa qb. (one_body p q a b body pa qb).1
