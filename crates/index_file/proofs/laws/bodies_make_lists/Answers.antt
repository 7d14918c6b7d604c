use Rattle.index_file.proofs.PlacesFollow.{body_makes, body_says, made_body}
use Rattle.index_file.proofs.laws.bodies_make_lists.Goals as goal

pub returns-clause-says : goal.returns-clause-says
returns-clause-says c = body_says

pub returns-clause-makes : goal.returns-clause-makes
returns-clause-makes c = body_makes

pub returns-clause-only : goal.returns-clause-only
returns-clause-only c = λ schema before after body none makes. none makes.parts _ (made_body schema before after body makes)
