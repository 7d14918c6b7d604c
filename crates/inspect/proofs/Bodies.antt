-- What a body says, and what it doesn't.
use Rattle.std.proofs.Common.{◌≡◌, Bool, List, false, subst, sym, true, ℕ, ◌∙◌}
use Rattle.std.specs.Prelude.{Contains}
use Rattle.index_file.proofs.BodiesBack.{one_body}
use Rattle.index_file.proofs.PlacesFollow.{follow-rise, rise-ascend, rise-below}
use Rattle.index_file.specs.Bodies.{IsBody}
use Rattle.index_file.specs.Places.{Follow, places_rise}
use Rattle.inspect.specs.Documents.{IsNewIn}
use Rattle.segment_definitions.specs.ListBodies.{Part, fresh}

-- what isn't among the parts of a body isn't new in it
pub not_new : (body segment : List ℕ) (parts : List Part) (sets : List (List Bool)) → IsBody parts sets body → ¬ Contains parts (fresh segment) → ¬ IsNewIn body segment
not_new body segment parts sets is none (others, its, also, has) =
    let same : others ≡ parts = (one_body others parts its sets body also is).0 in
    none (subst (λ (ps : List Part). Contains ps (fresh segment)) same has)

-- places that pass the test follow, and those that don't don't
pub do_follow : (len : ℕ) (parts : List Part) → places_rise 0 len parts ≡ true → Follow len parts
do_follow len parts rise = record { ascend = rise-ascend 0 len parts rise; below = rise-below 0 len parts rise }

pub dont_follow : (len : ℕ) (parts : List Part) → places_rise 0 len parts ≡ false → ¬ Follow len parts
dont_follow len parts fall follow = (let never : false ≡ true = sym fall ∙ follow-rise 0 len parts follow.ascend follow.below in cc)
