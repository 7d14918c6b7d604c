-- A body makes a list exactly where its indices follow and each of its parts has a member.
use Rattle.std.proofs.Common.{◌++◌, ◌≡◌, ◌≤◌, ◌∙◌, Bool, List, ap, arith, drop, false, flat_map, length, subst, sym, true, true≢false, ℕ}
use Rattle.definitions.specs.Schema.{Schema}
use Rattle.layouts.specs.AliveSets.{alive_bytes}
use Rattle.index_file.specs.Bodies.{IsBody}
use Rattle.index_file.specs.Places.{places_rise}
use Rattle.index_file.proofs.BodiesBack.{body_is}
use Rattle.index_file.proofs.PlacesFollow.{body_makes, body_says, follow-rise, made_body, rise-ascend, rise-below}
use Rattle.segment_definitions.specs.ListBodies.{Makes, Member, Part, part_bytes}
use Rattle.segment_definitions.specs.Segments.{IsSegment}
use Rattle.index_file.specs.Lists.{AreNext}
use Rattle.index_file.proofs.ListsMade.{next_parts, parts_next}

pub no_body : (schema : Schema) (before after : List Member) (body : List ℕ) → ((parts : List Part) (sets : List (List Bool)) → ¬ IsBody parts sets body) → ¬ Makes (IsSegment schema) before after body
no_body schema before after body none makes = none makes.parts _ (made_body schema before after body makes)

pub not_following : (schema : Schema) (before after : List Member) (parts : List Part) (sets : List (List Bool)) (body : List ℕ) → IsBody parts sets body → places_rise 0 (length before) parts ≡ false → ¬ Makes (IsSegment schema) before after body
not_following schema before after parts sets body is falls makes =
    let says = body_says schema before after parts sets body is makes in
    true≢false (sym (follow-rise 0 (length before) parts says.follow.ascend says.follow.below) ∙ falls)

pub next_makes : (schema : Schema) (before after : List Member) (parts : List Part) (sets : List (List Bool)) (body : List ℕ) → IsBody parts sets body → places_rise 0 (length before) parts ≡ true → AreNext schema before parts sets after → Makes (IsSegment schema) before after body
next_makes schema before after parts sets body is rise next =
    let told = next_parts schema before parts sets after next in
    body_makes schema before after parts sets body is (record {
      flags = told.2;
      follow = record { ascend = rise-ascend 0 (length before) parts rise; below = rise-below 0 (length before) parts rise };
      parts_are = told.0;
      members = told.1;
    })

pub none_makes : (schema : Schema) (before after : List Member) (parts : List Part) (sets : List (List Bool)) (body : List ℕ) → IsBody parts sets body → ¬ AreNext schema before parts sets after → ¬ Makes (IsSegment schema) before after body
none_makes schema before after parts sets body is none makes =
    let says = body_says schema before after parts sets body is makes in
    none (subst (λ ss. AreNext schema before parts ss after) (sym says.flags) (parts_next schema before parts after says.parts_are says.members))

-- behind its first five bytes a body has its parts
pub body_begins : (parts : List Part) (sets : List (List Bool)) (body : List ℕ) → IsBody parts sets body → (5 ≤ length body) × (drop 5 body ≡ flat_map part_bytes parts ++ flat_map alive_bytes sets)
body_begins parts sets body is =
    let whole = is.body_is ∙ body_is parts sets in
    let long = ap length whole in
    (omega (arith, long), ap (drop 5) whole)
