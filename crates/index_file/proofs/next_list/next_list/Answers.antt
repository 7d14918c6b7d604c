use Rattle.std.proofs.Common.{IfNone, IfSome, List, map, subst, Bool, ℕ}
use Rattle.index_file.specs.Bodies.{IsBody}
use Rattle.index_file.specs.Parts.{part_of}
use Rattle.segment_definitions.specs.ListBodies as layout
use Rattle.index_file.specs.Lists.{member_of}
use Rattle.index_file.proofs.BodiesTaken.{no_body}
use Rattle.index_file.proofs.next_list.next_list.Goals as goal

pub returns-in_default-clause-err : goal.returns-in_default-clause-err
returns-in_default-clause-err c = λ other after.
    let none : (parts : List layout.Part) (sets : List (List Bool)) → ¬ IsBody parts sets c.as_slice.result.now = subst (λ o. IfNone o ((parts : List layout.Part) (sets : List (List Bool)) → ¬ IsBody parts sets c.as_slice.result.now)) c.in_default.is c.in_ok-read.ensures.none in
    no_body c.args.opener.schema.now (map member_of c.args.before.items) after c.args.body (subst (λ (bs : List ℕ). (parts : List layout.Part) (sets : List (List Bool)) → ¬ IsBody parts sets bs) c.as_slice.ensures none)

pub make_list-requires-clause-body : goal.make_list-requires-clause-body
make_list-requires-clause-body c =
    let read = c.in-Some.read in
    subst (IsBody (map part_of read.parts.items) read.alive.items) c.as_slice.ensures (subst (λ o. IfSome o (λ b. IsBody (map part_of b.parts.items) b.alive.items c.as_slice.result.now)) c.in-Some.is c.in_ok-read.ensures.some)
