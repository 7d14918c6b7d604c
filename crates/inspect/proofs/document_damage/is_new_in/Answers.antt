use Rattle.std.proofs.Common.{IfSome, map, subst}
use Rattle.std.specs.Prelude.{Contains}
use Rattle.index_file.specs.Bodies.{IsBody}
use Rattle.index_file.specs.Parts.{part_of}
use Rattle.inspect.proofs.Bodies.{not_new}
use Rattle.segment_definitions.specs.ListBodies.{fresh}
use Rattle.inspect.proofs.document_damage.is_new_in.Goals as goal

pub returns-in-Some-clause-yes : goal.returns-in-Some-clause-yes
returns-in-Some-clause-yes c = λ told.
    let read = c.in-Some.read in
    let is = subst (λ o. IfSome o (λ b. IsBody (map part_of b.parts.items) b.alive.items c.args.body.now)) c.in-Some.is c.in_ok-read.ensures.some in
    (map part_of read.parts.items, read.alive.items, is, subst (λ ps. Contains (map part_of ps) (fresh c.args.segment.now)) c.deref.ensures.value (c.has_fresh.ensures.yes told))

pub returns-in-Some-clause-no : goal.returns-in-Some-clause-no
returns-in-Some-clause-no c = λ told.
    let read = c.in-Some.read in
    let is = subst (λ o. IfSome o (λ b. IsBody (map part_of b.parts.items) b.alive.items c.args.body.now)) c.in-Some.is c.in_ok-read.ensures.some in
    not_new c.args.body.now c.args.segment.now (map part_of read.parts.items) read.alive.items is (subst (λ ps. ¬ Contains (map part_of ps) (fresh c.args.segment.now)) c.deref.ensures.value (c.has_fresh.ensures.no told))
