use Rattle.std.proofs.Common.{IfNone, IfSome, ap, map, subst, sym, ◌∙◌}
use Rattle.std.specs.List.{AllByRecursion}
use Rattle.index_file.specs.Bodies.{IsBody}
use Rattle.index_file.specs.Parts.{part_of}
use Rattle.index_file.specs.Places.{places_rise}
use Rattle.inspect.proofs.Bodies.{do_follow, dont_follow}
use Rattle.inspect.specs.Reasons.{IsNewSegment}
use Rattle.inspect.proofs.record_damage.reason_of.Goals as goal

pub returns-then-not-places_follow : goal.returns-then-not-places_follow
returns-then-not-places_follow c =
    let read = c.in-Some.read in
    let parts = map part_of read.parts.items in
    let is = subst (λ o. IfSome o (λ b. IsBody (map part_of b.parts.items) b.alive.items c.args.body.now)) c.in-Some.is c.in_ok-read.ensures.some in
    (parts, read.alive.items, is, dont_follow c.args.num_before parts (ap (λ ps. places_rise 0 c.args.num_before (map part_of ps)) (sym c.deref.ensures.value) ∙ sym c.if-not-places_follow.ensures))

pub returns : goal.returns
returns c =
    let read = c.in-Some.read in
    let parts = map part_of read.parts.items in
    let is = subst (λ o. IfSome o (λ b. IsBody (map part_of b.parts.items) b.alive.items c.args.body.now)) c.in-Some.is c.in_ok-read.ensures.some in
    let all = subst (λ o. IfNone o (AllByRecursion (IsNewSegment c.args.schema.now) (map part_of c.deref-2.result.now))) c.in-None.is c.in_ok-number.ensures.none in (
      parts,
      read.alive.items,
      is,
      do_follow c.args.num_before parts (ap (λ ps. places_rise 0 c.args.num_before (map part_of ps)) (sym c.deref.ensures.value) ∙ sym c.if-not-places_follow.ensures),
      subst (λ ps. AllByRecursion (IsNewSegment c.args.schema.now) (map part_of ps)) c.deref-2.ensures.value all,
    )
