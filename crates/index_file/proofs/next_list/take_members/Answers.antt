-- What is taken of the next part and of its flags is the next member, and where there is none there is no list.
use Rattle.std.proofs.Common.{[], IsSome, ap, arith, drop, get_or, length, map, refl, subst, sym, ◌+◌, ◌++◌, ◌<◌, ◌≡◌, ◌∙◌, ◌∷◌}
use Rattle.std.specs.List.{AllByRecursion}
use Rattle.std.specs.Option.{option_to_list}
use Rattle.std.proofs.lemmas.List.{drop_all, length-drop, map-append}
use Rattle.std.proofs.lemmas.Result.{err_from_is_err_and}
use Rattle.segment.specs.Opened.{IsOpened}
use Rattle.index_file.specs.Parts.{part_of}
use Rattle.index_file.specs.declared.part.Part.TheVariants.{Kept}
use Rattle.index_file.specs.Lists.{IsListed, member_of}
use Rattle.index_file.specs.Reading.{IsLeft}
use Rattle.segment_definitions.specs.ListBodies.{IsMember}
use Rattle.segment_definitions.specs.Segments.{IsSegment}
use Rattle.index_file.specs.declared.segment_opener.Opener.{Opener}
use Rattle.index_file.proofs.ListsMade.{AreSoFar, all_left, here_left, next_member, none_flagged, none_taken, one_more}
use Rattle.definitions.proofs.Lists.{all_push as all_more}
use Rattle.index_file.proofs.next_list.take_members.Goals as goal

pub take-requires : goal.take-requires
take-requires c =
    let parts = c.args.parts.now in
    let i = c.loop-part.part-index in
    let left = c.loop-part.invariant.left in
    (c.args.before.items, map part_of (drop (i + 1) parts), left.0, subst (λ ps. IsLeft c.args.before.items ps left.0 c.loop-part.reader) (here_left part_of parts i (Kept 0) c.loop-part-test.true) left.1)

pub returns-in_err-segment-clause-err : goal.returns-in_err-segment-clause-err
returns-in_err-segment-clause-err c =
    let p = err_from_is_err_and c.from_residual.result c.from_residual.ensures.1 in
    let schema = c.args.opener.schema.now in
    let before = c.args.before.items in
    let parts = c.args.parts.now in
    let i = c.loop-part.part-index in
    let inv = c.loop-part.invariant in
    let rest = map part_of (drop (i + 1) parts) in
    let here = here_left part_of parts i (Kept 0) c.loop-part-test.true in
    let left = subst (λ ps. IsLeft before ps inv.left.0 c.loop-part.reader) here inv.left.1 in
    let so_far = subst (λ ps. AreSoFar schema (map member_of before) (map part_of parts) c.args.alive.items ps c.loop-part.alive.items (map member_of c.loop-part.members.items)) here inv.so_far in
    let some : 0 < length c.loop-part.alive.items = omega (arith, inv.each, length-drop i parts, c.loop-part-test.true) in
    rw (p.1, p.2) (λ other after. none_taken schema (map member_of before) (map part_of parts) c.args.alive.items (part_of (get_or parts i (Kept 0))) rest c.loop-part.alive.items (map member_of c.loop-part.members.items) after so_far some
    (λ m of_part member. c.in_err-segment.ensures.err before rest inv.left.0 left other m of_part (subst (λ (o : Opener). IsMember (IsSegment o.schema.now) m) (sym inv.opener) member)))

pub returns-in_err-member-clause-err : goal.returns-in_err-member-clause-err
returns-in_err-member-clause-err c =
    let p = err_from_is_err_and c.from_residual-in_err-member.result c.from_residual-in_err-member.ensures.1 in
    let schema = c.args.opener.schema.now in
    let before = c.args.before.items in
    let parts = c.args.parts.now in
    let i = c.loop-part.part-index in
    let inv = c.loop-part.invariant in
    let segment = c.in_ok-segment.segment in
    let rest = map part_of (drop (i + 1) parts) in
    let here = here_left part_of parts i (Kept 0) c.loop-part-test.true in
    let left = subst (λ ps. IsLeft before ps inv.left.0 c.loop-part.reader) here inv.left.1 in
    let so_far = subst (λ ps. AreSoFar schema (map member_of before) (map part_of parts) c.args.alive.items ps c.loop-part.alive.items (map member_of c.loop-part.members.items)) here inv.so_far in
    let some : IsSome c.pop_front.result = c.pop_front.ensures.variant.1 (omega (arith, inv.each, length-drop i parts, c.loop-part-test.true, c.loop-part.alive.ok)) in
    let opened = subst (λ (o : Opener). IsOpened o.schema.now segment) inv.opener c.in_ok-segment.ensures.ok in
    rw (p.1, p.2) (λ other after. none_flagged schema (map member_of before) (map part_of parts) c.args.alive.items (part_of (get_or parts i (Kept 0))) rest c.loop-part.alive.items c.pop_front.new.self.items c.pop_front.result (map member_of c.loop-part.members.items) after segment
    so_far c.pop_front.ensures.items some opened (c.in_ok-segment.ensures.part before rest inv.left.0 left) c.in_err-member.ensures.err.1)

pub returns-in_err-push-clause-err : goal.returns-in_err-push-clause-err
returns-in_err-push-clause-err c =
    let p = err_from_is_err_and c.from_residual-in_err-push.result c.from_residual-in_err-push.ensures.1 in
    rw (p.1, p.2) (λ other after all. other refl)

pub loop-part-preserved : goal.loop-part-preserved
loop-part-preserved c =
    let schema = c.args.opener.schema.now in
    let before = c.args.before.items in
    let parts = c.args.parts.now in
    let i = c.loop-part.part-index in
    let inv = c.loop-part.invariant in
    let segment = c.in_ok-segment.segment in
    let member = c.in_ok-member.member in
    let part = part_of (get_or parts i (Kept 0)) in
    let rest = map part_of (drop (i + 1) parts) in
    let here = here_left part_of parts i (Kept 0) c.loop-part-test.true in
    let left = subst (λ ps. IsLeft before ps inv.left.0 c.loop-part.reader) here inv.left.1 in
    let opened = subst (λ (o : Opener). IsOpened o.schema.now segment) inv.opener c.in_ok-segment.ensures.ok in
    let is = c.in_ok-member.ensures.ok in
    let next = next_member schema (map member_of before) part segment member opened (c.in_ok-segment.ensures.part before rest inv.left.0 left) is.0 is.2 in
    let sets : c.loop-part.alive.items ≡ member.alive ∷ c.pop_front.new.self.items = c.pop_front.ensures.items ∙ ap (λ o. option_to_list o ++ c.pop_front.new.self.items) (sym is.1) in
    let so_far = subst (λ ps. AreSoFar schema (map member_of before) (map part_of parts) c.args.alive.items ps c.loop-part.alive.items (map member_of c.loop-part.members.items)) here inv.so_far in
    let flagged = subst (λ ss. AreSoFar schema (map member_of before) (map part_of parts) c.args.alive.items (part ∷ rest) ss (map member_of c.loop-part.members.items)) sets so_far in
    let pushed = c.in_ok-push.ensures.items in
    let more = one_more schema (map member_of before) (map part_of parts) c.args.alive.items part rest member.alive c.pop_front.new.self.items (map member_of c.loop-part.members.items) (member_of member) flagged next.0 in
    record {
      left = (inv.left.0, c.in_ok-segment.ensures.left before rest inv.left.0 left);
      so_far = subst (λ ms. AreSoFar schema (map member_of before) (map part_of parts) c.args.alive.items rest c.pop_front.new.self.items ms) (sym (ap (map member_of) pushed ∙ map-append member_of c.loop-part.members.items (member ∷ []))) more;
      listed = subst (AllByRecursion (IsListed schema)) (sym pushed) (all_more (IsListed schema) c.loop-part.members.items member inv.listed next.1);
      each = omega (arith, inv.each, ap length sets, length-drop i parts, length-drop (i + 1) parts, c.loop-part-test.true);
      opener = c.in_ok-segment.ensures.opener ∙ inv.opener;
    }

pub returns-clause-ok : goal.returns-clause-ok
returns-clause-ok c =
    let parts = c.args.parts.now in
    let i = c.loop-part.part-index in
    let inv = c.loop-part.invariant in
    let none : drop i parts ≡ [] = drop_all i parts (omega (arith, c.loop-part-test.false)) in
    all_left c.args.opener.schema.now (map member_of c.args.before.items) (map part_of parts) c.args.alive.items (map part_of (drop i parts)) c.loop-part.alive.items (map member_of c.loop-part.members.items) inv.so_far (ap (map part_of) none) (inv.each ∙ ap length none)
