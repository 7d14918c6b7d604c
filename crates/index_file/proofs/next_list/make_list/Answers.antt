use Rattle.std.proofs.Common.{List, ap, ap₂, arith, drop, flat_map, length, map, subst, sym, true, ◌++◌, ◌≡◌, ◌≤◌, ◌∙◌, ℕ}
use Rattle.std.proofs.lemmas.List.{length-map}
use Rattle.std.proofs.lemmas.Result.{IfErr-weaker, IfOk-weaker}
use Rattle.layouts.specs.AliveSets.{alive_bytes}
use Rattle.index_file.specs.Parts.{part_of}
use Rattle.index_file.specs.Places.{places_rise}
use Rattle.segment_definitions.specs.ListBodies.{part_bytes}
use Rattle.index_file.specs.Lists.{AreNext, member_of}
use Rattle.index_file.proofs.BodiesTaken.{body_begins, next_makes, none_makes, not_following}
use Rattle.index_file.proofs.next_list.make_list.Goals as goal

pub returns-then-not-places_follow-clause-err : goal.returns-then-not-places_follow-clause-err
returns-then-not-places_follow-clause-err c = λ other after.
    let parts = map part_of c.args.parts.items in
    let sets = c.args.alive.items in
    let is = c.requires.body in
    let many : c.len.result ≡ length (map member_of c.args.before.items) = omega (arith, c.len.ensures, c.args.before.ok, length-map c.args.before.items member_of) in
    let named : places_rise 0 c.len.result (map part_of c.deref.result.now) ≡ places_rise 0 (length (map member_of c.args.before.items)) parts = ap₂ (λ n ps. places_rise 0 n (map part_of ps)) many c.deref.ensures.value in
    not_following c.args.opener.schema.now (map member_of c.args.before.items) after parts sets c.args.body.now is (sym named ∙ sym c.if-not-places_follow.ensures)

pub advance-requires : goal.advance-requires
advance-requires c =
    let parts = map part_of c.args.parts.items in
    let sets = c.args.alive.items in
    let is = c.requires.body in
    subst (λ (bs : List ℕ). 5 ≤ length bs) (sym c.in_ok-bytes.ensures.cases) (body_begins parts sets c.args.body.now is).0

pub take_members-requires-clause-bytes : goal.take_members-requires-clause-bytes
take_members-requires-clause-bytes c =
    let parts = map part_of c.args.parts.items in
    let sets = c.args.alive.items in
    let is = c.requires.body in
    let begins = (body_begins parts sets c.args.body.now is).1 in
    let same : map part_of c.deref-2.result.now ≡ parts = ap (map part_of) c.deref-2.ensures.value in
    (flat_map alive_bytes sets, c.advance.ensures ∙ ap (drop 5) c.in_ok-bytes.ensures.cases ∙ begins ∙ ap (λ ps. flat_map part_bytes ps ++ flat_map alive_bytes sets) (sym same))

pub returns-clause-ok : goal.returns-clause-ok
returns-clause-ok c =
    let schema = c.args.opener.schema.now in
    let before = map member_of c.args.before.items in
    let parts = map part_of c.args.parts.items in
    let sets = c.args.alive.items in
    let is = c.requires.body in
    let many : c.len.result ≡ length (map member_of c.args.before.items) = omega (arith, c.len.ensures, c.args.before.ok, length-map c.args.before.items member_of) in
    let named : places_rise 0 c.len.result (map part_of c.deref.result.now) ≡ places_rise 0 (length (map member_of c.args.before.items)) parts = ap₂ (λ n ps. places_rise 0 n (map part_of ps)) many c.deref.ensures.value in
    let rise : places_rise 0 (length before) parts ≡ true = sym named ∙ sym c.if-not-places_follow.ensures in
    let same : map part_of c.deref-2.result.now ≡ parts = ap (map part_of) c.deref-2.ensures.value in
    IfOk-weaker c.take_members.result _ _ (λ after next. next_makes schema before (map member_of after.items) parts sets c.args.body.now is rise (subst (λ ps. AreNext schema before ps sets (map member_of after.items)) same next)) c.take_members.ensures.ok

pub returns-clause-err : goal.returns-clause-err
returns-clause-err c =
    let schema = c.args.opener.schema.now in
    let before = map member_of c.args.before.items in
    let parts = map part_of c.args.parts.items in
    let sets = c.args.alive.items in
    let is = c.requires.body in
    let same : map part_of c.deref-2.result.now ≡ parts = ap (map part_of) c.deref-2.ensures.value in
    IfErr-weaker c.take_members.result _ _ (λ fault none other after. none_makes schema before after parts sets c.args.body.now is (subst (λ ps. ¬ AreNext schema before ps sets after) same (none other after))) c.take_members.ensures.err
