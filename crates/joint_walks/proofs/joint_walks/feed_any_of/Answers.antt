use Rattle.std.proofs.Common.{[], ap, map, refl, sym}
use Rattle.definitions.proofs.Lists.{emptied}
use Rattle.std.proofs.lemmas.Result.{on_ok_weaker}
use Rattle.joint_walks.proofs.ClauseLists.{complete, fed_such_weaker, have_any, have_without, is_fed_such, same_has}
use Rattle.joint_walks.proofs.joint_walks.feed_any_of.Goals as goal

pub feed_any-requires-clause-room : goal.feed_any-requires-clause-room
feed_any-requires-clause-room g c =
    let entries = g.S.DocSet.entries in
    let none = emptied c.args.must_nots.items _ _ (sym c.args.must_nots.ok.0) c.is_empty.ensures c.if-is_empty.true in
    λ es has. c.requires.room es (same_has 0 _ _ _ _ _ _ _ refl refl (sym (ap (map entries) none)) has)

pub returns-then-is_empty-clause-fed : goal.returns-then-is_empty-clause-fed
returns-then-is_empty-clause-fed g c =
    let entries = g.S.DocSet.entries in
    let none = emptied c.args.must_nots.items _ _ (sym c.args.must_nots.ok.0) c.is_empty.ensures c.if-is_empty.true in
    on_ok_weaker c.feed_any.result (fed_such_weaker g.K.Sink.limit g.K.Sink.taken _ _ _ _ (λ es has. same_has 0 _ _ _ _ _ _ _ refl refl (sym (ap (map entries) none)) has)) c.feed_any.ensures.fed

pub feed_without-requires-clause-room : goal.feed_without-requires-clause-room
feed_without-requires-clause-room g c =
    let some = c.in_ok-some.ensures in
    c.requires.room _ (complete g.S.DocSet.entries g.met.S.DocSet.rising 0 [] c.args.shoulds.items _ _ (have_without 0 [] (map g.S.DocSet.entries c.args.shoulds.items) (map g.S.DocSet.entries c.args.must_nots.items) _ (have_any (map g.S.DocSet.entries c.args.shoulds.items) _ some.rises some.scores)))

pub returns-clause-fed : goal.returns-clause-fed
returns-clause-fed g c =
    let some = c.in_ok-some.ensures in
    is_fed_such g.K.Sink.limit g.K.Sink.taken _ _ _ _ (complete g.S.DocSet.entries g.met.S.DocSet.rising 0 [] c.args.shoulds.items _ _ (have_without 0 [] (map g.S.DocSet.entries c.args.shoulds.items) (map g.S.DocSet.entries c.args.must_nots.items) _ (have_any (map g.S.DocSet.entries c.args.shoulds.items) _ some.rises some.scores))) c.feed_without.ensures
