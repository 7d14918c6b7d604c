use Rattle.std.proofs.Common.{[], map, subst, sym}
use Rattle.definitions.proofs.Lists.{emptied}
use Rattle.joint_walks.proofs.ClauseLists.{complete, have_all, have_without, is_fed_such, some_mapped}
use Rattle.joint_walks.specs.Together.{HasClauses, IsFedSuch}
use Rattle.joint_walks.proofs.joint_walks.feed_all_of.Goals as goal

pub feed_all-requires-clause-room : goal.feed_all-requires-clause-room
feed_all-requires-clause-room g c =
    let entries = g.S.DocSet.entries in
    let none = emptied c.args.must_nots.items _ _ (sym c.args.must_nots.ok.0) c.is_empty.ensures c.if-is_empty.true in
    λ es has. c.requires.room es (subst (λ xs. HasClauses 0 (map entries c.args.musts.items) [] (map entries xs) es) (sym none) has)

pub returns-then-is_empty : goal.returns-then-is_empty
returns-then-is_empty g c =
    let entries = g.S.DocSet.entries in
    let none = emptied c.args.must_nots.items _ _ (sym c.args.must_nots.ok.0) c.is_empty.ensures c.if-is_empty.true in
    subst (λ xs. IsFedSuch g.K.Sink.limit g.K.Sink.taken (g.K.Sink.state c.args.sink.now) (HasClauses 0 (map entries c.args.musts.items) [] (map entries xs)) (g.K.Sink.state c.feed_all.new.sink)) (sym none) c.feed_all.ensures

pub feed_without-requires-clause-room : goal.feed_without-requires-clause-room
feed_without-requires-clause-room g c =
    let entries = g.S.DocSet.entries in
    let all = c.all_of.ensures in
    c.requires.room _ (complete entries g.met.S.DocSet.rising 0 c.args.musts.items [] _ _ (have_without 0 (map entries c.args.musts.items) [] (map entries c.args.must_nots.items) _ (have_all (map entries c.args.musts.items) _ (some_mapped entries c.args.musts.items c.requires.some) all.rises all.scores)))

pub returns : goal.returns
returns g c =
    let entries = g.S.DocSet.entries in
    let all = c.all_of.ensures in
    is_fed_such g.K.Sink.limit g.K.Sink.taken _ _ _ _ (complete entries g.met.S.DocSet.rising 0 c.args.musts.items [] _ _ (have_without 0 (map entries c.args.musts.items) [] (map entries c.args.must_nots.items) _ (have_all (map entries c.args.musts.items) _ (some_mapped entries c.args.musts.items c.requires.some) all.rises all.scores))) c.feed_without.ensures
