use Rattle.std.proofs.Common.{List, arith, map, subst, sym}
use Rattle.docsets.specs.Entries.{Entry}
use Rattle.docsets.specs.Members.{enough}
use Rattle.intersections.specs.Differences.{without}
use Rattle.joint_walks.proofs.ClauseLists.{complete, have_both, have_without, is_fed_such, some_mapped}
use Rattle.joint_walks.specs.Together.{HasClauses}
use Rattle.joint_walks.proofs.joint_walks.feed_optional.Goals as goal

pub feed_without-requires-clause-room : goal.feed_without-requires-clause-room
feed_without-requires-clause-room g c =
    let entries = g.S.DocSet.entries in
    let musts = map entries c.args.musts.items in
    let shoulds = map entries c.args.shoulds.items in
    let nots = map entries c.args.must_nots.items in
    let some = some_mapped entries c.args.musts.items c.requires.some in
    let all = c.all_of-required.ensures in
    let any = c.in_ok-one.ensures in
    let left = all.bounded in
    let right = any.bounded in
    let fits = c.requires.fits in
    c.requires.room _ (subst (λ (es : List Entry). HasClauses 0 musts shoulds nots (without (enough 1 nots) es)) (sym c.with_sums-scorer.ensures) (complete entries g.met.S.DocSet.rising 0 c.args.musts.items c.args.shoulds.items nots _ (have_without 0 musts shoulds nots _ (have_both musts shoulds _ _ some all.rises any.rises (omega (arith, left, right, fits)) all.scores any.scores))))

pub returns-then-len-eq1-clause-fed : goal.returns-then-len-eq1-clause-fed
returns-then-len-eq1-clause-fed g c =
    let entries = g.S.DocSet.entries in
    let musts = map entries c.args.musts.items in
    let shoulds = map entries c.args.shoulds.items in
    let nots = map entries c.args.must_nots.items in
    let some = some_mapped entries c.args.musts.items c.requires.some in
    let all = c.all_of-required.ensures in
    let any = c.in_ok-one.ensures in
    let left = all.bounded in
    let right = any.bounded in
    let fits = c.requires.fits in
    is_fed_such g.K.Sink.limit g.K.Sink.taken _ _ _ _ (subst (λ (es : List Entry). HasClauses 0 musts shoulds nots (without (enough 1 nots) es)) (sym c.with_sums-scorer.ensures) (complete entries g.met.S.DocSet.rising 0 c.args.musts.items c.args.shoulds.items nots _ (have_without 0 musts shoulds nots _ (have_both musts shoulds _ _ some all.rises any.rises (omega (arith, left, right, fits)) all.scores any.scores)))) c.feed_without.ensures

pub feed_without-requires-2-clause-room : goal.feed_without-requires-2-clause-room
feed_without-requires-2-clause-room g c =
    let entries = g.S.DocSet.entries in
    let musts = map entries c.args.musts.items in
    let shoulds = map entries c.args.shoulds.items in
    let nots = map entries c.args.must_nots.items in
    let some = some_mapped entries c.args.musts.items c.requires.some in
    let all = c.all_of-required.ensures in
    let any = c.in_ok-some.ensures in
    let left = all.bounded in
    let right = any.bounded in
    let fits = c.requires.fits in
    c.requires.room _ (subst (λ (es : List Entry). HasClauses 0 musts shoulds nots (without (enough 1 nots) es)) (sym c.with_sums-scorer-2.ensures) (complete entries g.met.S.DocSet.rising 0 c.args.musts.items c.args.shoulds.items nots _ (have_without 0 musts shoulds nots _ (have_both musts shoulds _ _ some all.rises any.rises (omega (arith, left, right, fits)) all.scores any.scores))))

pub returns-clause-fed : goal.returns-clause-fed
returns-clause-fed g c =
    let entries = g.S.DocSet.entries in
    let musts = map entries c.args.musts.items in
    let shoulds = map entries c.args.shoulds.items in
    let nots = map entries c.args.must_nots.items in
    let some = some_mapped entries c.args.musts.items c.requires.some in
    let all = c.all_of-required.ensures in
    let any = c.in_ok-some.ensures in
    let left = all.bounded in
    let right = any.bounded in
    let fits = c.requires.fits in
    is_fed_such g.K.Sink.limit g.K.Sink.taken _ _ _ _ (subst (λ (es : List Entry). HasClauses 0 musts shoulds nots (without (enough 1 nots) es)) (sym c.with_sums-scorer-2.ensures) (complete entries g.met.S.DocSet.rising 0 c.args.musts.items c.args.shoulds.items nots _ (have_without 0 musts shoulds nots _ (have_both musts shoulds _ _ some all.rises any.rises (omega (arith, left, right, fits)) all.scores any.scores)))) c.feed_without-2.ensures
