use Rattle.std.proofs.Common.{List, ap, arith, drop, length, map, min, pos, refl, rules, subst, sym, to_z-of_z, w64, ◌+◌, ◌-◌, ◌<◌, ◌∙◌, ◌∷◌, ◌≡◌, ◌≤◌, ◌≤ℤ◌, []}
use Rattle.std.proofs.lemmas.List.{length-map}
use mir.Val.{SFits}
use Rattle.definitions.specs.Postings.{terminated}
use Rattle.definitions.specs.Sinks.{fed}
use Rattle.docsets.proofs.MemberLaws.{least-cut, sum-greatest}
use Rattle.docsets.specs.Entries.{Entry, from}
use Rattle.docsets.specs.Members.{entries_at, least}
use Rattle.docsets.specs.ScoredEntries.{pairs_of}
use Rattle.walks.proofs.TailChanges.{drop-tail}
use Rattle.walks.proofs.UnionWalks.{all_scores, between_none, fewer_left, first_scores, free_low, gap_fed, later_from, later_left, later_on, least_terminated, left, left_is, one_less, some_here, step_far, step_later, sum_parts, take_fed}
use Rattle.walks.specs.Unions.{AreLater}
use Rattle.walks.proofs.union_walk.feed_window.Given.{Over}
use Rattle.walks.proofs.union_walk.feed_window.Goals.{After-is_low, After-take_from-taken}
use Rattle.walks.proofs.union_walk.feed_window.Goals as goal

start : (g : Over) (c : After-take_from-taken g) → List (List Entry)
start g c = map g.S.DocSet.entries c.args.scorers.now.items

-- the lists agree from the current document on
agree : (g : Over) (c : After-take_from-taken g) → AreLater c.loop-doc.doc (map g.S.DocSet.entries c.args.scorers.now.items) (map g.S.DocSet.entries c.loop-doc.scorers.items)
agree g c = (let early = c.loop-doc-test.true in subst (λ t. AreLater t (map g.S.DocSet.entries c.args.scorers.now.items) (map g.S.DocSet.entries c.loop-doc.scorers.items)) (let here : min c.loop-doc.doc c.args.free.now.until ≡ c.loop-doc.doc = omega (arith, early) in here) c.loop-doc.invariant.later)

as_many : (g : Over) (c : After-take_from-taken g) → c.args.free.now.count ≤ length (map g.S.DocSet.entries c.loop-doc.scorers.items)
as_many g c =
    let same = ap length (agree g c).same in
    let count = c.requires.count in
    let long = length-map c.args.scorers.now.items g.S.DocSet.entries in
    let cut = length-map (map g.S.DocSet.entries c.args.scorers.now.items) (from c.loop-doc.doc) in
    let other = length-map (map g.S.DocSet.entries c.loop-doc.scorers.items) (from c.loop-doc.doc) in
    omega (arith, same, count, long, cut, other)

inside : (g : Over) (c : After-take_from-taken g) → c.loop-doc.doc < terminated
inside g c = (let early = c.loop-doc-test.true in let within = c.requires.within in omega (arith, early, within))

some : (g : Over) (c : After-take_from-taken g) → 0 < length (entries_at c.loop-doc.doc (map g.S.DocSet.entries c.args.scorers.now.items))
some g c = some_here g.S.DocSet.entries g.met.S.DocSet.rising (map g.S.DocSet.entries c.args.scorers.now.items) c.loop-doc.doc c.args.free.now.count c.loop-doc.scorers.items c.loop-doc.invariant.at (inside g c) (agree g c).same

pub loop-doc-init : goal.loop-doc-init
loop-doc-init g c =
    let entries = g.S.DocSet.entries in
    let rising = g.met.S.DocSet.rising in
    let limit = g.K.Sink.limit in
    let taken = g.K.Sink.taken in
    let all = map entries c.args.scorers.now.items in
    let moved = map entries c.move_from-doc.new.scorers.items in
    let target = c.args.target in
    let until = c.args.free.now.until in
    let n = c.args.free.now.count in
    let doc = c.move_from-doc.result in
    let s = g.K.Sink.state c.args.sink.now in
    let is = c.move_from-doc.ensures.moved in
    let at = c.move_from-doc.ensures.least in
    let ahead = c.requires.ahead in
    let within = c.requires.within in
    let those = ap least (ap (drop n) is ∙ drop-tail (from target) n all) in
    let cut = least-cut target (drop n all) (omega (arith, ahead, within)) in
    let end = least_terminated entries rising target n c.args.scorers.now.items in
    let far : target ≤ doc = omega (arith, those, cut, at) in
    let small : min doc until ≤ terminated = omega (arith, within) in
    let same = to_z-of_z c.ranges.threshold in
    let threshold : _ ≡ limit s = same ∙ c.requires.threshold in
    let low : 0 < n → pos c.args.free.now.bound ≤ℤ _ = λ some. subst (λ t. pos c.args.free.now.bound ≤ℤ t) (sym same) (c.requires.low some) in
    let gap = gap_fed limit taken s all (min doc until - target) target (min doc until) (omega (arith, far, ahead)) small
    (λ d late early have. free_low limit s all d n c.args.free.now.bound _ threshold (between_none entries rising target d n doc c.args.scorers.now.items all moved is at refl late (omega (arith, early))) (c.requires.bound d late (omega (arith, early))) low have) in
    let room = c.requires.room in
    let whole = ap length (left_is target all (omega (arith, ahead, within))) in
    let fewer = fewer_left all target (min doc until) (omega (arith, far, ahead)) small in
    record {
      at = at;
      later = later_on target (min doc until) all moved (omega (arith, far, ahead)) (subst (AreLater target all) (sym is) (later_from n target all));
      far = far;
      small = omega (arith, at, those, end);
      limit = threshold;
      low = low;
      fed = sym gap;
      room = omega (arith, room, whole, fewer);
    }

pub take_from-taken-requires-clause-fits : goal.take_from-taken-requires-clause-fits
take_from-taken-requires-clause-fits g c =
    let entries = g.S.DocSet.entries in
    let parts = sum_parts c.loop-doc.doc c.args.free.now.count (map entries c.loop-doc.scorers.items) in
    let most = sum-greatest entries g.met.S.DocSet.rising c.loop-doc.doc c.loop-doc.scorers.items in
    let less = c.loop-doc.invariant.later.greatest in
    let fits = c.requires.fits in
    omega (arith, parts, most, less, fits)

pub offer_with-threshold-requires-clause-fits : goal.offer_with-threshold-requires-clause-fits
offer_with-threshold-requires-clause-fits g c =
    let it = (goal.at.offer_with-threshold-requires-clause-fits g c).After-take_from-taken in
    let entries = g.S.DocSet.entries in
    let all = map entries c.args.scorers.now.items in
    let whole = all_scores c.args.free.now.count c.loop-doc.doc (c.loop-doc.doc + 1) c.take_from-taken.result.score all (map entries c.loop-doc.scorers.items) (map entries c.take_from-taken.new.scorers.items) c.take_from-taken.ensures.score c.take_from-taken.ensures.moved (as_many g it) (agree g it).same in
    let most = sum-greatest entries g.met.S.DocSet.rising c.loop-doc.doc c.args.scorers.now.items in
    let fits = c.requires.fits in
    omega (arith, whole, most, fits)

pub offer_with-threshold-requires-clause-few : goal.offer_with-threshold-requires-clause-few
offer_with-threshold-requires-clause-few g c = λ n early. (let most = c.requires.most n early in let few = c.requires.few in omega (arith, most, few))

pub offer_with-threshold-requires-clause-bounds : goal.offer_with-threshold-requires-clause-bounds
offer_with-threshold-requires-clause-bounds g c = λ n early.
    let it = (goal.at.offer_with-threshold-requires-clause-bounds g c).After-take_from-taken in
    let entries = g.S.DocSet.entries in
    let first = first_scores (n + 1) c.args.free.now.count c.loop-doc.doc (c.loop-doc.doc + 1) (map entries c.args.scorers.now.items) (map entries c.loop-doc.scorers.items) (map entries c.take_from-taken.new.scorers.items) c.take_from-taken.ensures.moved (as_many g it) (agree g it).same (omega (arith, early)) in
    let bound = c.requires.bounds n c.loop-doc.doc early c.loop-doc.invariant.far c.loop-doc-test.true in
    omega (arith, first, bound)

pub offer_with-threshold-requires-clause-room : goal.offer_with-threshold-requires-clause-room
offer_with-threshold-requires-clause-room g c =
    let it = (goal.at.offer_with-threshold-requires-clause-room g c).After-take_from-taken in
    let all = map g.S.DocSet.entries c.args.scorers.now.items in
    let early = c.loop-doc-test.true in
    let room = c.loop-doc.invariant.room in
    let here = ap (λ t. length (left all t)) (let same : min c.loop-doc.doc c.args.free.now.until ≡ c.loop-doc.doc = omega (arith, early) in same) in
    let one = one_less all c.loop-doc.doc (inside g it) (some g it) in
    omega (arith, room, here, one)

-- ---- after a document was fed

later : (g : Over) (c : After-is_low g) → AreLater (c.loop-doc.doc + 1) (map g.S.DocSet.entries c.args.scorers.now.items) (map g.S.DocSet.entries c.offer_with-threshold.new.scorers.items)
later g c =
    let entries = g.S.DocSet.entries in
    step_later c.loop-doc.doc c.args.free.now.count (map entries c.args.scorers.now.items) (map entries c.loop-doc.scorers.items) (map entries c.take_from-taken.new.scorers.items) (map entries c.offer_with-threshold.new.scorers.items) (agree g c.before.before.before.before) c.take_from-taken.ensures.moved c.offer_with-threshold.ensures.later

-- what is left behind it makes with the sink what was to make
fed_on : (g : Over) (c : After-is_low g) → fed g.K.Sink.limit g.K.Sink.taken (g.K.Sink.state c.offer_with-threshold.new.sink) (pairs_of (left (map g.S.DocSet.entries c.args.scorers.now.items) (c.loop-doc.doc + 1))) ≡ fed g.K.Sink.limit g.K.Sink.taken (g.K.Sink.state c.args.sink.now) (pairs_of (left (map g.S.DocSet.entries c.args.scorers.now.items) c.args.target))
fed_on g c =
    let entries = g.S.DocSet.entries in
    let limit = g.K.Sink.limit in
    let taken = g.K.Sink.taken in
    let all = map entries c.args.scorers.now.items in
    let doc = c.loop-doc.doc in
    let s = g.K.Sink.state c.loop-doc.sink in
    let early = c.loop-doc-test.true in
    let it = c.before.before.before.before in
    let whole = all_scores c.args.free.now.count doc (doc + 1) c.take_from-taken.result.score all (map entries c.loop-doc.scorers.items) (map entries c.take_from-taken.new.scorers.items) c.take_from-taken.ensures.score c.take_from-taken.ensures.moved (as_many g it) (agree g it).same in
    let state = c.offer_with-threshold.ensures.state ∙ ap (λ n. fed limit taken s ((doc, n) ∷ [])) whole in
    let here : doc ≡ min doc c.args.free.now.until = omega (arith, early) in
    ap (λ u. fed limit taken u (pairs_of (left all (doc + 1)))) state
    ∙ (take_fed limit taken s all doc (inside g it) (some g it)
    ∙ (ap (λ t. fed limit taken s (pairs_of (left all t))) here
    ∙ c.loop-doc.invariant.fed))

room_on : (g : Over) (c : After-is_low g) → length (left (map g.S.DocSet.entries c.args.scorers.now.items) (c.loop-doc.doc + 1)) ≤ g.K.Sink.room c.offer_with-threshold.new.sink
room_on g c =
    let all = map g.S.DocSet.entries c.args.scorers.now.items in
    let early = c.loop-doc-test.true in
    let room = c.loop-doc.invariant.room in
    let here = ap (λ t. length (left all t)) (let same : min c.loop-doc.doc c.args.free.now.until ≡ c.loop-doc.doc = omega (arith, early) in same) in
    let one = one_less all c.loop-doc.doc (inside g c.before.before.before.before) (some g c.before.before.before.before) in
    let taken = c.offer_with-threshold.ensures.room in
    omega (arith, room, here, one, taken)

pub returns-then-not-is_low-clause-later : goal.returns-then-not-is_low-clause-later
returns-then-not-is_low-clause-later g c = later g (goal.at.returns-then-not-is_low-clause-later g c).After-is_low

pub returns-then-not-is_low-clause-fed : goal.returns-then-not-is_low-clause-fed
returns-then-not-is_low-clause-fed g c =
    let it = (goal.at.returns-then-not-is_low-clause-fed g c).After-is_low in
    let entries = g.S.DocSet.entries in
    let all = map entries c.args.scorers.now.items in
    let after = map entries c.offer_with-threshold.new.scorers.items in
    let early = c.loop-doc-test.true in
    let ahead = c.requires.ahead in
    let within = c.requires.within in
    let next : c.loop-doc.doc + 1 ≤ terminated = omega (arith, early, within) in
    ap (λ (es : List Entry). fed g.K.Sink.limit g.K.Sink.taken (g.K.Sink.state c.offer_with-threshold.new.sink) (pairs_of es)) (later_left (c.loop-doc.doc + 1) all after next (later g it) ∙ left_is (c.loop-doc.doc + 1) all next)
    ∙ (fed_on g it
    ∙ ap (λ (es : List Entry). fed g.K.Sink.limit g.K.Sink.taken (g.K.Sink.state c.args.sink.now) (pairs_of es)) (sym (left_is c.args.target all (omega (arith, ahead, within)))))

pub returns-then-not-is_low-clause-room : goal.returns-then-not-is_low-clause-room
returns-then-not-is_low-clause-room g c =
    let it = (goal.at.returns-then-not-is_low-clause-room g c).After-is_low in
    let entries = g.S.DocSet.entries in
    let all = map entries c.args.scorers.now.items in
    let after = map entries c.offer_with-threshold.new.scorers.items in
    let early = c.loop-doc-test.true in
    let within = c.requires.within in
    let next : c.loop-doc.doc + 1 ≤ terminated = omega (arith, early, within) in
    let same = ap length (later_left (c.loop-doc.doc + 1) all after next (later g it) ∙ left_is (c.loop-doc.doc + 1) all next) in
    let room = room_on g it in
    omega (arith, same, room)

beyond : (g : Over) (c : After-is_low g) → c.loop-doc.doc < c.take_from-taken.result.next
beyond g c = step_far c.loop-doc.doc c.args.free.now.count c.take_from-taken.result.next (map g.S.DocSet.entries c.loop-doc.scorers.items) (map g.S.DocSet.entries c.take_from-taken.new.scorers.items) (inside g c.before.before.before.before) c.take_from-taken.ensures.moved c.take_from-taken.ensures.next

pub loop-doc-smaller : goal.loop-doc-smaller
loop-doc-smaller g c =
    let it = (goal.at.loop-doc-smaller g c).After-is_low in
    let far = beyond g it in
    let small = inside g it.before.before.before.before in
    omega (arith, far, small)

pub loop-doc-preserved : goal.loop-doc-preserved
loop-doc-preserved g c =
    let it = (goal.at.loop-doc-preserved g c).After-is_low in
    let entries = g.S.DocSet.entries in
    let rising = g.met.S.DocSet.rising in
    let limit = g.K.Sink.limit in
    let taken = g.K.Sink.taken in
    let all = map entries c.args.scorers.now.items in
    let ess = map entries c.loop-doc.scorers.items in
    let moved = map entries c.take_from-taken.new.scorers.items in
    let after = map entries c.offer_with-threshold.new.scorers.items in
    let until = c.args.free.now.until in
    let n = c.args.free.now.count in
    let doc = c.loop-doc.doc in
    let next = c.take_from-taken.result.next in
    let s = g.K.Sink.state c.offer_with-threshold.new.sink in
    let early_doc = c.loop-doc-test.true in
    let within = c.requires.within in
    let far = beyond g it in
    let so_far = c.loop-doc.invariant.far in
    let at = c.take_from-taken.ensures.next in
    let small : min next until ≤ terminated = omega (arith, within) in
    let fits : SFits w64 c.offer_with-threshold.result = search rules in
    let threshold : _ ≡ limit s = to_z-of_z fits ∙ c.offer_with-threshold.ensures.next in
    let low = c.is_low.ensures c.if-not-is_low.false in
    let same = (later_on doc (doc + 1) all ess (omega arith) (agree g it.before.before.before.before)).same in
    let gap = gap_fed limit taken s all (min next until - (doc + 1)) (doc + 1) (min next until) (omega (arith, far, early_doc)) small
    (λ d late early have. free_low limit s all d n c.args.free.now.bound _ threshold (between_none entries rising (doc + 1) d n next c.args.scorers.now.items ess moved c.take_from-taken.ensures.moved at same late (omega (arith, early))) (c.requires.bound d (omega (arith, late, so_far)) (omega (arith, early))) low have) in
    let room = room_on g it in
    let fewer = fewer_left all (doc + 1) (min next until) (omega (arith, far, early_doc)) small in
    let lowest = ap least (ap (drop n) c.take_from-taken.ensures.moved ∙ drop-tail (from (doc + 1)) n ess) in
    let end = least_terminated entries rising (doc + 1) n c.loop-doc.scorers.items in
    record {
      at = at ∙ ap least (sym c.offer_with-threshold.ensures.rest);
      later = later_on (doc + 1) (min next until) all after (omega (arith, far, early_doc)) (later g it);
      far = omega (arith, far, so_far);
      small = omega (arith, at, lowest, end);
      limit = threshold;
      low = low;
      fed = sym gap ∙ fed_on g it;
      room = omega (arith, room, fewer);
    }

pub returns-clause-fed : goal.returns-clause-fed
returns-clause-fed g c =
    let entries = g.S.DocSet.entries in
    let limit = g.K.Sink.limit in
    let taken = g.K.Sink.taken in
    let all = map entries c.args.scorers.now.items in
    let ess = map entries c.loop-doc.scorers.items in
    let until = c.args.free.now.until in
    let s = g.K.Sink.state c.loop-doc.sink in
    let late = c.loop-doc-test.false in
    let ahead = c.requires.ahead in
    let within = c.requires.within in
    let here : min c.loop-doc.doc until ≡ until = omega (arith, late) in
    let later : AreLater until all ess = subst (λ t. AreLater t all ess) here c.loop-doc.invariant.later in
    ap (λ (es : List Entry). fed limit taken s (pairs_of es)) (later_left until all ess within later ∙ left_is until all within)
    ∙ (ap (λ t. fed limit taken s (pairs_of (left all t))) (sym here)
    ∙ (c.loop-doc.invariant.fed
    ∙ ap (λ (es : List Entry). fed limit taken (g.K.Sink.state c.args.sink.now) (pairs_of es)) (sym (left_is c.args.target all (omega (arith, ahead, within))))))

pub returns-clause-room : goal.returns-clause-room
returns-clause-room g c =
    let entries = g.S.DocSet.entries in
    let all = map entries c.args.scorers.now.items in
    let ess = map entries c.loop-doc.scorers.items in
    let until = c.args.free.now.until in
    let late = c.loop-doc-test.false in
    let within = c.requires.within in
    let here : min c.loop-doc.doc until ≡ until = omega (arith, late) in
    let later : AreLater until all ess = subst (λ t. AreLater t all ess) here c.loop-doc.invariant.later in
    let same = ap length (later_left until all ess within later ∙ left_is until all within) in
    let lengths = ap (λ t. length (left all t)) here in
    let room = c.loop-doc.invariant.room in
    omega (arith, same, lengths, room)
