use Rattle.std.proofs.Common.{[], ap, arith, drop, false, get_or, length, map, pos, refl, set, subst, sum, sym, take, to_z-of_z, ◌+◌, ◌-◌, ◌<◌, ◌∙◌, ◌≡◌}
use Rattle.std.specs.Prelude.{int_lt}
use Rattle.std.proofs.lemmas.List.{drop-set-lt, get_or-map, length-map, map-set}
use Rattle.docsets.specs.Entries.{from}
use Rattle.docsets.specs.Members.{entries_of, scores_in}
use Rattle.intersections.proofs.BoundLaws.{sum_more}
use Rattle.walks.proofs.BlockWalks.{not_above}
use Rattle.walks.proofs.MeetingWalks.{as_many}
use Rattle.walks.proofs.UnionWalks.{later_same, later_set, later_then, same_one, score_at}
use Rattle.walks.specs.Unions.{AreLater}
use Rattle.walks.proofs.union_walk.sum_above.Given.{Over}
use Rattle.walks.proofs.union_walk.sum_above.Goals.{After-index_mut}
use Rattle.walks.proofs.union_walk.sum_above.Goals as goal

pub loop-i-init : goal.loop-i-init
loop-i-init g c =
    let all = map g.S.DocSet.entries c.args.scorers.now.items in
    let n = c.args.free.now.count in
    let none : n - 0 ≡ n = omega arith in
    record {
      later = later_same c.args.doc all;
      rest = refl;
      scores = ap (λ k. c.args.score + score_at (take k all) c.args.doc) none;
    }

pub overflow_add-total : goal.overflow_add-total
overflow_add-total g c =
    let early = c.loop-i-test.true in
    let few = c.requires.few (c.args.free.now.count - c.loop-i.i - 1) (omega (arith, early)) in
    let bound = c.bound_at.ensures in
    let so_far = c.loop-i.invariant.scores in
    let fits = c.requires.fits in
    omega (arith, few, bound, so_far, fits)

pub is_at_most-requires : goal.is_at_most-requires
is_at_most-requires g c =
    let early = c.loop-i-test.true in
    let few = c.requires.few (c.args.free.now.count - c.loop-i.i - 1) (omega (arith, early)) in
    let bound = c.bound_at.ensures in
    let so_far = c.loop-i.invariant.scores in
    let fits = c.requires.fits in
    omega (arith, few, bound, so_far, fits)

pub returns-then-is_at_most-clause-later : goal.returns-then-is_at_most-clause-later
returns-then-is_at_most-clause-later g c = c.loop-i.invariant.later

pub returns-then-is_at_most-clause-rest : goal.returns-then-is_at_most-clause-rest
returns-then-is_at_most-clause-rest g c = c.loop-i.invariant.rest

pub returns-then-is_at_most-clause-low : goal.returns-then-is_at_most-clause-low
returns-then-is_at_most-clause-low g c =
    let all = map g.S.DocSet.entries c.args.scorers.now.items in
    let n = c.args.free.now.count in
    let early = c.loop-i-test.true in
    let index : n - c.loop-i.i - 1 + 1 ≡ n - c.loop-i.i = omega (arith, early) in
    let left = ap (λ k. score_at (take k all) c.args.doc) index in
    let most = c.requires.bounds (n - c.loop-i.i - 1) (omega (arith, early)) in
    let bound = c.bound_at.ensures in
    let so_far = c.loop-i.invariant.scores in
    subst (λ t. int_lt t (pos (c.args.score + score_at (take n all) c.args.doc)) ≡ false) (to_z-of_z c.ranges.threshold) (not_above _ (c.loop-i.total + c.bound_at.result) (c.args.score + score_at (take n all) c.args.doc) (c.is_at_most.ensures c.if-is_at_most.true) (omega (arith, left, most, bound, so_far)))

-- ---- one more is asked

inside : (g : Over) (c : After-index_mut g) → c.args.free.now.count - c.loop-i.i - 1 < length (map g.S.DocSet.entries c.args.scorers.now.items)
inside g c = (let early = c.loop-i-test.true in let count = c.requires.count in let long = length-map c.args.scorers.now.items g.S.DocSet.entries in omega (arith, early, count, long))

within : (g : Over) (c : After-index_mut g) → c.args.free.now.count - c.loop-i.i - 1 < length (map g.S.DocSet.entries c.loop-i.scorers.items)
within g c =
    let entries = g.S.DocSet.entries in
    let many = as_many c.args.doc (map entries c.loop-i.scorers.items) (map entries c.args.scorers.now.items) c.loop-i.invariant.later.same in
    let first = inside g c in
    omega (arith, many, first)

here : (g : Over) (c : After-index_mut g) → get_or (map g.S.DocSet.entries c.loop-i.scorers.items) (c.args.free.now.count - c.loop-i.i - 1) [] ≡ g.S.DocSet.entries c.index_mut.result.now
here g c =
    let entries = g.S.DocSet.entries in
    let items = c.loop-i.scorers.items in
    let long = length-map items entries in
    let first = within g c in
    get_or-map entries items (c.args.free.now.count - c.loop-i.i - 1) c.index_mut.result.now [] (omega (arith, first, long)) ∙ ap entries (sym c.index_mut.ensures.value)

-- its score and those to come are those that were to come
step : (g : Over) (c : After-index_mut g) → score_at (take (c.args.free.now.count - c.loop-i.i) (map g.S.DocSet.entries c.args.scorers.now.items)) c.args.doc ≡ score_at (take (c.args.free.now.count - c.loop-i.i - 1) (map g.S.DocSet.entries c.args.scorers.now.items)) c.args.doc + sum (scores_in (entries_of c.args.doc (g.S.DocSet.entries c.index_mut.result.now)))
step g c =
    let entries = g.S.DocSet.entries in
    let all = map entries c.args.scorers.now.items in
    let doc = c.args.doc in
    let last = c.args.free.now.count - c.loop-i.i - 1 in
    let early = c.loop-i-test.true in
    let index : last + 1 ≡ c.args.free.now.count - c.loop-i.i = omega (arith, early) in
    let left = ap (λ k. score_at (take k all) doc) index in
    let more = sum_more doc last all (inside g c) in
    let own = ap (λ es. sum (scores_in es)) (sym (same_one doc last (map entries c.loop-i.scorers.items) all c.loop-i.invariant.later.same (within g c) (inside g c)) ∙ ap (entries_of doc) (here g c)) in
    omega (arith, left, more, own)

pub add_score-total-requires-clause-fits : goal.add_score-total-requires-clause-fits
add_score-total-requires-clause-fits g c =
    let next = step g (goal.at.add_score-total-requires-clause-fits g c).After-index_mut in
    let so_far = c.loop-i.invariant.scores in
    let fits = c.requires.fits in
    omega (arith, next, so_far, fits)

pub loop-i-preserved : goal.loop-i-preserved
loop-i-preserved g c =
    let it = (goal.at.loop-i-preserved g c).After-index_mut in
    let entries = g.S.DocSet.entries in
    let all = map entries c.args.scorers.now.items in
    let items = c.loop-i.scorers.items in
    let doc = c.args.doc in
    let n = c.args.free.now.count in
    let last = n - c.loop-i.i - 1 in
    let es = entries c.add_score-total.new.scorer in
    let early = c.loop-i-test.true in
    let inv = c.loop-i.invariant in
    let set_in = map-set entries items last c.add_score-total.new.scorer in
    let moved = c.add_score-total.ensures.moved ∙ ap (from doc) (sym (here g it)) in
    let next = step g it in
    let so_far = inv.scores in
    let score = c.add_score-total.ensures.sum in
    let index : n - (c.loop-i.i + 1) ≡ last = omega (arith, early) in
    let left = ap (λ k. score_at (take k all) doc) index in
    record {
      later = subst (AreLater doc all) (sym set_in) (later_then doc doc all (map entries items) (set (map entries items) last es) inv.later (later_set last doc (map entries items) es (within g it) moved) (omega arith));
      rest = ap (drop n) set_in ∙ (drop-set-lt n (map entries items) last es (omega (arith, early)) ∙ inv.rest);
      scores = omega (arith, next, so_far, score, left);
    }

pub returns-clause-later : goal.returns-clause-later
returns-clause-later g c = c.loop-i.invariant.later

pub returns-clause-rest : goal.returns-clause-rest
returns-clause-rest g c = c.loop-i.invariant.rest

pub returns-clause-sum : goal.returns-clause-sum
returns-clause-sum g c =
    let all = map g.S.DocSet.entries c.args.scorers.now.items in
    let late = c.loop-i-test.false in
    let so_far = c.loop-i.invariant.scores in
    let none : c.args.free.now.count - c.loop-i.i ≡ 0 = omega (arith, late) in
    let nothing : score_at (take (c.args.free.now.count - c.loop-i.i) all) c.args.doc ≡ 0 = ap (λ k. score_at (take k all) c.args.doc) none in
    omega (arith, so_far, nothing)
