use Rattle.std.proofs.Common.{[], IfNone, None, Option, Some, add-one, ap, arith, drop, get_or, length, map, set, subst, sum, sym, take, ◌++◌, ◌+◌, ◌<◌, ◌∙◌, ◌∷◌, ◌≡◌}
use Rattle.std.proofs.lemmas.List.{drop_more, get_or-map, length-append, length-map, map-set}
use Rattle.docsets.proofs.ChangedLists.{changed-get, changed-length, changed-set}
use Rattle.docsets.proofs.MemberLaws.{one-lacks, sum-scores}
use Rattle.docsets.specs.Entries.{from}
use Rattle.docsets.specs.Members.{entries_at, entries_of, scores_in}
use Rattle.walks.proofs.MeetingWalks.{lacks_met}
use Rattle.walks.proofs.UnionWalks.{later_before}
use Rattle.walks.specs.Unions.{AreLater, moved_before}
use Rattle.walks.proofs.meeting_walk.sum_met.Given.{Over}
use Rattle.walks.proofs.meeting_walk.sum_met.Goals.{After-add_own, After-index_mut}
use Rattle.walks.proofs.meeting_walk.sum_met.Goals as goal

inside : (g : Over) (c : After-index_mut g) → c.loop-i.i < length (map g.S.DocSet.entries c.args.others.now.items)
inside g c = (let test = c.loop-i-test.true in let long = length-map c.args.others.now.items g.S.DocSet.entries in omega (arith, test, long))

here : (g : Over) (c : After-index_mut g) → get_or (map g.S.DocSet.entries c.args.others.now.items) c.loop-i.i [] ≡ g.S.DocSet.entries c.index_mut.result.now
here g c =
    let entries = g.S.DocSet.entries in
    let all = map entries c.args.others.now.items in
    let items = c.loop-i.others.items in
    let long = length-map items entries in
    let short = ap length c.loop-i.invariant.lists ∙ changed-length (from c.args.doc) c.loop-i.i all in
    let within = inside g c in
    sym (changed-get (from c.args.doc) c.loop-i.i all [] within) ∙ (ap (λ xs. get_or xs c.loop-i.i []) (sym c.loop-i.invariant.lists) ∙ (get_or-map entries items c.loop-i.i c.index_mut.result.now [] (omega (arith, short, long, within)) ∙ ap entries (sym c.index_mut.ensures.value)))

next : (g : Over) (c : After-index_mut g) → drop c.loop-i.i (map g.S.DocSet.entries c.args.others.now.items) ≡ g.S.DocSet.entries c.index_mut.result.now ∷ drop (c.loop-i.i + 1) (map g.S.DocSet.entries c.args.others.now.items)
next g c =
    let all = map g.S.DocSet.entries c.args.others.now.items in
    drop_more all c.loop-i.i [] (inside g c) ∙ ap (λ es. es ∷ drop (c.loop-i.i + 1) all) (here g c)

pub add_own-requires-clause-fits : goal.add_own-requires-clause-fits
add_own-requires-clause-fits g c =
    let it = (goal.at.add_own-requires-clause-fits g c).After-index_mut in
    let step = ap (λ ess. sum (scores_in (entries_at c.args.doc ess))) (next g it) in
    let both = sum-scores (entries_of c.args.doc (g.S.DocSet.entries c.index_mut.result.now)) (entries_at c.args.doc (drop (c.loop-i.i + 1) (map g.S.DocSet.entries c.args.others.now.items))) in
    let so_far = c.loop-i.invariant.scores in
    let fits = c.requires.fits in
    omega (arith, step, both, so_far, fits)

-- one more list is moved
moved : (g : Over) (c : After-add_own g) → map g.S.DocSet.entries (set c.loop-i.others.items c.loop-i.i c.add_own.new.scorer) ≡ moved_before (c.loop-i.i + 1) c.args.doc (map g.S.DocSet.entries c.args.others.now.items)
moved g c =
    let entries = g.S.DocSet.entries in
    let all = map entries c.args.others.now.items in
    let items = c.loop-i.others.items in
    let cut = from c.args.doc in
    let i = c.loop-i.i in
    let it = c.before in
    map-set entries items i c.add_own.new.scorer
    ∙ (ap (λ x. set (map entries items) i x) (c.add_own.ensures.moved ∙ ap cut (sym (here g it)))
    ∙ (ap (λ xs. set xs i (cut (get_or all i []))) c.loop-i.invariant.lists ∙ (changed-set cut i all [] (inside g it) ∙ ap (λ n. map cut (take n all) ++ drop n all) (sym (add-one i)))))

none_given : {T : Type 0} (r : Option T) (P : Type 0) → P → IfNone r P
none_given None P p = p
none_given (Some x) P p = tt

pub returns-in_err-total-clause-later : goal.returns-in_err-total-clause-later
returns-in_err-total-clause-later g c =
    let it = (goal.at.returns-in_err-total-clause-later g c).After-add_own in
    let all = map g.S.DocSet.entries c.args.others.now.items in
    subst (AreLater c.args.doc all) (sym (moved g it)) (later_before (c.loop-i.i + 1) c.args.doc all)

pub returns-in_err-total-clause-lacks : goal.returns-in_err-total-clause-lacks
returns-in_err-total-clause-lacks g c =
    let it = (goal.at.returns-in_err-total-clause-lacks g c).After-index_mut in
    let entries = g.S.DocSet.entries in
    let items = c.args.others.now.items in
    let test = c.loop-i-test.true in
    let long = length-map items entries in
    let few = one-lacks entries g.met.S.DocSet.rising c.args.doc c.loop-i.i items (omega (arith, test)) (ap (entries_of c.args.doc) (here g it) ∙ c.in_err-total.ensures.lacks) in
    none_given c.from_residual.result _ (lacks_met c.args.doc c.args.score (map entries items) (omega (arith, few, long)))

pub loop-i-preserved : goal.loop-i-preserved
loop-i-preserved g c =
    let it = (goal.at.loop-i-preserved g c).After-add_own in
    let doc = c.args.doc in
    let es = g.S.DocSet.entries c.index_mut.result.now in
    let rest = drop (c.loop-i.i + 1) (map g.S.DocSet.entries c.args.others.now.items) in
    let many = ap (λ ess. length (entries_at doc ess)) (next g it.before) in
    let all = length-append (entries_of doc es) (entries_at doc rest) in
    let step = ap (λ ess. sum (scores_in (entries_at doc ess))) (next g it.before) in
    let both = sum-scores (entries_of doc es) (entries_at doc rest) in
    let count = c.loop-i.invariant.count in
    let so_far = c.loop-i.invariant.scores in
    let has = c.in_ok-total.ensures.has in
    let one = has.0 in
    let score = has.1 in
    record {
      lists = moved g it;
      count = omega (arith, many, all, count, one);
      scores = omega (arith, step, both, so_far, score);
    }

pub returns-clause-later : goal.returns-clause-later
returns-clause-later g c =
    let all = map g.S.DocSet.entries c.args.others.now.items in
    subst (AreLater c.args.doc all) (sym c.loop-i.invariant.lists) (later_before c.loop-i.i c.args.doc all)
