use Rattle.std.proofs.Common.{[], ap, arith, drop, get_or, length, map, set, suc, sum, sym, ◌+◌, ◌-◌, ◌<◌, ◌∙◌, ◌∷◌, ◌≡◌}
use Rattle.std.proofs.lemmas.List.{drop_all, drop_more, get_or-drop, get_or-map, length-drop, length-map, map-set}
use Rattle.docsets.proofs.MemberLaws.{least-get, sum-scores}
use Rattle.docsets.specs.Entries.{first, from}
use Rattle.docsets.specs.Members.{entries_at, entries_of, least, scores_in}
use Rattle.walks.proofs.TailChanges.{drop-tail, tail-all, tail-get, tail-length, tail-none, tail-set, tail_changed}
use Rattle.walks.proofs.UnionWalks.{least_terminated}
use Rattle.walks.proofs.union_walk.take_from.Given.{Over}
use Rattle.walks.proofs.union_walk.take_from.Goals.{After-index_mut}
use Rattle.walks.proofs.union_walk.take_from.Goals as goal

inside : (g : Over) (c : After-index_mut g) → c.loop-i.i < length (map g.S.DocSet.entries c.args.scorers.now.items)
inside g c = (let test = c.loop-i-test.true in let end = c.len-i-end.ensures in let long = length-map c.args.scorers.now.items g.S.DocSet.entries in omega (arith, test, end, long))

here : (g : Over) (c : After-index_mut g) → get_or (map g.S.DocSet.entries c.args.scorers.now.items) c.loop-i.i [] ≡ g.S.DocSet.entries c.index_mut.result.now
here g c =
    let entries = g.S.DocSet.entries in
    let all = map entries c.args.scorers.now.items in
    let items = c.loop-i.scorers.items in
    let cut = from (c.args.doc + 1) in
    let n = c.args.first in
    let i = c.loop-i.i in
    let inv = c.loop-i.invariant in
    let begun = inv.begun in
    let long = length-map items entries in
    let short = ap length inv.lists ∙ tail-length cut n (i - n) all in
    let within = inside g c in
    sym (tail-get cut n (i - n) i all [] (omega (arith, begun)) within) ∙ (ap (λ xs. get_or xs i []) (sym inv.lists) ∙ (get_or-map entries items i c.index_mut.result.now [] (omega (arith, short, long, within)) ∙ ap entries (sym c.index_mut.ensures.value)))

next : (g : Over) (c : After-index_mut g) → drop c.loop-i.i (map g.S.DocSet.entries c.args.scorers.now.items) ≡ g.S.DocSet.entries c.index_mut.result.now ∷ drop (c.loop-i.i + 1) (map g.S.DocSet.entries c.args.scorers.now.items)
next g c =
    let all = map g.S.DocSet.entries c.args.scorers.now.items in
    drop_more all c.loop-i.i [] (inside g c) ∙ ap (λ es. es ∷ drop (c.loop-i.i + 1) all) (here g c)

pub loop-i-init : goal.loop-i-init
loop-i-init g c =
    let all = map g.S.DocSet.entries c.args.scorers.now.items in
    let cut = from (c.args.doc + 1) in
    let zero : c.args.first - c.args.first ≡ 0 = omega arith in
    record {
      begun = omega arith;
      lists = sym (ap (λ j. tail_changed cut c.args.first j all) zero ∙ tail-none cut c.args.first all);
      scores = omega arith;
      least = least_terminated g.S.DocSet.entries g.met.S.DocSet.rising (c.args.doc + 1) c.args.first c.args.scorers.now.items;
      small = omega arith;
    }

pub take_one-taken-requires-clause-leads : goal.take_one-taken-requires-clause-leads
take_one-taken-requires-clause-leads g c =
    let it = (goal.at.take_one-taken-requires-clause-leads g c).After-index_mut in
    let all = map g.S.DocSet.entries c.args.scorers.now.items in
    let n = c.args.first in
    let i = c.loop-i.i in
    let begun = c.loop-i.invariant.begun in
    let within = inside g it in
    let long = length-drop n all in
    let low = least-get (drop n all) (i - n) [] (omega (arith, within, long, begun)) in
    let back : n + (i - n) ≡ i = omega (arith, begun) in
    let led = ap first (get_or-drop n all (i - n) [] ∙ (ap (λ k. get_or all k []) back ∙ here g it)) in
    let leads = c.requires.leads in
    omega (arith, low, led, leads)

pub take_one-taken-requires-clause-fits : goal.take_one-taken-requires-clause-fits
take_one-taken-requires-clause-fits g c =
    let it = (goal.at.take_one-taken-requires-clause-fits g c).After-index_mut in
    let all = map g.S.DocSet.entries c.args.scorers.now.items in
    let step = ap (λ ess. sum (scores_in (entries_at c.args.doc ess))) (next g it) in
    let both = sum-scores (entries_of c.args.doc (g.S.DocSet.entries c.index_mut.result.now)) (entries_at c.args.doc (drop (c.loop-i.i + 1) all)) in
    let so_far = c.loop-i.invariant.scores in
    let fits = c.requires.fits in
    omega (arith, step, both, so_far, fits)

pub loop-i-preserved : goal.loop-i-preserved
loop-i-preserved g c =
    let it = (goal.at.loop-i-preserved g c).After-index_mut in
    let entries = g.S.DocSet.entries in
    let all = map entries c.args.scorers.now.items in
    let items = c.loop-i.scorers.items in
    let cut = from (c.args.doc + 1) in
    let n = c.args.first in
    let i = c.loop-i.i in
    let j = i - n in
    let inv = c.loop-i.invariant in
    let begun = inv.begun in
    let at : i ≡ n + j = omega (arith, begun) in
    let more : suc j ≡ i + 1 - n = omega (arith, begun) in
    let step = ap (λ ess. sum (scores_in (entries_at c.args.doc ess))) (next g it) in
    let both = sum-scores (entries_of c.args.doc (entries c.index_mut.result.now)) (entries_at c.args.doc (drop (i + 1) all)) in
    let so_far = inv.scores in
    let score = c.take_one-taken.ensures.score in
    let parts = ap (λ ess. least (map cut ess)) (next g it) in
    let lowest = inv.least in
    let small = inv.small in
    let moved = ap first c.take_one-taken.ensures.moved in
    let now = c.take_one-taken.ensures.next in
    record {
      begun = omega (arith, begun);
      lists = map-set entries items i c.take_one-taken.new.scorer
          ∙ (ap (λ x. set (map entries items) i x) (c.take_one-taken.ensures.moved ∙ ap cut (sym (here g it)))
          ∙ (ap (λ xs. set xs i (cut (get_or all i []))) inv.lists ∙ (tail-set cut n j i all [] at (inside g it) ∙ ap (λ k. tail_changed cut n k all) more)));
      scores = omega (arith, step, both, so_far, score);
      least = omega (arith, lowest, parts, moved, now);
      small = omega (arith, now, small);
    }

pub returns-clause-moved : goal.returns-clause-moved
returns-clause-moved g c =
    let entries = g.S.DocSet.entries in
    let all = map entries c.args.scorers.now.items in
    let long = length-map c.args.scorers.now.items entries in
    c.loop-i.invariant.lists ∙ tail-all (from (c.args.doc + 1)) c.args.first (c.loop-i.i - c.args.first) all (omega (arith, long))

pub returns-clause-score : goal.returns-clause-score
returns-clause-score g c =
    let all = map g.S.DocSet.entries c.args.scorers.now.items in
    let long = length-map c.args.scorers.now.items g.S.DocSet.entries in
    let none = ap (λ ess. sum (scores_in (entries_at c.args.doc ess))) (drop_all c.loop-i.i all (omega (arith, long))) in
    let so_far = c.loop-i.invariant.scores in
    omega (arith, none, so_far)

pub returns-clause-next : goal.returns-clause-next
returns-clause-next g c =
    let entries = g.S.DocSet.entries in
    let all = map entries c.args.scorers.now.items in
    let cut = from (c.args.doc + 1) in
    let long = length-map c.args.scorers.now.items entries in
    let lists = c.loop-i.invariant.lists ∙ tail-all cut c.args.first (c.loop-i.i - c.args.first) all (omega (arith, long)) in
    let behind = ap least (ap (drop c.args.first) lists ∙ drop-tail cut c.args.first all) in
    let none = ap (λ ess. least (map cut ess)) (drop_all c.loop-i.i all (omega (arith, long))) in
    let so_far = c.loop-i.invariant.least in
    let small = c.loop-i.invariant.small in
    omega (arith, behind, none, so_far, small)
