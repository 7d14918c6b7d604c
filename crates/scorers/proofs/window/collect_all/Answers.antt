use Rattle.std.proofs.Common.{[], List, add-one, ap, arith, drop, get_or, length, map, set, subst, sum, sym, take, ◌++◌, ◌+◌, ◌∙◌, ◌∷◌, ◌≡◌, ◌<◌}
use Rattle.std.proofs.lemmas.List.{drop_all, drop_more, get_or-map, length-map, map-set}
use Rattle.docsets.proofs.MemberLaws.{sum-scores}
use Rattle.docsets.specs.Entries.{Entry, first, from}
use Rattle.docsets.specs.Members.{entries_at, entries_of, scores_in}
use Rattle.docsets.proofs.ChangedLists.{changed-all, changed-get, changed-length, changed-set}
use Rattle.docsets.proofs.MemberLaws.{least-get}
use Rattle.scorers.specs.Windows.{Moves}
use Rattle.scorers.proofs.WindowLaws.{Moves-list, Moves-on}
use Rattle.scorers.proofs.window.collect_all.Given.{Over}
use Rattle.scorers.proofs.window.collect_all.Goals.{After-index_mut}
use Rattle.scorers.proofs.window.collect_all.Goals as goal

-- the cursor that comes next is where it was
within : (g : Over) (c : After-index_mut g) → c.loop-i.i < length (map g.S.DocSet.entries c.args.docsets.now.items)
within g c = let long = length-map c.args.docsets.now.items g.S.DocSet.entries in omega (arith, long)

untouched : (g : Over) (c : After-index_mut g) → get_or (map g.S.DocSet.entries c.args.docsets.now.items) c.loop-i.i [] ≡ g.S.DocSet.entries c.index_mut.result.now
untouched g c =
    let entries = g.S.DocSet.entries in
    let all = map entries c.args.docsets.now.items in
    let cut = from c.args.horizon in
    let i = c.loop-i.i in
    let lists = c.loop-i.invariant.lists in
    let short = ap length lists ∙ changed-length cut i all in
    let long = length-map c.loop-i.docsets.items entries in
    let inside = within g c in
    sym (changed-get cut i all [] inside) ∙ (ap (λ xs. get_or xs i []) (sym lists) ∙ (get_or-map entries c.loop-i.docsets.items i c.index_mut.result.now [] (omega (arith, short, long, inside)) ∙ ap entries (sym c.index_mut.ensures.value)))

next : (g : Over) (c : After-index_mut g) → drop c.loop-i.i (map g.S.DocSet.entries c.args.docsets.now.items) ≡ g.S.DocSet.entries c.index_mut.result.now ∷ drop (c.loop-i.i + 1) (map g.S.DocSet.entries c.args.docsets.now.items)
next g c =
    let all = map g.S.DocSet.entries c.args.docsets.now.items in
    drop_more all c.loop-i.i [] (within g c) ∙ ap (λ es. es ∷ drop (c.loop-i.i + 1) all) (untouched g c)

pub collect-requires-clause-ahead : goal.collect-requires-clause-ahead
collect-requires-clause-ahead g c =
    let all = map g.S.DocSet.entries c.args.docsets.now.items in
    let low = least-get all c.loop-i.i [] (within g (goal.at.collect-requires-clause-ahead g c).After-index_mut) in
    let same = ap first (untouched g (goal.at.collect-requires-clause-ahead g c).After-index_mut) in
    let ahead = c.requires.ahead in
    omega (arith, low, same, ahead)

pub collect-requires-clause-fits : goal.collect-requires-clause-fits
collect-requires-clause-fits g c = λ d l h.
    let entries = g.S.DocSet.entries in
    let all = map entries c.args.docsets.now.items in
    let kept = c.loop-i.invariant.moved.totals d l h in
    let fits = c.requires.fits d l h in
    let parts = ap (λ ess. sum (scores_in (entries_at d ess))) (next g (goal.at.collect-requires-clause-fits g c).After-index_mut) in
    let both = sum-scores (entries_of d (entries c.index_mut.result.now)) (entries_at d (drop (c.loop-i.i + 1) all)) in
    omega (arith, kept, fits, parts, both)

pub loop-i-preserved : goal.loop-i-preserved
loop-i-preserved g c =
    let entries = g.S.DocSet.entries in
    let answer = g.C.ScoreCombiner.answer in
    let total = g.C.ScoreCombiner.total in
    let all = map entries c.args.docsets.now.items in
    let cut = from c.args.horizon in
    let i = c.loop-i.i in
    let inv = c.loop-i.invariant in
    record {
      lists = map-set entries c.loop-i.docsets.items i c.collect.new.scorer
          ∙ (ap (λ x. set (map entries c.loop-i.docsets.items) i x) (c.collect.ensures.rest ∙ ap cut (sym (untouched g (goal.at.loop-i-preserved g c).After-index_mut)))
          ∙ (ap (λ xs. set xs i (cut (get_or all i []))) inv.lists ∙ (changed-set cut i all [] (within g (goal.at.loop-i-preserved g c).After-index_mut) ∙ ap (λ n. map cut (take n all) ++ drop n all) (sym (add-one i)))));
      moved = Moves-on answer total c.args.fresh c.args.start c.args.horizon c.args.present.now c.args.slots.now.items (λ d. entries_at d all) c.loop-i.present c.loop-i.slots.items (λ d. entries_at d (drop i all)) c.collect.new.present c.collect.new.slots.items (λ d. entries_at d (drop (i + 1) all)) inv.moved
          (Moves-list answer total c.args.fresh c.args.start c.args.horizon c.loop-i.present c.loop-i.slots.items c.collect.new.present c.collect.new.slots.items (entries c.index_mut.result.now) (drop i all) (drop (i + 1) all) (next g (goal.at.loop-i-preserved g c).After-index_mut) c.collect.ensures.moved);
      cleared = c.collect.ensures.cleared;
    }

pub returns-clause-rest : goal.returns-clause-rest
returns-clause-rest g c =
    let all = map g.S.DocSet.entries c.args.docsets.now.items in
    let long = length-map c.args.docsets.now.items g.S.DocSet.entries in
    c.loop-i.invariant.lists ∙ changed-all (from c.args.horizon) c.loop-i.i all (omega (arith, long))

pub returns-clause-moved : goal.returns-clause-moved
returns-clause-moved g c =
    let answer = g.C.ScoreCombiner.answer in
    let total = g.C.ScoreCombiner.total in
    let all = map g.S.DocSet.entries c.args.docsets.now.items in
    let long = length-map c.args.docsets.now.items g.S.DocSet.entries in
    let P : List (List Entry) → Type 0 = λ ess. Moves answer total c.args.fresh c.args.start c.args.horizon c.args.present.now c.args.slots.now.items (λ d. entries_at d all) c.loop-i.present c.loop-i.slots.items (λ d. entries_at d ess) in
    subst P (drop_all c.loop-i.i all (omega (arith, long))) c.loop-i.invariant.moved
