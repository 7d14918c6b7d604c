use Rattle.std.proofs.Common.{[], ap, arith, drop, get_or, map, sum, sym, ◌+◌, ◌∙◌, ◌∷◌, ◌≡◌}
use Rattle.std.proofs.lemmas.List.{drop_all, drop_more, get_or-map, length-map}
use Rattle.docsets.specs.Entries.{first}
use Rattle.docsets.proofs.MemberLaws.{least-get}
use Rattle.docsets.specs.Members.{entries_at, entries_of}
use Rattle.scorers.specs.Uniting.{counts_in}
use Rattle.scorers.proofs.UnitingLaws.{counts-append}
use Rattle.scorers.proofs.united_positions.freq_at.Given.{Over}
use Rattle.scorers.proofs.united_positions.freq_at.Goals.{After-index}
use Rattle.scorers.proofs.united_positions.freq_at.Goals as goal

here : (g : Over) (c : After-index g) → get_or (map g.P.DocSet.entries c.args.docsets.now.items) c.loop-i.i [] ≡ g.P.DocSet.entries c.index.result.now
here g c = get_or-map g.P.DocSet.entries c.args.docsets.now.items c.loop-i.i c.index.result.now [] (omega arith) ∙ ap g.P.DocSet.entries (sym c.index.ensures)

-- the counts of those to come
next : (g : Over) (c : After-index g) → sum (counts_in (entries_at c.args.doc (drop c.loop-i.i (map g.P.DocSet.entries c.args.docsets.now.items)))) ≡ sum (counts_in (entries_of c.args.doc (g.P.DocSet.entries c.index.result.now))) + sum (counts_in (entries_at c.args.doc (drop (c.loop-i.i + 1) (map g.P.DocSet.entries c.args.docsets.now.items))))
next g c =
    let all = map g.P.DocSet.entries c.args.docsets.now.items in
    let long = length-map c.args.docsets.now.items g.P.DocSet.entries in
    ap (λ ess. sum (counts_in (entries_at c.args.doc ess))) (drop_more all c.loop-i.i [] (omega (arith, long)) ∙ ap (λ es. es ∷ drop (c.loop-i.i + 1) all) (here g c))
    ∙ counts-append (entries_of c.args.doc (g.P.DocSet.entries c.index.result.now)) (entries_at c.args.doc (drop (c.loop-i.i + 1) all))

pub freq_on-freq-requires-clause-leads : goal.freq_on-freq-requires-clause-leads
freq_on-freq-requires-clause-leads g c =
    let all = map g.P.DocSet.entries c.args.docsets.now.items in
    let long = length-map c.args.docsets.now.items g.P.DocSet.entries in
    let low = least-get all c.loop-i.i [] (omega (arith, long)) in
    let same = ap first (here g (goal.at.freq_on-freq-requires-clause-leads g c).After-index) in
    let leads = c.requires.leads in
    omega (arith, low, same, leads)

pub overflow_add-freq : goal.overflow_add-freq
overflow_add-freq g c =
    let parts = next g (goal.at.overflow_add-freq g c).After-index in
    let inv = c.loop-i.invariant in
    let is = c.freq_on-freq.ensures in
    let fits = c.requires.fits in
    omega (arith, parts, inv, is, fits)

pub loop-i-preserved : goal.loop-i-preserved
loop-i-preserved g c =
    let parts = next g (goal.at.loop-i-preserved g c).After-index in
    let inv = c.loop-i.invariant in
    let is = c.freq_on-freq.ensures in
    omega (arith, parts, inv, is)

pub returns : goal.returns
returns g c =
    let all = map g.P.DocSet.entries c.args.docsets.now.items in
    let long = length-map c.args.docsets.now.items g.P.DocSet.entries in
    let none = ap (λ ess. sum (counts_in (entries_at c.args.doc ess))) (drop_all c.loop-i.i all (omega (arith, long))) in
    let inv = c.loop-i.invariant in
    omega (arith, none, inv)
