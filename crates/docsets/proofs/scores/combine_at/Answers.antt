use Rattle.std.proofs.Common.{[], ap, arith, drop, get_or, length, map, sum, sym, ◌++◌, ◌+◌, ◌∙◌, ◌∷◌, ◌≡◌, ◌<◌}
use Rattle.std.proofs.Math.Seq.{map-set_same}
use Rattle.std.proofs.lemmas.List.{drop_all, drop_more, get_or-map, length-map}
use Rattle.docsets.proofs.MemberLaws.{scores-then, sum-scores}
use Rattle.docsets.specs.Entries.{first}
use Rattle.docsets.specs.Members.{entries_at, entries_of, scores_in}
use Rattle.docsets.proofs.MemberLaws.{least-get}
use Rattle.docsets.proofs.scores.combine_at.Given.{Over}
use Rattle.docsets.proofs.scores.combine_at.Goals.{After-index_mut}
use Rattle.docsets.proofs.scores.combine_at.Goals as goal

within : (g : Over) (c : After-index_mut g) → c.loop-i.i < length c.loop-i.docsets.items
within g c =
    let entries = g.S.DocSet.entries in
    let same = ap length c.loop-i.invariant.same in
    let long = length-map c.loop-i.docsets.items entries in
    let long_all = length-map c.args.docsets.now.items entries in
    omega (arith, same, long, long_all)

here : (g : Over) (c : After-index_mut g) → get_or (map g.S.DocSet.entries c.args.docsets.now.items) c.loop-i.i [] ≡ g.S.DocSet.entries c.index_mut.result.now
here g c =
    let entries = g.S.DocSet.entries in
    ap (λ ess. get_or ess c.loop-i.i []) (sym c.loop-i.invariant.same) ∙ (get_or-map entries c.loop-i.docsets.items c.loop-i.i c.index_mut.result.now [] (within g c) ∙ ap entries (sym c.index_mut.ensures.value))

next : (g : Over) (c : After-index_mut g) → drop c.loop-i.i (map g.S.DocSet.entries c.args.docsets.now.items) ≡ g.S.DocSet.entries c.index_mut.result.now ∷ drop (c.loop-i.i + 1) (map g.S.DocSet.entries c.args.docsets.now.items)
next g c =
    let all = map g.S.DocSet.entries c.args.docsets.now.items in
    let long = length-map c.args.docsets.now.items g.S.DocSet.entries in
    drop_more all c.loop-i.i [] (omega (arith, long)) ∙ ap (λ es. es ∷ drop (c.loop-i.i + 1) all) (here g c)

pub take_score-requires-clause-leads : goal.take_score-requires-clause-leads
take_score-requires-clause-leads g c =
    let all = map g.S.DocSet.entries c.args.docsets.now.items in
    let long = length-map c.args.docsets.now.items g.S.DocSet.entries in
    let low = least-get all c.loop-i.i [] (omega (arith, long)) in
    let same = ap first (here g (goal.at.take_score-requires-clause-leads g c).After-index_mut) in
    let leads = c.requires.leads in
    omega (arith, low, same, leads)

pub take_score-requires-clause-fits : goal.take_score-requires-clause-fits
take_score-requires-clause-fits g c =
    let entries = g.S.DocSet.entries in
    let all = map entries c.args.docsets.now.items in
    let kept = c.loop-i.invariant.totals in
    let fits = c.requires.fits in
    let parts = ap (λ ess. sum (scores_in (entries_at c.args.doc ess))) (next g (goal.at.take_score-requires-clause-fits g c).After-index_mut) in
    let both = sum-scores (entries_of c.args.doc (entries c.index_mut.result.now)) (entries_at c.args.doc (drop (c.loop-i.i + 1) all)) in
    omega (arith, kept, fits, parts, both)

pub loop-i-preserved : goal.loop-i-preserved
loop-i-preserved g c =
    let entries = g.S.DocSet.entries in
    let answer = g.C.ScoreCombiner.answer in
    let all = map entries c.args.docsets.now.items in
    let more = entries_at c.args.doc (drop (c.loop-i.i + 1) all) in
    let now = entries_of c.args.doc (entries c.index_mut.result.now) in
    let step = next g (goal.at.loop-i-preserved g c).After-index_mut in
    let inv = c.loop-i.invariant in
    record {
      same = map-set_same entries c.loop-i.docsets.items c.loop-i.i c.take_score.new.scorer c.index_mut.result.now (c.take_score.ensures.same ∙ ap entries c.index_mut.ensures.value) ∙ inv.same;
      totals = (let kept = inv.totals in
          let parts = ap (λ ess. sum (scores_in (entries_at c.args.doc ess))) step in
          let both = sum-scores now more in
          let taken = c.take_score.ensures.total in
          omega (arith, kept, parts, both, taken));
      answers = λ xs. c.take_score.ensures.answer (scores_in more ++ xs) ∙ (ap (answer c.loop-i.total) (sym (scores-then now more xs)) ∙ (ap (λ ess. answer c.loop-i.total (scores_in (entries_at c.args.doc ess) ++ xs)) (sym step) ∙ inv.answers xs));
    }

pub returns-clause-answer : goal.returns-clause-answer
returns-clause-answer g c =
    let all = map g.S.DocSet.entries c.args.docsets.now.items in
    let long = length-map c.args.docsets.now.items g.S.DocSet.entries in
    let none = drop_all c.loop-i.i all (omega (arith, long)) in
    λ xs. ap (λ ess. g.C.ScoreCombiner.answer c.loop-i.total (scores_in (entries_at c.args.doc ess) ++ xs)) (sym none) ∙ c.loop-i.invariant.answers xs
