use Rattle.std.proofs.Common.{[], ap, arith, get_or, length, map, rules, sum, sym, to_z, w64, ◌<◌, ◌∙◌, ◌≡◌}
use mir.Val.{SFits}
use Rattle.std.proofs.lemmas.Int.{to_z-of_z, to_z_pos}
use Rattle.std.proofs.Math.Seq.{map-set_same}
use Rattle.std.proofs.lemmas.List.{get_or-map, length-map, take_all}
use Rattle.definitions.specs.Scoring.{natural}
use Rattle.docsets.specs.Members.{entries_at, entries_of, scores_in}
use Rattle.intersections.proofs.BoundLaws.{covered_score, sum_more}
use Rattle.intersections.proofs.joint_windows.joint_window.Goals as goal

pub loop-i-preserved : goal.loop-i-preserved
loop-i-preserved g c =
    let entries = g.S.DocSet.entries in
    let all = map entries c.args.scorers.now.items in
    let items = c.loop-i.scorers.items in
    let i = c.loop-i.i in
    let here = entries c.index_mut.result.now in
    let window = c.window-window.result in
    let inv = c.loop-i.invariant in
    let within = inv.within in
    let near = inv.ahead in
    let until = c.min-until.ensures in
    let ahead = c.window-window.ensures.ahead in
    let long_all = length-map c.args.scorers.now.items entries in
    let long = length-map items entries in
    let short = ap length inv.same in
    let test = c.loop-i-test.true in
    let inside : i < length items = omega (arith, short, long, long_all, test) in
    let inside_all : i < length all = omega (arith, long_all, test) in
    let it : get_or all i [] ≡ here = ap (λ ess. get_or ess i []) (sym inv.same) ∙ (get_or-map entries items i c.index_mut.result.now [] inside ∙ ap entries (sym c.index_mut.ensures.value)) in
    let rises = g.met.S.DocSet.rising c.index_mut.result.now in
    let sum_is = c.with_bound-bound.ensures in
    let fits : SFits w64 window.bound = search rules in
    let as_is = ap natural (to_z-of_z w64 window.bound fits) in
    record {
      same = map-set_same entries items i c.window-window.new.self c.index_mut.result.now (c.window-window.ensures.same ∙ ap entries c.index_mut.ensures.value) ∙ inv.same;
      few = omega (arith, sum_is);
      ahead = omega (arith, until, near, ahead);
      within = omega (arith, until, within);
      covers = λ d late early.
          let before = inv.covers d late (omega (arith, early, until)) in
          let parts = sum_more d i all inside_all in
          let own = ap (λ es. sum (scores_in (entries_of d es))) it in
          let score = covered_score d c.args.target window.until (natural window.bound) 0 here rises c.window-window.ensures.covers late (omega (arith, early, until)) in
          omega (arith, before, parts, own, score, sum_is, as_is);
    }

pub returns-clause-bound : goal.returns-clause-bound
returns-clause-bound g c = λ d late early.
    let entries = g.S.DocSet.entries in
    let all = map entries c.args.scorers.now.items in
    let long_all = length-map c.args.scorers.now.items entries in
    let test = c.loop-i-test.false in
    let whole = ap (λ ess. sum (scores_in (entries_at d ess))) (take_all c.loop-i.i all (omega (arith, long_all, test))) in
    let covers = c.loop-i.invariant.covers d late early in
    let few = c.loop-i.invariant.few in
    let as_is : natural (to_z w64 c.loop-i.bound) ≡ c.loop-i.bound = ap natural (to_z_pos w64 c.loop-i.bound (omega (arith, few))) in
    omega (arith, whole, covers, as_is)
