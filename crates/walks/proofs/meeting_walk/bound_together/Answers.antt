use Rattle.std.proofs.Common.{[], ap, arith, get_or, length, map, sum, sym, ◌+◌, ◌<◌, ◌∙◌, ◌≡◌}
use Rattle.std.proofs.Math.Seq.{map-set_same}
use Rattle.std.proofs.lemmas.List.{get_or-map, length-map, take_all}
use Rattle.docsets.proofs.MemberLaws.{sum-greatest}
use Rattle.docsets.specs.Members.{entries_at, entries_of, scores_in}
use Rattle.intersections.proofs.BoundLaws.{covered_score, sum_more}
use Rattle.walks.proofs.UnionWalks.{sum_parts}
use Rattle.walks.proofs.meeting_walk.bound_together.Goals as goal

pub loop-i-preserved : goal.loop-i-preserved
loop-i-preserved g c =
    let entries = g.S.DocSet.entries in
    let all = map entries c.args.others.now.items in
    let items = c.loop-i.others.items in
    let i = c.loop-i.i in
    let here = entries c.index_mut.result.now in
    let bound = c.bound_before-bound.result in
    let inv = c.loop-i.invariant in
    let ends = c.bound_before-bound.ensures.until in
    let far = inv.until in
    let score = c.beside-together.ensures.score in
    let until = c.beside-together.ensures.until in
    let ahead = c.bound_before-bound.ensures.ahead in
    let long_all = length-map c.args.others.now.items entries in
    let long = length-map items entries in
    let short = ap length inv.same in
    let test = c.loop-i-test.true in
    let inside : i < length items = omega (arith, short, long, long_all, test) in
    let inside_all : i < length all = omega (arith, long_all, test) in
    let it : get_or all i [] ≡ here = ap (λ ess. get_or ess i []) (sym inv.same) ∙ (get_or-map entries items i c.index_mut.result.now [] inside ∙ ap entries (sym c.index_mut.ensures.value)) in
    let rises = g.met.S.DocSet.rising c.index_mut.result.now in
    record {
      same = map-set_same entries items i c.bound_before-bound.new.scorer c.index_mut.result.now (c.bound_before-bound.ensures.same ∙ ap entries c.index_mut.ensures.value) ∙ inv.same;
      few = omega (arith, score);
      ahead = omega (arith, until, ahead);
      until = omega (arith, until, ends, far);
      bound = λ d late early.
          let before = inv.bound d late (omega (arith, early, until, ends)) in
          let parts = sum_more d i all inside_all in
          let own = ap (λ es. sum (scores_in (entries_of d es))) it in
          let one = covered_score d c.args.target bound.until bound.score 0 here rises c.bound_before-bound.ensures.covers late (omega (arith, early, until)) in
          let most = sum-greatest entries g.met.S.DocSet.rising d c.args.others.now.items in
          let whole = sum_parts d (i + 1) all in
          let fits = c.requires.fits in
          omega (arith, before, parts, own, one, score, most, whole, fits);
    }

pub returns-clause-bound : goal.returns-clause-bound
returns-clause-bound g c = λ d late early.
    let entries = g.S.DocSet.entries in
    let all = map entries c.args.others.now.items in
    let long_all = length-map c.args.others.now.items entries in
    let test = c.loop-i-test.false in
    let whole = ap (λ ess. sum (scores_in (entries_at d ess))) (take_all c.loop-i.i all (omega (arith, long_all, test))) in
    let bound = c.loop-i.invariant.bound d late early in
    omega (arith, whole, bound)
