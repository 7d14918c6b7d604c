use Rattle.std.proofs.Common.{[], ap, arith, get_or, inl, inr, length, map, sum, sym, take, ◌+◌, ◌<◌, ◌∙◌, ◌≡◌, ◌≤◌, ℕ}
use Rattle.std.proofs.Math.Seq.{map-set_same}
use Rattle.std.proofs.lemmas.List.{get_or-map, length-map}
use Rattle.definitions.proofs.Lists.{by_order}
use Rattle.docsets.proofs.MemberLaws.{sum-greatest}
use Rattle.docsets.specs.Members.{entries_at, entries_of, scores_in}
use Rattle.intersections.proofs.BoundLaws.{covered_score, sum_more}
use Rattle.walks.proofs.UnionWalks.{low_same, sum_parts}
use Rattle.walks.specs.Unions.{bound_of}
use Rattle.walks.proofs.union_walk.free_from.Goals as goal

pub returns-then-not-is_at_most-clause-same : goal.returns-then-not-is_at_most-clause-same
returns-then-not-is_at_most-clause-same g c = map-set_same g.S.DocSet.entries c.loop-i.scorers.items c.loop-i.i c.bound_before-next.new.scorer c.index_mut.result.now (c.bound_before-next.ensures.same ∙ ap g.S.DocSet.entries c.index_mut.ensures.value) ∙ c.loop-i.invariant.same

pub loop-i-preserved : goal.loop-i-preserved
loop-i-preserved g c =
    let entries = g.S.DocSet.entries in
    let all = map entries c.args.scorers.now.items in
    let items = c.loop-i.scorers.items in
    let i = c.loop-i.i in
    let here = entries c.index_mut.result.now in
    let next = c.bound_before-next.result in
    let bounds = c.add.new.self.bounds in
    let inv = c.loop-i.invariant in
    let until = c.bound_before-next.ensures.until in
    let ahead = c.bound_before-next.ensures.ahead in
    let within = inv.within in
    let few = inv.few in
    let count = inv.count in
    let more = c.add.ensures.count in
    let ends = c.add.ensures.until in
    let is = c.add.ensures.bound in
    let both = c.min-bound.ensures in
    let own = c.add.ensures.own in
    let long_all = length-map c.args.scorers.now.items entries in
    let long = length-map items entries in
    let short = ap length inv.same in
    let test = c.loop-i-test.true in
    let inside : i < length items = omega (arith, short, long, long_all, test) in
    let inside_all : i < length all = omega (arith, long_all, test) in
    let it : get_or all i [] ≡ here = ap (λ ess. get_or ess i []) (sym inv.same) ∙ (get_or-map entries items i c.index_mut.result.now [] inside ∙ ap entries (sym c.index_mut.ensures.value)) in
    let rises = g.met.S.DocSet.rising c.index_mut.result.now in
    let whole : (d : ℕ) → c.args.target ≤ d → d < c.add.new.self.until → sum (scores_in (entries_at d (take (i + 1) all))) ≤ c.add.new.self.bound = λ d late early.
    let before = inv.bound d late (omega (arith, early, ends, until)) in
    let parts = sum_more d i all inside_all in
    let score = ap (λ es. sum (scores_in (entries_of d es))) it in
    let one = covered_score d c.args.target next.until next.score 0 here rises c.bound_before-next.ensures.covers late (omega (arith, early, ends)) in
    let most = sum-greatest entries g.met.S.DocSet.rising d c.args.scorers.now.items in
    let rest = sum_parts d (i + 1) all in
    let fits = c.requires.fits in
    omega (arith, before, parts, score, one, most, rest, fits, is, both) in
    record {
      same = map-set_same entries items i c.bound_before-next.new.scorer c.index_mut.result.now (c.bound_before-next.ensures.same ∙ ap entries c.index_mut.ensures.value) ∙ inv.same;
      ahead = omega (arith, ends, ahead);
      within = omega (arith, ends, until, within);
      count = omega (arith, count, more);
      few = omega (arith, is, both);
      most = λ n early.
          by_order i n (bound_of bounds n ≤ c.add.new.self.bound)
          (λ late. (let at : n ≡ c.loop-i.free.count = omega (arith, late, early, count) in let last = ap (bound_of bounds) at ∙ own in omega (arith, last, is)))
          (λ before. (let most = inv.most n before in elim (c.add.ensures.others n) [
            | inl same ↦ omega (arith, same, most, is, both, few)
            | inr last ↦ omega (arith, last, is)
          ]));
      bound = whole;
      bounds = λ n d early late ends_later.
          by_order i n (sum (scores_in (entries_at d (take (n + 1) all))) ≤ bound_of bounds n)
          (λ far.
          let at : n ≡ c.loop-i.free.count = omega (arith, far, early, count) in
          let last = ap (bound_of bounds) at ∙ own in
          let as_far : n ≡ i = omega (arith, far, early) in
          let score = ap (λ k. sum (scores_in (entries_at d (take (k + 1) all)))) as_far in
          let most = whole d late ends_later in
          omega (arith, last, score, most, is))
          (λ before.
          let sooner = inv.bounds n d before late (omega (arith, ends_later, ends, until)) in
          let most = inv.most n before in
          elim (c.add.ensures.others n) [
            | inl same ↦ omega (arith, same, sooner)
            | inr last ↦ omega (arith, last, sooner, most, is, both, few)
          ]);
      low = λ some. low_same (sym is) (c.is_at_most.ensures c.if-not-is_at_most.false);
    }
