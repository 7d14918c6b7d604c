use Rattle.std.proofs.Common.{arith, map, subst, ◌+◌, ◌≡◌}
use Rattle.intersections.proofs.ThresholdLaws.{PassLow_on, none_low, one_low}
use Rattle.intersections.specs.Thresholds.{PassLow}
use Rattle.intersections.proofs.leapfrog_above.meet_above.Given.{Over}
use Rattle.intersections.proofs.leapfrog_above.meet_above.Goals.{After-meet-bound}
use Rattle.intersections.proofs.leapfrog_above.meet_above.Goals as goal

-- where they don't meet
met : (g : Over) (c : After-meet-bound g) → PassLow (g.C.ColumnThreshold.score c.args.threshold.now) (g.C.ColumnThreshold.limit c.args.threshold.now) c.args.candidate c.meet-bound.result (map g.S.DocSet.entries c.args.docsets.now.items) (map g.S.DocSet.entries c.meet-bound.new.docsets.items)
met g c = none_low _ _ c.args.candidate c.meet-bound.result (map g.S.DocSet.entries c.args.docsets.now.items) (map g.S.DocSet.entries c.meet-bound.new.docsets.items) c.meet-bound.ensures.passes

pub returns-then-bound-candidate-clause-passes : goal.returns-then-bound-candidate-clause-passes
returns-then-bound-candidate-clause-passes g c = met g (goal.at.returns-then-bound-candidate-clause-passes g c).After-meet-bound

pub returns-then-bound-candidate-clause-leads : goal.returns-then-bound-candidate-clause-leads
returns-then-bound-candidate-clause-leads g c = λ e. (let later = c.if-bound-candidate.true in absurd (omega (arith, e, later)))

pub returns-then-bound-candidate-clause-all : goal.returns-then-bound-candidate-clause-all
returns-then-bound-candidate-clause-all g c = λ e. (let later = c.if-bound-candidate.true in absurd (omega (arith, e, later)))

pub is_low-requires-clause-leads : goal.is_low-requires-clause-leads
is_low-requires-clause-leads g c =
    let up = c.meet-bound.ensures.passes.up in
    let no = c.if-bound-candidate.false in
    c.meet-bound.ensures.leads (omega (arith, up, no))

pub is_low-requires-clause-all : goal.is_low-requires-clause-all
is_low-requires-clause-all g c =
    let up = c.meet-bound.ensures.passes.up in
    let no = c.if-bound-candidate.false in
    let all = c.meet-bound.ensures.all (omega (arith, up, no)) in
    omega (arith, all)

pub returns-then-is_low-clause-passes : goal.returns-then-is_low-clause-passes
returns-then-is_low-clause-passes g c =
    let items = c.meet-bound.new.docsets.items in
    let up = c.meet-bound.ensures.passes.up in
    let no = c.if-bound-candidate.false in
    let is : c.args.candidate ≡ c.meet-bound.result = omega (arith, up, no) in
    let ess = map g.S.DocSet.entries items in
    let low = one_low (g.C.ColumnThreshold.score c.args.threshold.now) (g.C.ColumnThreshold.limit c.args.threshold.now) c.args.candidate ess c.requires (c.is_low.ensures c.if-is_low.true) in
    PassLow_on _ _ c.args.candidate c.meet-bound.result (c.args.candidate + 1) (map g.S.DocSet.entries c.args.docsets.now.items) ess ess
    (met g (goal.at.returns-then-is_low-clause-passes g c).After-meet-bound)
    (subst (λ d. PassLow (g.C.ColumnThreshold.score c.args.threshold.now) (g.C.ColumnThreshold.limit c.args.threshold.now) d (c.args.candidate + 1) ess ess) is low)

pub returns-then-is_low-clause-leads : goal.returns-then-is_low-clause-leads
returns-then-is_low-clause-leads g c = λ e. absurd (omega (arith, e))

pub returns-then-is_low-clause-all : goal.returns-then-is_low-clause-all
returns-then-is_low-clause-all g c = λ e. absurd (omega (arith, e))

pub returns-clause-passes : goal.returns-clause-passes
returns-clause-passes g c =
    let up = c.meet-bound.ensures.passes.up in
    let no = c.if-bound-candidate.false in
    let is : c.meet-bound.result ≡ c.args.candidate = omega (arith, up, no) in
    subst (λ d. PassLow (g.C.ColumnThreshold.score c.args.threshold.now) (g.C.ColumnThreshold.limit c.args.threshold.now) c.args.candidate d (map g.S.DocSet.entries c.args.docsets.now.items) (map g.S.DocSet.entries c.meet-bound.new.docsets.items)) is (met g (goal.at.returns-clause-passes g c).After-meet-bound)

pub returns-clause-leads : goal.returns-clause-leads
returns-clause-leads g c = λ e.
    (let up = c.meet-bound.ensures.passes.up in
    let no = c.if-bound-candidate.false in
    c.meet-bound.ensures.leads (omega (arith, up, no)))

pub returns-clause-all : goal.returns-clause-all
returns-clause-all g c = λ e.
    (let up = c.meet-bound.ensures.passes.up in
    let no = c.if-bound-candidate.false in
    c.meet-bound.ensures.all (omega (arith, up, no)))
