use Rattle.std.proofs.Common.{ap, arith, length, map, min, sum, sym, ◌+◌, ◌<◌, ◌∙◌, ◌≡◌, ◌≤◌, ℕ}
use Rattle.definitions.specs.Postings.{terminated}
use Rattle.docsets.specs.Entries.{first}
use Rattle.definitions.proofs.Lists.{by_order}
use Rattle.docsets.proofs.AtLeastLaws.{chosen-end, chosen-from, chosen-here, chosen-past}
use Rattle.docsets.specs.Members.{at_least, entries_at, least, scores_in}
use Rattle.docsets.proofs.MemberLaws.{entries-least, least-cut, least-small, sums-cut}
use Rattle.scorers.proofs.TwoLeastLaws.{alone-further, chosen-cut, least-ends}
use Rattle.scorers.proofs.disjunction.choose.Goals as goal

pub loop-leader-init : goal.loop-leader-init
loop-leader-init g c =
    let some = c.requires.some in
    let ess = map g.S.DocSet.entries c.args.docsets.now.items in
    let moved = c.lead-leader.ensures.moved in
    record {
      leads = c.lead-leader.ensures.least;
      count = λ l. ap (min c.args.minimum) (c.lead-leader.ensures.count l);
      same = λ make. ap (at_least c.args.minimum make) moved ∙ chosen-from c.args.minimum make ess c.args.target (omega (arith, some)) c.requires.small;
      scores = λ d. (let cut = sums-cut c.args.target d ess in let is = ap (λ xs. sum (scores_in (entries_at d xs))) moved in omega (arith, cut, is));
    }

pub loop-leader-smaller : goal.loop-leader-smaller
loop-leader-smaller g c =
    let ess = map g.S.DocSet.entries c.loop-leader.docsets.items in
    let before = c.loop-leader.leader.doc in
    let below = c.if-leader-ge-TERMINATED.false in
    let cut = least-cut (before + 1) ess (omega (arith, below)) in
    let same = ap least c.lead-leader-else-leader-eq1.ensures.moved in
    let at = c.lead-leader-else-leader-eq1.ensures.least in
    omega (arith, cut, same, at, below)

pub loop-leader-preserved : goal.loop-leader-preserved
loop-leader-preserved g c =
    let some = c.requires.some in
    let entries = g.S.DocSet.entries in
    let items = c.loop-leader.docsets.items in
    let ess = map entries items in
    let before = c.loop-leader.leader.doc in
    let below = c.if-leader-ge-TERMINATED.false in
    let inv = c.loop-leader.invariant in
    let count = inv.count (omega (arith, below)) in
    let few = c.loop-leader-test.true in
    let led = c.lead-leader-else-leader-eq1 in
    let moved = led.ensures.moved in
    let after = map entries led.new.docsets.items in
    record {
      leads = led.ensures.least;
      count = λ l. ap (min c.args.minimum) (led.ensures.count l);
      same = λ make. chosen-past c.args.minimum make ess after before (omega (arith, some)) inv.leads (omega (arith, below)) (λ d l. entries-least entries g.met.S.DocSet.rising d items l) (omega (arith, count, few)) moved ∙ inv.same make;
      scores = λ d. (let old = inv.scores d in let cut = sums-cut (before + 1) d ess in let same = ap (λ xs. sum (scores_in (entries_at d xs))) moved in omega (arith, old, cut, same));
    }

pub loop-leader-smaller-then-leader-eq1 : goal.loop-leader-smaller-then-leader-eq1
loop-leader-smaller-then-leader-eq1 g c =
    let entries = g.S.DocSet.entries in
    let leader = c.loop-leader.leader in
    let inv = c.loop-leader.invariant in
    let below = c.if-leader-ge-TERMINATED.false in
    let alone = c.if-leader-eq1.true in
    let several : 2 ≤ c.args.minimum = omega (arith, c.loop-leader-test.true, c.if-leader-eq1.true) in
    let size = inv.count (omega (arith, below)) in
    let past = c.past_alone-leader.ensures in
    let later = c.past_alone-leader.result.doc in
    let further = alone-further entries g.met.S.DocSet.rising c.loop-leader.docsets.items c.past_alone-leader.new.docsets.items leader.doc later inv.leads (omega (arith, below)) (omega (arith, size, alone, several)) past.moved past.several in
    omega (arith, further, below)

pub loop-leader-preserved-then-leader-eq1 : goal.loop-leader-preserved-then-leader-eq1
loop-leader-preserved-then-leader-eq1 g c =
    let entries = g.S.DocSet.entries in
    let ess = map entries c.loop-leader.docsets.items in
    let after = map entries c.past_alone-leader.new.docsets.items in
    let inv = c.loop-leader.invariant in
    let several : 2 ≤ c.args.minimum = omega (arith, c.loop-leader-test.true, c.if-leader-eq1.true) in
    let past = c.past_alone-leader.ensures in
    let least_is = past.least in
    let ends = least-ends after in
    let t = c.past_alone-leader.result.doc in
    record {
      leads = past.least;
      count = past.count;
      same = λ make. (let kept : at_least c.args.minimum make after ≡ at_least c.args.minimum make ess = chosen-cut c.args.minimum make ess after t (omega (arith, several)) (omega (arith, least_is, ends)) (λ d l. (let few = past.few d l in omega (arith, few, several))) past.moved in kept ∙ inv.same make);
      scores = λ d. (let old = inv.scores d in let cut = sums-cut t d ess in let same = ap (λ xs. sum (scores_in (entries_at d xs))) past.moved in omega (arith, old, cut, same));
    }

pub returns-then-leader-ge-TERMINATED-clause-at : goal.returns-then-leader-ge-TERMINATED-clause-at
returns-then-leader-ge-TERMINATED-clause-at g c =
    let some = c.requires.some in
    let entries = g.S.DocSet.entries in
    let items = c.loop-leader.docsets.items in
    let leads = c.loop-leader.invariant.leads in
    let past = c.if-leader-ge-TERMINATED.true in
    let small = least-small entries g.met.S.DocSet.rising items in
    let end : least (map entries items) ≡ terminated = omega (arith, leads, past, small) in
    λ make. sym (ap first (chosen-end c.args.minimum make (map entries items) (omega (arith, some)) end (λ d l. entries-least entries g.met.S.DocSet.rising d items l)))

pub returns-then-leader-ge-TERMINATED-clause-leads : goal.returns-then-leader-ge-TERMINATED-clause-leads
returns-then-leader-ge-TERMINATED-clause-leads g c =
    let leads = c.loop-leader.invariant.leads in
    let past = c.if-leader-ge-TERMINATED.true in
    let small = least-small g.S.DocSet.entries g.met.S.DocSet.rising c.loop-leader.docsets.items in
    omega (arith, leads, past, small)

pub returns-clause-at : goal.returns-clause-at
returns-clause-at g c =
    let some = c.requires.some in
    let entries = g.S.DocSet.entries in
    let items = c.loop-leader.docsets.items in
    let ess = map entries items in
    let none = λ (d : ℕ) (l : d < least ess). entries-least entries g.met.S.DocSet.rising d items l in
    let doc = c.loop-leader.leader.doc in
    let leads = c.loop-leader.invariant.leads in
    let small = least-small entries g.met.S.DocSet.rising items in
    let many = c.loop-leader-test.false in
    λ make. by_order terminated doc (doc ≡ first (at_least c.args.minimum make ess))
    (λ i. (let end : least ess ≡ terminated = omega (arith, leads, small, i) in leads ∙ (end ∙ sym (ap first (chosen-end c.args.minimum make ess (omega (arith, some)) end none)))))
    (λ o. (let count = c.loop-leader.invariant.count o in
    let size = ap (λ d. length (entries_at d ess)) leads in
    leads ∙ sym (ap first (chosen-here c.args.minimum make ess (omega (arith, some)) (omega (arith, leads, o)) none (omega (arith, count, size, many))))))
