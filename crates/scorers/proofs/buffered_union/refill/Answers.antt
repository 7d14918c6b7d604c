use Rattle.std.proofs.Common.{ap, arith, length, map, ◌<◌}
use Rattle.definitions.specs.Postings.{terminated}
use Rattle.scorers.proofs.Clearings.{cleared-to, none-set}
use Rattle.scorers.proofs.Fillings.{ended, filled}
use Rattle.docsets.specs.Members.{least, entries_at}
use Rattle.docsets.proofs.MemberLaws.{has-least, least-small, entries-least}
use Rattle.scorers.specs.Windows.{IsFilling}
use Rattle.scorers.proofs.buffered_union.refill.Given.{Over}
use Rattle.scorers.proofs.buffered_union.refill.Goals.{After-collect_all}
use Rattle.scorers.proofs.buffered_union.refill.Goals as goal

pub returns-then-next-eq-TERMINATED-clause-same : goal.returns-then-next-eq-TERMINATED-clause-same
returns-then-next-eq-TERMINATED-clause-same g c =
    let entries = g.S.DocSet.entries in
    let items = c.args.docsets.now.items in
    let at = c.least_of-next.ensures in
    (ended g.C.ScoreCombiner.answer g.C.ScoreCombiner.total c.args.fresh c.args.present.now c.args.slots.now.items (map entries items) c.requires.flags c.requires.slots c.requires.unused (omega (arith, at)) (λ d l. entries-least entries g.met.S.DocSet.rising d items l)).0

pub returns-then-next-eq-TERMINATED-clause-standing :
    goal.returns-then-next-eq-TERMINATED-clause-standing
returns-then-next-eq-TERMINATED-clause-standing g c =
    let entries = g.S.DocSet.entries in
    let items = c.args.docsets.now.items in
    let at = c.least_of-next.ensures in
    (ended g.C.ScoreCombiner.answer g.C.ScoreCombiner.total c.args.fresh c.args.present.now c.args.slots.now.items (map entries items) c.requires.flags c.requires.slots c.requires.unused (omega (arith, at)) (λ d l. entries-least entries g.met.S.DocSet.rising d items l)).1

pub overflow_add-next : goal.overflow_add-next
overflow_add-next g c =
    let at = c.least_of-next.ensures in
    let small = least-small g.S.DocSet.entries g.met.S.DocSet.rising c.args.docsets.now.items in
    omega (arith, at, small)

-- the window is filled anew
filling : (g : Over) (c : After-collect_all g) → IsFilling g.C.ScoreCombiner.answer g.C.ScoreCombiner.total c.args.fresh c.least_of-next.result c.min-high.result c.args.present.now c.args.slots.now.items (map g.S.DocSet.entries c.args.docsets.now.items) c.collect_all.new.present c.collect_all.new.slots.items (map g.S.DocSet.entries c.collect_all.new.docsets.items)
filling g c =
    let entries = g.S.DocSet.entries in
    let items = c.args.docsets.now.items in
    let at = c.least_of-next.ensures in
    let small = least-small entries g.met.S.DocSet.rising items in
    let isnt = c.if-next-eq-TERMINATED.false in
    let below : least (map entries items) < terminated = omega (arith, at, small, isnt) in
    record {
      least_is = at;
      below = omega (arith, at, below);
      high_is = c.min-high.ensures;
      none = λ d l. entries-least entries g.met.S.DocSet.rising d items l;
      has_next = (let has = has-least entries g.met.S.DocSet.rising items below in let same = ap (λ d. length (entries_at d (map entries items))) at in omega (arith, has, same));
      flags_fit = c.requires.flags;
      slots_fit = c.requires.slots;
      clear = none-set c.args.present.now c.requires.flags c.requires.cleared.passed;
      unused = c.requires.unused;
      fits = c.requires.fits;
      rest = c.collect_all.ensures.rest;
      moved = c.collect_all.ensures.moved;
    }

pub returns-clause-same : goal.returns-clause-same
returns-clause-same g c = (filled g.C.ScoreCombiner.answer g.C.ScoreCombiner.total c.args.fresh c.least_of-next.result c.min-high.result c.args.present.now c.args.slots.now.items (map g.S.DocSet.entries c.args.docsets.now.items) c.collect_all.new.present c.collect_all.new.slots.items (map g.S.DocSet.entries c.collect_all.new.docsets.items) (filling g (goal.at.returns-clause-same g c).After-collect_all)).0

pub returns-clause-standing : goal.returns-clause-standing
returns-clause-standing g c = (filled g.C.ScoreCombiner.answer g.C.ScoreCombiner.total c.args.fresh c.least_of-next.result c.min-high.result c.args.present.now c.args.slots.now.items (map g.S.DocSet.entries c.args.docsets.now.items) c.collect_all.new.present c.collect_all.new.slots.items (map g.S.DocSet.entries c.collect_all.new.docsets.items) (filling g (goal.at.returns-clause-standing g c).After-collect_all)).1

pub returns-then-next-eq-TERMINATED-clause-cleared :
    goal.returns-then-next-eq-TERMINATED-clause-cleared
returns-then-next-eq-TERMINATED-clause-cleared g c =
    cleared-to g.C.ScoreCombiner.answer g.C.ScoreCombiner.total c.args.present.now c.args.slots.now.items c.args.fresh 4096 0 c.requires.cleared (λ k l. absurd (omega (arith, l)))

pub collect_all-requires-clause-cleared : goal.collect_all-requires-clause-cleared
collect_all-requires-clause-cleared g c =
    cleared-to g.C.ScoreCombiner.answer g.C.ScoreCombiner.total c.args.present.now c.args.slots.now.items c.args.fresh 4096 0 c.requires.cleared (λ k l. absurd (omega (arith, l)))
