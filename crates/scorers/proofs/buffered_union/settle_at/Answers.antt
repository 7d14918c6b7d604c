use Rattle.std.proofs.Common.{ap, arith, map, ◌-◌, ◌∙◌}
use Rattle.scorers.proofs.Clearings.{first-all, window-same, windowed-same}
use Rattle.scorers.proofs.Fillings.{window-moved, windowed-moved}
use Rattle.docsets.specs.Members.{least}
use Rattle.docsets.proofs.MemberLaws.{least-cut}
use Rattle.scorers.proofs.buffered_union.settle_at.Goals as goal

pub returns-then-target-start-lt-HORIZON-clause-same : goal.returns-then-target-start-lt-HORIZON-clause-same
returns-then-target-start-lt-HORIZON-clause-same g c =
    c.settle.ensures.same ∙ windowed-same g.C.ScoreCombiner.answer c.args.fresh c.args.present.now c.args.slots.now.items c.clear_below.new.present c.clear_below.new.slots.items c.args.start c.args.target (map g.S.DocSet.entries c.args.docsets.now.items) c.clear_below.ensures.same c.requires.begun

pub settle-requires-2-clause-window : goal.settle-requires-2-clause-window
settle-requires-2-clause-window g c =
    let entries = g.S.DocSet.entries in
    let answer = g.C.ScoreCombiner.answer in
    let total = g.C.ScoreCombiner.total in
    let ess = map entries c.args.docsets.now.items in
    let window = window-same answer total c.args.fresh (c.args.target - c.args.start) c.args.present.now c.args.slots.now.items c.clear_below.new.present c.clear_below.new.slots.items c.args.start ess c.requires.window c.clear_below.ensures.same c.clear_below.ensures.cleared in
    window-moved total c.clear_below.new.present c.clear_below.new.slots.items c.args.fresh c.args.start c.args.target ess (map entries c.move_all.new.docsets.items) window (omega arith) c.requires.small c.move_all.ensures

pub settle-requires-2-clause-ahead : goal.settle-requires-2-clause-ahead
settle-requires-2-clause-ahead g c =
    let cut = least-cut c.args.target (map g.S.DocSet.entries c.args.docsets.now.items) c.requires.small in
    let same = ap least c.move_all.ensures in
    omega (arith, cut, same)

pub returns-clause-same : goal.returns-clause-same
returns-clause-same g c =
    let entries = g.S.DocSet.entries in
    let answer = g.C.ScoreCombiner.answer in
    let ess = map entries c.args.docsets.now.items in
    c.settle-2.ensures.same
    ∙ (windowed-moved answer c.clear_below.new.present c.clear_below.new.slots.items c.args.fresh c.args.start c.args.target ess (map entries c.move_all.new.docsets.items) c.move_all.ensures
    ∙ windowed-same answer c.args.fresh c.args.present.now c.args.slots.now.items c.clear_below.new.present c.clear_below.new.slots.items c.args.start c.args.target ess c.clear_below.ensures.same c.requires.begun)

pub settle-requires-clause-found : goal.settle-requires-clause-found
settle-requires-clause-found g c =
    first-all c.clear_below.new.present (c.args.target - c.args.start) _ c.first_from-found.result c.clear_below.ensures.cleared.passed (omega arith) c.first_from-found.ensures.first

pub settle-requires-2-clause-found : goal.settle-requires-2-clause-found
settle-requires-2-clause-found g c =
    first-all c.clear_below.new.present (c.args.target - c.args.start) _ c.first_from-found.result c.clear_below.ensures.cleared.passed (omega arith) c.first_from-found.ensures.first
