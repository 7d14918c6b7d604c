use Rattle.std.proofs.Common.{subst, sym}
use Rattle.index.proofs.LineCrashes.{ready_line}
use Rattle.index.proofs.LineLists.{open_line, run_leaves}
use Rattle.index.specs.Sessions.{MakesIndex}
use Rattle.layouts.specs.RecordFiles.{IsOneOf}
use Rattle.index.proofs.line_laws.a_crash_inside_a_line_leaves_one_of_two.Goals as goal

pub returns-clause-ready : goal.returns-clause-ready
returns-clause-ready g c s schema settings x line image result honest stands is ready replied left =
    ready_line g.D.Device g.A.Analyzer g.A.Analyzer.knows_name g.A.Analyzer.analyze g.met.D.Device.only_now s c.args.old.now.stage c.args.new.now.stage schema settings x line image honest stands is ready (replied.asks honest) left

pub returns-clause-open : goal.returns-clause-open
returns-clause-open g c one other line image result honest now is replied left =
    let m = g.met.D.Device in
    let before = c.args.old.now.stage in
    let after = c.args.new.now.stage in
    run_leaves g.D.Device g.A.Analyzer g.A.Analyzer.knows_name g.A.Analyzer.analyze m.only_now m.counts_now m.remains before after (IsOneOf one other) image
    (open_line g.D.Device g.A.Analyzer g.A.Analyzer.knows_name g.A.Analyzer.analyze m.only_now m.counts_now m.remains before after one other _ honest now (subst MakesIndex (sym is) tt) (replied.asks honest)) left
