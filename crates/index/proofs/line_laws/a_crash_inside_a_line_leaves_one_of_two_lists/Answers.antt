use Rattle.index.proofs.LineLists.{AreEither, none_line, one_of_line, ready_gives, run_leaves}
use Rattle.definitions.specs.Step as steps
use Rattle.engine.specs.Files.{LeavesNone, LeavesOneOf}
use Rattle.index.proofs.line_laws.a_crash_inside_a_line_leaves_one_of_two_lists.Goals as goal

pub returns-clause-ready : goal.returns-clause-ready
returns-clause-ready g c s line image result honest stands ready now replied left =
    let m = g.met.D.Device in
    let before = c.args.old.now.stage in
    let after = c.args.new.now.stage in
    run_leaves g.D.Device g.A.Analyzer g.A.Analyzer.knows_name g.A.Analyzer.analyze m.only_now m.counts_now m.remains before after (AreEither s.analysis s.stage (steps.line_request line)) image
    (ready_gives g.D.Device g.A.Analyzer g.A.Analyzer.knows_name g.A.Analyzer.analyze m.only_now m.counts_now m.remains s.analysis s.stage before after (steps.line_request line) honest stands ready now (replied.asks honest)) left

pub returns-clause-one_of : goal.returns-clause-one_of
returns-clause-one_of g c schema settings cut one other line image result honest now makes replied left =
    let m = g.met.D.Device in
    let before = c.args.old.now.stage in
    let after = c.args.new.now.stage in
    run_leaves g.D.Device g.A.Analyzer g.A.Analyzer.knows_name g.A.Analyzer.analyze m.only_now m.counts_now m.remains before after (LeavesOneOf schema settings cut one other) image
    (one_of_line g.D.Device g.A.Analyzer g.A.Analyzer.knows_name g.A.Analyzer.analyze m.only_now m.counts_now m.remains before after schema settings cut one other (steps.line_request line) honest now makes (replied.asks honest)) left

pub returns-clause-none : goal.returns-clause-none
returns-clause-none g c cut line image result honest now makes replied left =
    let m = g.met.D.Device in
    let before = c.args.old.now.stage in
    let after = c.args.new.now.stage in
    run_leaves g.D.Device g.A.Analyzer g.A.Analyzer.knows_name g.A.Analyzer.analyze m.only_now m.counts_now m.remains before after (LeavesNone cut) image
    (none_line g.D.Device g.A.Analyzer g.A.Analyzer.knows_name g.A.Analyzer.analyze m.only_now m.counts_now m.remains before after cut (steps.line_request line) honest now makes (replied.asks honest)) left
