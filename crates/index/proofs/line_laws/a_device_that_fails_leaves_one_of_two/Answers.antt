use Rattle.std.proofs.Common.{IsTrue, refl, subst, sym, Bool}
use Rattle.definitions.specs.Step as steps
use Rattle.engine.specs.Files.{LeavesNone, LeavesOneOf}
use Rattle.index.proofs.LineLists.{AreEither, holds_none, holds_one_of, none_line, one_of_line, ready_gives, run_ends}
use Rattle.index.specs.Sessions.{StandsFor, honest_of, session_on}
use Rattle.index.proofs.line_laws.a_device_that_fails_leaves_one_of_two.Goals as goal

pub returns-clause-ready : goal.returns-clause-ready
returns-clause-ready g c s line honest stands ready now replied =
    let m = g.met.D.Device in
    let before = c.args.old.now.stage in
    let after = c.args.new.now.stage in
    let runs = ready_gives g.D.Device g.A.Analyzer g.A.Analyzer.knows_name g.A.Analyzer.analyze m.only_now m.counts_now m.remains s.analysis s.stage before after (steps.line_request line) honest stands ready now (replied.asks honest) in
    let later : IsTrue (honest_of c.args.new.now) = subst (λ (b : Bool). IsTrue b) (sym replied.honest) honest in (
      run_ends g.D.Device g.A.Analyzer g.A.Analyzer.knows_name g.A.Analyzer.analyze m.only_now m.counts_now m.remains before after (AreEither s.analysis s.stage (steps.line_request line)) runs later,
      (replied.replies s stands).failed honest ready refl,
    )

pub returns-clause-one_of : goal.returns-clause-one_of
returns-clause-one_of g c s schema settings one other line honest stands makes now replied =
    let m = g.met.D.Device in
    let before = c.args.old.now.stage in
    let after = c.args.new.now.stage in
    let cut = s.analysis.analyze in
    let runs = one_of_line g.D.Device g.A.Analyzer g.A.Analyzer.knows_name g.A.Analyzer.analyze m.only_now m.counts_now m.remains before after schema settings cut one other (steps.line_request line) honest now makes (replied.asks honest) in
    let later : IsTrue (honest_of c.args.new.now) = subst (λ (b : Bool). IsTrue b) (sym replied.honest) honest in
    let ends = run_ends g.D.Device g.A.Analyzer g.A.Analyzer.knows_name g.A.Analyzer.analyze m.only_now m.counts_now m.remains before after (LeavesOneOf schema settings cut one other) runs later in (
      ends,
      holds_one_of g.D.Device g.A.Analyzer g.A.Analyzer.knows_name g.A.Analyzer.analyze m.only_now m.counts_now m.remains after schema settings cut one other (λ held. StandsFor c.args.new.now (session_on s.analysis held)) later ends ((replied.replies s stands).emptied makes refl),
    )

pub returns-clause-none : goal.returns-clause-none
returns-clause-none g c s line honest stands makes now replied =
    let m = g.met.D.Device in
    let before = c.args.old.now.stage in
    let after = c.args.new.now.stage in
    let cut = s.analysis.analyze in
    let runs = none_line g.D.Device g.A.Analyzer g.A.Analyzer.knows_name g.A.Analyzer.analyze m.only_now m.counts_now m.remains before after cut (steps.line_request line) honest now makes (replied.asks honest) in
    let later : IsTrue (honest_of c.args.new.now) = subst (λ (b : Bool). IsTrue b) (sym replied.honest) honest in
    let ends = run_ends g.D.Device g.A.Analyzer g.A.Analyzer.knows_name g.A.Analyzer.analyze m.only_now m.counts_now m.remains before after (LeavesNone cut) runs later in (
      ends,
      holds_none g.D.Device g.A.Analyzer g.A.Analyzer.knows_name g.A.Analyzer.analyze m.only_now m.counts_now m.remains after cut (λ held. StandsFor c.args.new.now (session_on s.analysis held)) later ends ((replied.replies s stands).emptied makes refl),
    )
