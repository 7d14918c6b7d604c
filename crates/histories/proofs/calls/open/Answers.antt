use Rattle.std.proofs.Common.{inl}
use Rattle.definitions.specs.Step.{configuration_of}
use Rattle.histories.proofs.Beginnings.{opened_begins, opened_leaves}
use Rattle.histories.proofs.calls.open.Goals as goal

pub returns-clause-opening : goal.returns-clause-opening
returns-clause-opening g c = record { opened = c.open.ensures.opened; honest = c.open.ensures.honest; images = c.open.ensures.images }

pub returns-clause-begins : goal.returns-clause-begins
returns-clause-begins g c schema settings groups honest file =
    opened_begins g.D.Device g.A.Analyzer schema settings (g.A.Analyzer.analyze c.args.analyzer) groups c.args.device c.open.result honest file c.open.ensures.opened c.open.ensures.honest

pub returns-clause-lists : goal.returns-clause-lists
returns-clause-lists g c schema settings groups honest leave =
    opened_leaves g.D.Device g.A.Analyzer (configuration_of schema (g.A.Analyzer.analyze c.args.analyzer) settings) groups c.open.result (c.open.ensures.one_of schema settings groups groups honest (λ image is. inl (leave image is)))
