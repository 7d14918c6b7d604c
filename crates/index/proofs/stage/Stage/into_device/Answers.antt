use Rattle.std.proofs.Common.{subst}
use Rattle.index.specs.Sessions.{IsStage}
use Rattle.index.proofs.Stages.{standing_spare}
use Rattle.index.proofs.stage.Stage.into_device.Goals as goal

pub returns-in-Standing-clause-held : goal.returns-in-Standing-clause-held
returns-in-Standing-clause-held g c a s h honest =
    let knows = g.A.Analyzer.knows_name in
    let analyze = g.A.Analyzer.analyze in
    standing_spare g.D.Device g.A.Analyzer knows analyze a c.in-Standing.index c.into_device.result.0 c.into_device.result.1 s c.into_device.ensures.0 c.into_device.ensures.1 (subst (λ t. IsStage knows analyze a t s) c.in-Standing.is h) honest
