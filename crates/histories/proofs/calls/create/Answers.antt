use Rattle.histories.proofs.Beginnings.{created_begins}
use Rattle.histories.proofs.calls.create.Goals as goal

pub returns-clause-begins : goal.returns-clause-begins
returns-clause-begins g c honest = created_begins g.D.Device g.A.Analyzer _ c.args.device c.create.result honest c.create.ensures.ok c.create.ensures.honest (c.create.ensures.rests honest)
